use Rattle.std.proofs.Common.{◌≡◌, ◌++◌, length}
use Rattle.cas_whole.specs.Names.{units_in}
use Rattle.cas_whole.proofs.roster.roster_of.Given as goal

abbrev pub invariant-modules : goal.invariant-modules
invariant-modules l = l.units ++ units_in l.rest ≡ units_in l.modules

abbrev pub decreases-modules : goal.decreases-modules
decreases-modules l = length l.rest
