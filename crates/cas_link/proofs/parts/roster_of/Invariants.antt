use Rattle.std.proofs.Common.{◌≡◌, ◌++◌, length}
use Rattle.cas_link.specs.Parts.{decls_in}
use Rattle.cas_link.proofs.parts.roster_of.Given as goal

abbrev pub invariant-objects : goal.invariant-objects
invariant-objects l = l.units ++ decls_in l.rest ≡ decls_in l.objects

abbrev pub decreases-objects : goal.decreases-objects
decreases-objects l = length l.rest
