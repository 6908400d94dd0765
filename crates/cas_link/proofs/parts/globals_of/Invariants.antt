use Rattle.std.proofs.Common.{◌≡◌, ◌++◌, length, map}
use Rattle.cas_link.specs.Parts.{globals_in}
use Rattle.cas_link.proofs.parts.globals_of.Given as goal

abbrev pub invariant-objects : goal.invariant-objects
invariant-objects l = map (λ x. x.now) l.globals.items ++ globals_in l.rest ≡ globals_in l.objects

abbrev pub decreases-objects : goal.decreases-objects
decreases-objects l = length l.rest
