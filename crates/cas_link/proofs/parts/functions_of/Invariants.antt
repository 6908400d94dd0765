use Rattle.std.proofs.Common.{◌≡◌, ◌++◌, length, map}
use Rattle.cas_link.specs.Parts.{functions_in}
use Rattle.cas_link.proofs.parts.functions_of.Given as goal

abbrev pub invariant-objects : goal.invariant-objects
invariant-objects l = map (λ x. x.now) l.funs.items ++ functions_in l.rest ≡ functions_in l.objects

abbrev pub decreases-objects : goal.decreases-objects
decreases-objects l = length l.rest
