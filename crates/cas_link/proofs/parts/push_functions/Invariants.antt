use Rattle.std.proofs.Common.{◌≡◌, ◌++◌, length, map}
use Rattle.cas_link.proofs.parts.push_functions.Given as goal

abbrev pub invariant-funs : goal.invariant-funs
invariant-funs l = map (λ x. x.now) l.found.items ++ l.rest ≡ map (λ x. x.now) l.initial.found.items ++ l.funs

abbrev pub decreases-funs : goal.decreases-funs
decreases-funs l = length l.rest
