use Rattle.std.proofs.Common.{◌≡◌, ◌++◌, length, map}
use Rattle.cas_link.proofs.parts.push_globals.Given as goal

abbrev pub invariant-globals : goal.invariant-globals
invariant-globals l = map (λ x. x.now) l.found.items ++ l.rest ≡ map (λ x. x.now) l.initial.found.items ++ l.globals

abbrev pub decreases-globals : goal.decreases-globals
decreases-globals l = length l.rest
