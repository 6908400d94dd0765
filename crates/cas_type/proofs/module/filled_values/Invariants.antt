use Rattle.std.proofs.Common.{◌≡◌, ◌-◌, ◌++◌, length, replicate}
use Rattle.cas_type.proofs.module.filled_values.Given as goal

abbrev pub invariant-more : goal.invariant-more
invariant-more l =
    l.filled.items ++ replicate (l.elements - length l.filled.items) 0 ≡ l.initial.filled.items ++ replicate
    (l.elements - length l.initial.filled.items) 0

abbrev pub decreases-more : goal.decreases-more
decreases-more l = l.elements - length l.filled.items
