use Rattle.std.proofs.Common.{◌≡◌, ◌-◌, ◌++◌, false, length, replicate}
use Rattle.cas_type.proofs.marks.unmarked.Given as goal

abbrev pub invariant-more : goal.invariant-more
invariant-more l = l.marks.items ++ replicate (l.count - length l.marks.items) false ≡ replicate l.count false

abbrev pub decreases-more : goal.decreases-more
decreases-more l = l.count - length l.marks.items
