use Rattle.std.proofs.Common.{◌≡◌, ◌++◌, replicate}
use Rattle.cas_link.proofs.image.push_repeated.Given as goal

abbrev pub invariant-loop-left : goal.invariant-loop-left
invariant-loop-left g l = l.items.items ++ replicate l.left l.value ≡ l.initial.items.items ++ replicate l.times l.value

abbrev pub decreases-loop-left : goal.decreases-loop-left
decreases-loop-left g l = l.left
