use Rattle.std.proofs.Common.{◌≡◌, List, reverse, vec_len, vec_capacity}
use Rattle.cas_step.specs.Continuation.{ContItem, after_continue}
use Rattle.cas_thread.specs.Continuations.{IsContinuation}
use Rattle.cas_thread.proofs.control.next_turn.Given as goal

abbrev pub invariant-loop-item : goal.invariant-loop-item
invariant-loop-item l = (vec_capacity l.cont ≡ vec_capacity l.initial.cont) ×
    ((it : List ContItem) → IsContinuation l.rows (reverse l.initial.cont.items) it → (rest : List ContItem)
    × IsContinuation l.rows (reverse l.cont.items) rest × (after_continue it ≡ after_continue rest))

abbrev pub decreases-loop-item : goal.decreases-loop-item
decreases-loop-item l = vec_len l.cont
