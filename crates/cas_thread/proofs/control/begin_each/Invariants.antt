use Rattle.std.proofs.Common.{◌≡◌, ◌≤◌, ◌+◌, List, reverse, vec_len, vec_capacity, length, drop}
use Rattle.cas_step.specs.Continuation.{ContItem, begin_all}
use Rattle.cas_thread.specs.Continuations.{AreAt, IsContinuation}
use Rattle.cas_typed.specs.Resolved.{TypedStmtList}
use Rattle.cas_thread.proofs.control.begin_each.Given as goal

abbrev pub invariant-loop-left : goal.invariant-loop-left
invariant-loop-left l = record {
  within : l.left ≤ length l.parts;
  room : vec_len l.cont + l.left ≤ vec_capacity l.cont;
  capacity : vec_capacity l.cont ≡ vec_capacity l.initial.cont;
  shows : (bs : TypedStmtList) (it : List ContItem) → AreAt l.rows bs (drop l.left l.parts) →
      IsContinuation l.rows (reverse l.initial.cont.items) it →
      IsContinuation l.rows (reverse l.cont.items) (begin_all bs it);
}

abbrev pub decreases-loop-left : goal.decreases-loop-left
decreases-loop-left l = l.left
