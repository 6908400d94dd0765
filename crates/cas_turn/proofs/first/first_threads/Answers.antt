use Rattle.std.proofs.Common.{arith, ◌≡◌, ◌+◌, ◌<◌, ◌^◌, [], ◌∷◌, ◌++◌, ap, length, ◌∙◌}
use Rattle.std.proofs.Math.Logic.{∥∥₁_elim}
use Rattle.std.specs.Coded.{le_prop}
use Rattle.cas_turn.proofs.First_threads as first
use Rattle.cas_turn.proofs.First_threads.{length_more}
use Rattle.cas_turn.proofs.first.first_threads.Goals as goal

pub overflow_cast-count : goal.overflow_cast-count
overflow_cast-count c =
    let p = c.args.program.now in
    let few : length p.entries < 2 ^ 32 = ∥∥₁_elim p.program le_prop
    (λ r. first.few_entries c.entries_are_entered.ensures.in_order p r.0 r.1 r.2) in
    omega (arith, ap length c.entries.ensures)

pub loop-thread-init : goal.loop-thread-init
loop-thread-init c =
    let p = c.args.program.now in
    let few : length p.entries < 2 ^ 32 = ∥∥₁_elim p.program le_prop
    (λ r. first.few_entries c.entries_are_entered.ensures.in_order p r.0 r.1 r.2) in
    let none : length c.new-threads.result.items ≡ 0 = ap length c.new-threads.ensures.items in (
      none,
      ap length c.entries.ensures,
      omega (arith, ap length c.entries.ensures),
      λ ms names is. rw
          c.new-threads.ensures.items tt,
    )

pub loop-thread-preserved : goal.loop-thread-preserved
loop-thread-preserved c =
    let p = c.args.program.now in
    let kept = c.loop-thread.invariant in
    let more : c.push.new.self.items ≡ c.loop-thread.threads.items ++ c.in_ok-start.field-0 ∷ [] =
    c.in_ok-push.ensures.items in
    let longer : length c.push.new.self.items ≡ c.loop-thread.thread + 1 =
    ap length more ∙ length_more c.loop-thread.threads.items c.in_ok-start.field-0 ∙ ap (λ n. n + 1) kept.0 in (
      longer,
      kept.1,
      kept.2,
      λ ms names is. rw more (first.begun_more p c.loop-thread.threads.items c.in_ok-start.field-0 c.loop-thread.thread
          ms names is
          (omega (arith, c.loop-thread-test.true)) (kept.3 ms names is) c.in_ok-start.ensures),
    )
