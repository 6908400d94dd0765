use Rattle.std.proofs.Common.{List, reverse, sym, ap, subst, ◌∙◌}
use Rattle.cas_program.specs.Program.{env_of}
use Rattle.cas_step.specs.Step.{StepContext, entity_in}
use Rattle.cas_typed.specs.declared.typed.Typed.{Typed}
use Rattle.cas_thread.specs.Frames.{rows_at}
use Rattle.cas_thread.specs.Continuations.{IsContinuation}
use Rattle.cas_thread.proofs.Arounds.{newest_frame}
use Rattle.cas_thread.proofs.Lock_acts.{step_takes, word_of}
use Rattle.cas_thread.proofs.Top.{newest_of, step_at}
use Rattle.cas_thread.proofs.locking.next_lock.Goals as goal

pub returns-in_err-item : goal.returns-in_err-item
returns-in_err-item c = λ words ms names k s program thread steps.
    let e = env_of ms in
    let ts = c.args.program.now.modules in
    let n = newest_of e words k s steps in
    let h : StepContext = record { config = k; newest = n.0; older = n.1; words = words } in
    let some = c.in_ok-frame.ensures.some in
    let f = c.in_ok-frame.frame.now in
    let frame = newest_frame ts (reverse c.args.config.now.frames.items) some.0 f k.activations n.1 n.0 some.1
    thread.frames_are n.2 in
    let rows = c.rows_of-rows.ensures ∙ ap (λ (ts' : List Typed). rows_at ts' f.unit f.place) c.modules.ensures in
    let shows : IsContinuation c.rows_of-rows.result.now (reverse c.as_slice.result.now) n.0.cont =
    subst (λ xs. IsContinuation c.rows_of-rows.result.now (reverse xs) n.0.cont) (sym c.as_slice.ensures.value)
    (subst (λ rs. IsContinuation rs (reverse f.cont.items) n.0.cont) (sym rows) frame.cont) in
    let takes = step_takes e h s (step_at e words k n.0 n.1 s n.2 steps) in
    let first = c.in_err-item.ensures n.0.cont shows in
    c.from_residual-in_err-item.ensures ∙ ap (word_of (entity_in e h)) first ∙ takes
