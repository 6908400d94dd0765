use Rattle.std.proofs.Common.{arith, ◌≡◌, ◌∙◌}
use Rattle.std.proofs.Math.Logic.{∥∥₁_elim, ∥∥₁_map}
use Rattle.std.proofs.lemmas.List.{with_items_is}
use Rattle.cas_program.specs.Program.{env_of}
use Rattle.cas_step.specs.Step.{StepContext}
use Rattle.cas_thread.specs.Thread.{CanStep}
use Rattle.cas_thread.proofs.Passed.{on_err}
use Rattle.cas_thread.proofs.Top.{newest_of, step_at}
use Rattle.cas_thread.proofs.thread.thread_step.Goals as goal

pub step_in-requires : goal.step_in-requires
step_in-requires c =
    ∥∥₁_map c.requires (λ (w : CanStep c.args.program.now c.args.config.now c.args.shared.now.words.items).
    (w.modules, w.names, w.c, w.is_program, w.is_thread))

pub unreachable-requires : goal.unreachable-requires
unreachable-requires c =
    let ws = c.args.shared.now.words.items in
    ∥∥₁_elim c.requires (λ x y. absurd x) (λ (w : CanStep c.args.program.now c.args.config.now ws).
    let e = env_of w.modules in
    let well_formed = c.environments_are_well_formed.ensures w.modules w.names w.is_program.program in
    let next = c.progress_and_preservation.ensures w.modules e ws w.c w.newest w.older well_formed w.sound w.words
    w.going in
    let h : StepContext = record { config = w.c; newest = w.newest; older = w.older; words = ws } in
    let taken = c.in_ok-done.ensures.taken w.modules w.names h w.is_program w.is_thread w.going
    c.as_mut_slice.ensures.value next.0 (step_at e ws w.c w.newest w.older next.0 w.going next.1) in
    let is = taken.0 in
    cc (c.in-None.is, is))

pub returns-clause-taken : goal.returns-clause-taken
returns-clause-taken c = λ ms names k s program thread steps.
    let ws = c.args.shared.now.words.items in
    let e = env_of ms in
    let n = newest_of e ws k s steps in
    let h : StepContext = record { config = k; newest = n.0; older = n.1; words = ws } in
    let taken = c.in_ok-done.ensures.taken ms names h program thread n.2 c.as_mut_slice.ensures.value s
    (step_at e ws k n.0 n.1 s n.2 steps) in
    let act = taken.0 in
    let done : c.in-Some.done ≡ s.act = cc (c.in-Some.is, act) in (
      done,
      taken.1,
      with_items_is c.args.shared.now.words c.step_in.new.words
          (omega (arith, c.step_in.auto.words, c.as_mut_slice.ensures.len, c.args.shared.now.words.ok.0)) ∙ taken.2,
    )

pub returns-in_err-done-clause-calls : goal.returns-in_err-done-clause-calls
returns-in_err-done-clause-calls c = on_err c.from_residual.result _ (λ ms names k a older program thread going.
    let ws = c.args.shared.now.words.items in
    let h : StepContext = record { config = k; newest = a; older = older; words = ws } in
    c.in_err-done.ensures.calls ms names h program thread going c.as_mut_slice.ensures.value)

pub returns-in_err-done-clause-quiet : goal.returns-in_err-done-clause-quiet
returns-in_err-done-clause-quiet c = on_err c.from_residual.result _ (λ ms names k s program thread steps.
    let ws = c.args.shared.now.words.items in
    let e = env_of ms in
    let n = newest_of e ws k s steps in
    let h : StepContext = record { config = k; newest = n.0; older = n.1; words = ws } in
    c.in_err-done.ensures.quiet ms names h program thread n.2 c.as_mut_slice.ensures.value s
    (step_at e ws k n.0 n.1 s n.2 steps))
