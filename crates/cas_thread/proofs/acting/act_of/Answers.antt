use Rattle.std.proofs.Math.Logic.{∥∥₁_elim}
use Rattle.cas_program.specs.Program.{env_of}
use Rattle.cas_step.specs.Step.{StepContext}
use Rattle.cas_thread.specs.Thread.{CanStep}
use Rattle.cas_thread.proofs.Top.{newest_of, step_at}
use Rattle.cas_thread.proofs.acting.act_of.Goals as goal

pub unreachable-requires : goal.unreachable-requires
unreachable-requires c =
    let ws = c.args.shared.now.words.items in
    ∥∥₁_elim c.requires (λ x y. absurd x) (λ (w : CanStep c.args.program.now c.args.config.now ws).
    let e = env_of w.modules in
    let well_formed = c.environments_are_well_formed.ensures w.modules w.names w.is_program.program in
    let next = c.progress_and_preservation.ensures w.modules e ws w.c w.newest w.older well_formed w.sound w.words
    w.going in
    let h : StepContext = record { config = w.c; newest = w.newest; older = w.older; words = ws } in
    let act = c.act_in.ensures w.modules w.names h w.is_program w.is_thread w.going c.as_slice.ensures.value next.0
    (step_at e ws w.c w.newest w.older next.0 w.going next.1) in
    cc (c.in-None.is, act))

pub returns : goal.returns
returns c = λ ms names k s program thread steps.
    let ws = c.args.shared.now.words.items in
    let e = env_of ms in
    let n = newest_of e ws k s steps in
    let h : StepContext = record { config = k; newest = n.0; older = n.1; words = ws } in
    let act = c.act_in.ensures ms names h program thread n.2 c.as_slice.ensures.value s
    (step_at e ws k n.0 n.1 s n.2 steps) in
    cc (c.in-Some.is, act)
