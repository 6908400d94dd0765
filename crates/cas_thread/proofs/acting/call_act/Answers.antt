use Rattle.std.proofs.Common.{Some, Err, ap, ◌∙◌}
use Rattle.cas_step.specs.Continuation.{calls}
use Rattle.cas_step.specs.Step.{entity_in}
use Rattle.cas_program.specs.Program.{env_of}
use Rattle.cas_thread.proofs.Doing.{does_step, bad_steps, never_stuck}
use Rattle.cas_thread.proofs.Lock_acts as acts
use Rattle.cas_thread.proofs.acting.call_act.Goals as goal

pub returns-in-Ok : goal.returns-in-Ok
returns-in-Ok c = λ ms names h program thread is words begins s steps.
    let e = env_of ms in
    let w = c.in-Ok.ensures ms names h program thread is words begins in
    let x = does_step e h s (calls w.0 w.1 w.2 w.3) w.4 steps in
    ap Some (acts.call_act e h s x.0 (entity_in e h w.0) w.1 w.2 w.3 x.1)

pub returns-in-Bad : goal.returns-in-Bad
returns-in-Bad c = λ ms names h program thread is words begins s steps.
    let fails = c.in-Err.ensures ms names h program thread is words begins in
    (bad_steps (env_of ms) h s c.args.program.now.modules c.args.config.now c.args.words.now c.in-Bad.why thread words
    (fails ∙ ap Err c.in-Bad.is) steps).0

pub returns-in-Stuck : goal.returns-in-Stuck
returns-in-Stuck c = λ ms names h program thread is words begins s steps.
    let fails = c.in-Err.ensures ms names h program thread is words begins in
    absurd (never_stuck (env_of ms) h s (fails ∙ ap Err c.in-Stuck.is) steps)
