use Rattle.std.proofs.Common.{Err, sym, ap, ◌∙◌}
use Rattle.cas_step.specs.Continuation.{calls}
use Rattle.cas_step.specs.Step.{entity_in}
use Rattle.cas_program.specs.Program.{env_of}
use Rattle.cas_thread.proofs.Doing.{does_step, bad_steps, never_stuck}
use Rattle.cas_thread.proofs.Lock_acts.{call_act}
use Rattle.cas_thread.proofs.step.call_without_room.Goals as goal

pub returns-in-Ok-clause-quiet : goal.returns-in-Ok-clause-quiet
returns-in-Ok-clause-quiet c = λ ms names h program thread is words begins s steps.
    let e = env_of ms in
    let w = c.in-Ok.ensures ms names h program thread is words begins in
    let x = does_step e h s (calls w.0 w.1 w.2 w.3) w.4 steps in
    sym (call_act e h s x.0 (entity_in e h w.0) w.1 w.2 w.3 x.1)

pub returns-in-Err-Bad-clause-taken : goal.returns-in-Err-Bad-clause-taken
returns-in-Err-Bad-clause-taken c = λ ms names h program thread is words begins s steps.
    let fails = c.in-Err-Bad.ensures ms names h program thread is words begins in
    bad_steps (env_of ms) h s c.args.program.now.modules c.args.config.now c.args.words.now c.in-Err-Bad.why thread
    words (fails ∙ ap Err c.in-Err-Bad.field-0-is) steps

pub returns-in-Err-Stuck-clause-taken : goal.returns-in-Err-Stuck-clause-taken
returns-in-Err-Stuck-clause-taken c = λ ms names h program thread is words begins s steps.
    let fails = c.in-Err-Stuck.ensures ms names h program thread is words begins in
    absurd (never_stuck (env_of ms) h s (fails ∙ ap Err c.in-Err-Stuck.field-0-is) steps)
