use Rattle.std.proofs.Common.{Bool, Ok, Err, subst}
use Rattle.cas_program.specs.Program.{env_of}
use Rattle.cas_eval.specs.declared.values.NoResult.{NoResult}
use Rattle.cas_thread.specs.Control.{after}
use Rattle.cas_thread.specs.Effects.{FirstStatementIs, IsCall, IsFirst, IsJump, effect_with}
use Rattle.cas_thread.specs.declared.effect.First.{First}
use Rattle.cas_thread.proofs.Doing.{Effects, does_step, bad_steps, never_stuck}
use Rattle.cas_thread.proofs.acting.act_in.Goals as goal

pub returns-in-Does : goal.returns-in-Does
returns-in-Does c = λ ms names h program thread is words s steps.
    let e = env_of ms in
    let left = λ (truth : Bool). after truth h.newest.cont in
    let comes =
    subst (λ (x : First). IsFirst (Effects e h s) left (FirstStatementIs IsCall h.newest.cont)
    (FirstStatementIs IsJump h.newest.cont) (Ok x)) c.in-Does.is
    (c.in-Ok.ensures ms names h program thread is words) in
    let w = does_step e h s (effect_with left c.in-Does.effect) comes steps in
    c.effect_act.ensures c.args.program.now.modules e h w.0 s thread is
    (c.items_of.ensures ms names h program thread is) w.1

pub returns-in-Bad : goal.returns-in-Bad
returns-in-Bad c = λ ms names h program thread is words s steps.
    let e = env_of ms in
    let left = λ (truth : Bool). after truth h.newest.cont in
    let comes =
    subst (λ (x : NoResult). IsFirst (Effects e h s) left (FirstStatementIs IsCall h.newest.cont)
    (FirstStatementIs IsJump h.newest.cont) (Err x)) c.in-Bad.is
    (c.in-Err.ensures ms names h program thread is words) in
    (bad_steps e h s c.args.program.now.modules c.args.config.now c.args.words.now c.in-Bad.why thread words comes
    steps).0

pub returns-in-Stuck : goal.returns-in-Stuck
returns-in-Stuck c = λ ms names h program thread is words s steps.
    let e = env_of ms in
    let left = λ (truth : Bool). after truth h.newest.cont in
    let comes =
    subst (λ (x : NoResult). IsFirst (Effects e h s) left (FirstStatementIs IsCall h.newest.cont)
    (FirstStatementIs IsJump h.newest.cont) (Err x)) c.in-Stuck.is
    (c.in-Err.ensures ms names h program thread is words) in
    absurd (never_stuck e h s comes steps)
