use Rattle.std.proofs.Common.{ℕ, Bool, List, Ok, Err, sym, subst}
use Rattle.std.proofs.Math.Logic.{∥∥₁_map}
use Rattle.cas_step.specs.Step.{Config}
use Rattle.cas_program.specs.Program.{env_of}
use Rattle.cas_typed.specs.Resolved.{TypedModuleTree}
use Rattle.cas_typed.specs.declared.typed.Typed.{Typed}
use Rattle.cas_whole.specs.Program_of.{IsProgramOf}
use Rattle.cas_thread.specs.Control.{after}
use Rattle.cas_thread.specs.Effects.{FirstStatementIs, IsCall, IsFirst, IsJump, effect_with}
use Rattle.cas_thread.specs.Frames.{AreThread}
use Rattle.cas_thread.specs.Stepping.{IsStep, IsStepContext}
use Rattle.cas_thread.specs.declared.effect.First.{First}
use Rattle.cas_eval.specs.declared.values.NoResult.{NoResult}
use Rattle.cas_thread.proofs.Doing.{Effects, does_step, bad_steps, never_stuck}
use Rattle.cas_thread.proofs.Passed.{err_so, ok_so}
use Rattle.cas_thread.proofs.step.step_in.Goals as goal

pub take-requires : goal.take-requires
take-requires c = ∥∥₁_map c.requires
    (λ (w : (ms : List TypedModuleTree) × (names : List (List ℕ)) × (k : Config)
    × IsProgramOf c.args.program.now ms names × AreThread c.args.program.now.modules c.args.config.now k).
    (w.2, subst (λ (ts : List Typed). AreThread ts c.args.config.now w.2) (sym c.modules-modules.ensures) w.4))

pub proceed-requires : goal.proceed-requires
proceed-requires c = ∥∥₁_map c.requires
    (λ (w : (ms : List TypedModuleTree) × (names : List (List ℕ)) × (k : Config)
    × IsProgramOf c.args.program.now ms names × AreThread c.args.program.now.modules c.args.config.now k).
    (w.2, subst (λ (ts : List Typed). AreThread ts c.args.config.now w.2) (sym c.modules-modules.ensures) w.4))

pub returns-in-Does-clause-taken : goal.returns-in-Does-clause-taken
returns-in-Does-clause-taken c = λ ms names h program thread is words s steps.
    let e = env_of ms in
    let left = λ (truth : Bool). after truth h.newest.cont in
    let comes =
    subst (λ (x : First). IsFirst (Effects e h s) left (FirstStatementIs IsCall h.newest.cont)
    (FirstStatementIs IsJump h.newest.cont) (Ok x)) c.in-Does.is
    (c.in-Ok.ensures ms names h program thread is words) in
    let w = does_step e h s (effect_with left c.in-Does.effect) comes steps in
    let stands : IsStepContext c.modules-modules.result.now c.items_of-items.result.now c.args.config.now
    c.args.words.now e h = record {
      thread = subst (λ (ts : List Typed). AreThread ts c.args.config.now h.config) (sym c.modules-modules.ensures)
          thread;
      newest = is;
      words = words;
      entities = c.items_of-items.ensures ms names h program thread is;
    } in
    subst (λ (ts : List Typed). IsStep ts c.take.result c.take.new.self c.take.new.words s) c.modules-modules.ensures
    (c.take.ensures e h w.0 s stands w.1)

pub returns-in-Bad-clause-taken : goal.returns-in-Bad-clause-taken
returns-in-Bad-clause-taken c = λ ms names h program thread is words s steps.
    let e = env_of ms in
    let left = λ (truth : Bool). after truth h.newest.cont in
    let comes =
    subst (λ (x : NoResult). IsFirst (Effects e h s) left (FirstStatementIs IsCall h.newest.cont)
    (FirstStatementIs IsJump h.newest.cont) (Err x)) c.in-Bad.is
    (c.in-Err.ensures ms names h program thread is words) in
    bad_steps e h s c.args.program.now.modules c.args.config.now c.args.words.now c.in-Bad.why thread words comes steps

pub returns-in-Stuck-clause-taken : goal.returns-in-Stuck-clause-taken
returns-in-Stuck-clause-taken c = λ ms names h program thread is words s steps.
    let e = env_of ms in
    let left = λ (truth : Bool). after truth h.newest.cont in
    let comes =
    subst (λ (x : NoResult). IsFirst (Effects e h s) left (FirstStatementIs IsCall h.newest.cont)
    (FirstStatementIs IsJump h.newest.cont) (Err x)) c.in-Stuck.is
    (c.in-Err.ensures ms names h program thread is words) in
    absurd (never_stuck e h s comes steps)

pub returns-in-Call-clause-taken : goal.returns-in-Call-clause-taken
returns-in-Call-clause-taken c = ok_so c.call.result _ _ (λ done called ms names h program thread is words s steps.
    let e = env_of ms in
    let left = λ (truth : Bool). after truth h.newest.cont in
    let begins =
    subst (λ (x : First). IsFirst (Effects e h s) left (FirstStatementIs IsCall h.newest.cont)
    (FirstStatementIs IsJump h.newest.cont) (Ok x)) c.in-Call.is
    (c.in-Ok.ensures ms names h program thread is words) in
    called ms names h program thread is words begins s steps) c.call.ensures.taken

pub returns-in-Call-clause-quiet : goal.returns-in-Call-clause-quiet
returns-in-Call-clause-quiet c = err_so c.call.result _ _ (λ called ms names h program thread is words s steps.
    let left = λ (truth : Bool). after truth h.newest.cont in
    let begins =
    subst (λ (x : First). IsFirst (Effects (env_of ms) h s) left (FirstStatementIs IsCall h.newest.cont)
    (FirstStatementIs IsJump h.newest.cont) (Ok x)) c.in-Call.is
    (c.in-Ok.ensures ms names h program thread is words) in
    called ms names h program thread is words begins s steps) c.call.ensures.quiet
