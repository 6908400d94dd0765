use Rattle.std.proofs.Common.{◌≡◌, ℕ, true, List, Some, Err, map, sym, ap, subst, ◌∙◌}
use Rattle.std.proofs.Math.Logic.{∥∥₁_map}
use Rattle.cas_step.specs.Asks.{Value}
use Rattle.cas_step.specs.Continuation.{calls}
use Rattle.cas_step.specs.Step.{Config, Object, Step, doing, entity_in, step_to, with_call}
use Rattle.cas_base.specs.declared.act.Act.TheVariants as act
use Rattle.cas_memory.specs.Values.{value_of}
use Rattle.cas_program.specs.Program.{env_of}
use Rattle.cas_typed.specs.Resolved.{TypedModuleTree}
use Rattle.cas_typed.specs.declared.typed.Typed.{Typed}
use Rattle.cas_eval.specs.declared.args.NoArguments.{NoArguments}
use Rattle.cas_whole.specs.Program_of.{IsProgramOf}
use Rattle.cas_whole.specs.Whole.{AreTyped, function_at as stands_at}
use Rattle.cas_thread.specs.Calls.{IsReady, function_place}
use Rattle.cas_thread.specs.Control.{after}
use Rattle.cas_thread.specs.Frames.{AreThread}
use Rattle.cas_thread.proofs.Doing.{Effects, does_step, bad_steps, never_stuck}
use Rattle.cas_thread.proofs.Passed.{ok_so, on_err}
use Rattle.cas_thread.proofs.Entering.{called_step, called_nowhere}
use Rattle.cas_thread.proofs.Lock_acts.{call_act}
use Rattle.cas_thread.proofs.step.call.Goals as goal

pub enter-requires : goal.enter-requires
enter-requires c = ∥∥₁_map c.requires
    (λ (w : (ms : List TypedModuleTree) × (names : List (List ℕ)) × (k : Config)
    × IsProgramOf c.args.program.now ms names × AreThread c.args.program.now.modules c.args.config.now k).
    (w.2, subst (λ (ts : List Typed). AreThread ts c.args.config.now w.2) (sym c.modules-modules.ensures) w.4))

pub returns-in-Some-clause-taken : goal.returns-in-Some-clause-taken
returns-in-Some-clause-taken c = ok_so c.enter.result _ _
    (λ done entered ms names h program thread is words begins s steps.
    let e = env_of ms in
    let left = after true h.newest.cont in
    let ready = c.in-Ok.ready in
    let vs = map value_of ready.values.items in
    let effect = calls ready.item vs ready.kept left in
    let w = does_step e h s effect (c.in-Ok.ensures ms names h program thread is words begins) steps in
    let entities = c.items_of-items.ensures ms names h program thread is ready.item in
    let place : Some c.in-Some.at ≡ function_place (entity_in e h ready.item) = c.in-Some.ensures
    ∙ ap function_place entities in
    let x = called_step e h w.0 s (entity_in e h ready.item) vs ready.kept left c.in-Some.at place w.1 in
    let y = c.declarations_agree.ensures.functions ms names program.program h.newest.function.unit ready.item
    (stands_at c.in-Some.at) x.0 in
    let mods = c.modules-modules.ensures in
    let typed = subst (λ (ts : List Typed). AreTyped ts ms) (sym mods) program.typed in
    let stands = subst (λ (ts : List Typed). AreThread ts c.args.config.now h.config) (sym mods) thread in
    let values = ap (map value_of) (sym c.as_slice.ensures.value) in
    let step =
    subst (λ (us : List (Value Object)). step_to e h w.0 act.Quiet
    (with_call e (doing h left) h.config.memory h.config.fresh (stands_at c.in-Some.at) us ready.kept) ≡ s)
    values x.1 in
    let taken = entered ms h w.0 s y.0 y.1 typed stands is y.2 step in (
      taken.0,
      subst (λ (ts : List Typed). AreThread ts c.enter.new.self s.next) mods taken.1,
      words
          ∙ ap (λ (z : Step). z.words) x.1,
    )) c.enter.ensures.taken

pub returns-in-Ok-clause-taken : goal.returns-in-Ok-clause-taken
returns-in-Ok-clause-taken c = λ ms names h program thread is words begins s steps.
    let e = env_of ms in
    let left = after true h.newest.cont in
    let ready = c.in-Ok.ready in
    let vs = map value_of ready.values.items in
    let w = does_step e h s (calls ready.item vs ready.kept left)
    (c.in-Ok.ensures ms names h program thread is words begins) steps in
    let entities = c.items_of-items.ensures ms names h program thread is ready.item in
    absurd (called_nowhere e h w.0 s (entity_in e h ready.item) vs ready.kept left
    (c.in-None.ensures ∙ ap function_place entities) w.1)

pub returns-clause-taken : goal.returns-clause-taken
returns-clause-taken c = λ ms names h program thread is words begins s steps.
    let e = env_of ms in
    let left = after true h.newest.cont in
    let fails = subst (λ (x : NoArguments). IsReady (Effects e h s) left (Err x)) c.in-OfValue.is
    (c.in-Err.ensures ms names h program thread is words begins) in
    absurd (never_stuck e h s (fails ∙ ap Err c.in-Stuck.is) steps)

pub returns-in-Bad-clause-taken : goal.returns-in-Bad-clause-taken
returns-in-Bad-clause-taken c = λ ms names h program thread is words begins s steps.
    let e = env_of ms in
    let left = after true h.newest.cont in
    let fails = subst (λ (x : NoArguments). IsReady (Effects e h s) left (Err x)) c.in-OfValue.is
    (c.in-Err.ensures ms names h program thread is words begins) in
    bad_steps e h s c.args.program.now.modules c.args.config.now c.args.words.now c.in-Bad.why thread words
    (fails ∙ ap Err c.in-Bad.is) steps

pub returns-in-Some-clause-quiet : goal.returns-in-Some-clause-quiet
returns-in-Some-clause-quiet c = on_err c.enter.result _ (λ ms names h program thread is words begins s steps.
    let e = env_of ms in
    let left = after true h.newest.cont in
    let ready = c.in-Ok.ready in
    let vs = map value_of ready.values.items in
    let w = does_step e h s (calls ready.item vs ready.kept left)
    (c.in-Ok.ensures ms names h program thread is words begins) steps in
    sym (call_act e h s w.0 (entity_in e h ready.item) vs ready.kept left w.1))
