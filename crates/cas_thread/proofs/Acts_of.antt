-- The act of a step, by what the code knows of it.
use Rattle.std.proofs.Common.{arith, ◌≡◌, ℕ, ◌<◌, ◌≤◌, List, [], ◌∷◌, length, map, reverse, true, Option, Some, Result, Ok, Err, refl, sym, ap, ◌∙◌}
use Rattle.std.specs.Option.{option_map}
use Rattle.std.proofs.lemmas.List.{length-reverse}
use Rattle.cas_base.specs.declared.act.Act.{Act}
use Rattle.cas_base.specs.declared.act.Act.TheVariants as act
use Rattle.cas_base.specs.declared.kind.Ty.{Ty}
use Rattle.cas_typed.specs.Resolved.{typed_expr_tree}
use Rattle.cas_typed.specs.declared.typed.Typed.{Typed}
use Rattle.cas_step.specs.Answered.{got, value_at}
use Rattle.cas_step.specs.Asks.{Value}
use Rattle.cas_step.specs.Env.{Env, Entity}
use Rattle.cas_step.specs.Evaluate.{values_of}
use Rattle.cas_step.specs.Continuation.{ContItem, effect_of, continues, prints, stores, writes}
use Rattle.cas_step.specs.Step.{Activation, StepContext, Object, Step, cells_at, entity_in, goes_step, lock_step, return_step, step_with_effect}
use Rattle.cas_eval.specs.Answer.{EvalState, answer, eval_context, map_answer}
use Rattle.cas_eval.specs.Arguments.{nothing}
use Rattle.cas_eval.specs.declared.values.NoResult.{NoResult}
use Rattle.cas_thread.specs.Calls.{IsCallOf, IsReadied}
use Rattle.cas_thread.specs.Control.{after}
use Rattle.cas_thread.specs.Effects.{FirstStatementIs}
use Rattle.cas_thread.specs.Frames.{AreFrames}
use Rattle.cas_thread.specs.Stepping.{lock_word}
use Rattle.cas_thread.specs.declared.call.Called.{Called}
use Rattle.cas_thread.specs.declared.config.Frame.{Frame}
use Rattle.cas_thread.proofs.Called.{call_ready, call_fails}
use Rattle.cas_thread.proofs.Lock_acts.{global_act, inner_return_act, last_return_act, lock_act, store_act}

frames_count : (ts : List Typed) (fs : List Frame) (all : List Activation) → AreFrames ts fs all →
    length fs ≡ length all
frames_count ts [] [] are = refl
frames_count ts [] (a ∷ older) are = absurd are
frames_count ts (f ∷ fs) [] are = absurd are
frames_count ts (f ∷ fs) (a ∷ older) are = let rest = frames_count ts fs older are.1 in omega (arith, rest)

calls_count : (ts : List Typed) (fs : List Frame) (a : Activation) (older : List Activation) →
    AreFrames ts (reverse fs) (a ∷ older) → length fs ≡ length (a ∷ older)
calls_count ts fs a older are = sym (length-reverse fs) ∙ frames_count ts (reverse fs) (a ∷ older) are

module _ (e : Env) (h : StepContext) (rs : List ℕ) (s : Step) where
  done_at : (older : List Activation) (v : Option (Value Object)) → length older < 1 →
      return_step e h rs older v ≡ Some s → act.Done ≡ s.act
  done_at [] v less is = last_return_act e h s rs v is
  done_at (a ∷ older) v less is = absurd (omega (arith, less))

  quiet_at : (older : List Activation) (v : Option (Value Object)) → 1 ≤ length older →
      return_step e h rs older v ≡ Some s → act.Quiet ≡ s.act
  quiet_at [] v more is = absurd (omega (arith, more))
  quiet_at (a ∷ older) v more is = inner_return_act e h s rs a older v is

  pub done_act : (ts : List Typed) (fs : List Frame) (v : Option (Value Object)) → length fs < 2 →
      AreFrames ts (reverse fs) (h.newest ∷ h.older) → return_step e h rs h.older v ≡ Some s → act.Done ≡ s.act
  done_act ts fs v less are is = let count = calls_count ts fs h.newest h.older are in
      done_at h.older v (omega (arith, less, count)) is

  pub quiet_act : (ts : List Typed) (fs : List Frame) (v : Option (Value Object)) → 2 ≤ length fs →
      AreFrames ts (reverse fs) (h.newest ∷ h.older) → return_step e h rs h.older v ≡ Some s → act.Quiet ≡ s.act
  quiet_act ts fs v more are is = let count = calls_count ts fs h.newest h.older are in
      quiet_at h.older v (omega (arith, more, count)) is

  pub lock_acts : (a : ℕ → Act) (it : Option Entity) (o : Option ℕ) (cont : List ContItem) → o ≡ lock_word it →
      lock_step e h rs it a cont ≡ Some s → option_map a o ≡ Some s.act
  lock_acts a it o cont word is = let w = lock_act e h s rs it a cont is in ap (option_map a) (word ∙ w.1) ∙ ap Some w.2

  pub goes_act : (cont : List ContItem) → step_with_effect e h (got rs (continues cont)) ≡ Some s →
      Some act.Quiet ≡ Some s.act
  goes_act cont is = let same : goes_step e h rs act.Quiet cont ≡ s = cc is in ap (λ x. Some x.act) same

  pub prints_act : (n : ℕ) (cont : List ContItem) → step_with_effect e h (got rs (prints n cont)) ≡ Some s →
      Some (act.Out n) ≡ Some s.act
  prints_act n cont is = let same : goes_step e h rs (act.Out n) cont ≡ s = cc is in ap (λ x. Some x.act) same

  pub stores_act : (o : Object) (i : ℕ) (v : Value Object) (cont : List ContItem) →
      step_with_effect e h (got rs (stores o i v cont)) ≡ Some s → Some act.Quiet ≡ Some s.act
  stores_act o i v cont is = ap Some (store_act e h s rs (value_at (cells_at h.config.memory o) i) o i v cont is)

  pub writes_act : (g i n : ℕ) (cont : List ContItem) → step_with_effect e h (got rs (writes g i n cont)) ≡ Some s →
      Some act.Quiet ≡ Some s.act
  writes_act g i n cont is = ap Some (global_act e h s rs (entity_in e h g) i n cont is)

-- arguments without memory
module _ (r : EvalState) (c : Called) (ret : Ty) (cont : List ContItem) (begins : FirstStatementIs (IsCallOf c) cont)
  where
    abbrev Values : Result (List (Value Object)) NoResult
    Values = answer r (values_of (eval_context r) (map typed_expr_tree c.args.now))

    readied_by : (x : Result (List (Value Object)) NoResult) (o : Result (Unit {0}) NoResult) → Values ≡ x →
        o ≡ map_answer nothing x → IsReadied (answer r (effect_of (eval_context r) ret cont)) o
    readied_by (Ok vs) (Ok u) is same = (c.item, vs, c.kept, after true cont, call_ready r c ret cont begins vs is)
    readied_by (Ok vs) (Err f) is same = absurd (cc same)
    readied_by (Err e) (Ok u) is same = absurd (cc same)
    readied_by (Err e) (Err f) is same = let one : e ≡ f = cc same in call_fails r c ret cont begins f (is ∙ ap Err one)

    pub readied : (o : Result (Unit {0}) NoResult) → o ≡ map_answer nothing Values →
        IsReadied (answer r (effect_of (eval_context r) ret cont)) o
    readied o same = readied_by Values o refl same
