-- The step of the definition, by what evaluating the first item answers.
use Rattle.std.proofs.Common.{◌≡◌, ℕ, true, List, [], ◌∷◌, Option, Some, None, Result, Ok, Err, ap, subst, ◌∙◌}
use Rattle.std.specs.Prelude.{slice_get}
use Rattle.cas_base.specs.declared.act.Act.TheVariants as act
use Rattle.cas_base.specs.declared.act.Why.{Why}
use Rattle.cas_base.specs.declared.kind.Ty.{Ty}
use Rattle.cas_typed.specs.declared.typed.Typed.{Typed}
use Rattle.cas_typed.specs.Resolved.{break_, continue_, absent, present}
use Rattle.cas_step.specs.Answered.{Got, got, bad, got_stuck, answered}
use Rattle.cas_step.specs.Env.{Env}
use Rattle.cas_step.specs.Continuation.{ContItem, Effect, begin, begun, loop, next, after_break, after_continue, effect_of, continues, jumps}
use Rattle.cas_step.specs.Step.{StepContext, Object, Step, bad_step, cells_at, entity_in, eval_context_of, step_with_effect, newest_step}
use Rattle.cas_eval.specs.Answer.{answer, outcome}
use Rattle.cas_eval.specs.declared.values.NoResult.{NoResult}
use Rattle.cas_eval.specs.declared.values.NoResult.TheVariants.{Bad, Stuck}
use Rattle.cas_thread.specs.Eval_state.{eval_state_in}
use Rattle.cas_thread.specs.Control.{after, if_any}
use Rattle.cas_thread.specs.Effects.{FirstStatementIs, IsJump}
use Rattle.cas_thread.specs.Frames.{AreThread}
use Rattle.cas_thread.specs.Stepping.{IsStep}
use Rattle.cas_thread.specs.declared.config.Config as code

module _ (e : Env) (h : StepContext) (s : Step) where
  -- by what was got

  got_does : (g : Got (Effect Object)) (d : Effect Object) → outcome g ≡ Ok d → step_with_effect e h g ≡ Some s →
      (rs : List ℕ) × (step_with_effect e h (got rs d) ≡ Some s)
  got_does (got rs x) d is steps = let same : x ≡ d = cc is in
      (rs, subst (λ y. step_with_effect e h (got rs y) ≡ Some s) same steps)
  got_does (bad rs why) d is steps = absurd (cc is)
  got_does (got_stuck rs) d is steps = absurd (cc is)

  got_bad : (g : Got (Effect Object)) (why : Why) → outcome g ≡ Err (Bad why) → step_with_effect e h g ≡ Some s →
      (act.Bad why ≡ s.act) × (h.config ≡ s.next) × (h.words ≡ s.words)
  got_bad (got rs x) why is steps = absurd (cc is)
  got_bad (got_stuck rs) why is steps = absurd (cc is)
  got_bad (bad rs w) why is steps =
      let same : bad_step e h rs w ≡ s = cc steps in
      let one : why ≡ w = cc is in
      (ap act.Bad one ∙ ap (λ x. x.act) same, ap (λ x. x.next) same, ap (λ x. x.words) same)

  got_none : (g : Got (Effect Object)) → outcome g ≡ Err Stuck → step_with_effect e h g ≡ Some s → ⊥
  got_none (got rs x) is steps = cc is
  got_none (bad rs why) is steps = cc is
  got_none (got_stuck rs) is steps = cc steps

  -- by what is answered

  abbrev pub Effects : Result (Effect Object) NoResult
  Effects =
      answer (eval_state_in e h) (effect_of (eval_context_of e h) (e.function h.newest.function).ret h.newest.cont)

  pub does_step : (d : Effect Object) → Effects ≡ Ok d → newest_step e h ≡ Some s → (rs : List ℕ)
      × (step_with_effect e h (got rs d) ≡ Some s)
  unfolding answer
  does_step d is steps =
      got_does (answered (entity_in e h) (slice_get h.words) (cells_at h.config.memory)
      (effect_of (eval_context_of e h) (e.function h.newest.function).ret h.newest.cont)) d is steps

  bad_act : (why : Why) → Effects ≡ Err (Bad why) → newest_step e h ≡ Some s → (act.Bad why ≡ s.act)
      × (h.config ≡ s.next) × (h.words ≡ s.words)
  unfolding answer
  bad_act why is steps =
      got_bad (answered (entity_in e h) (slice_get h.words) (cells_at h.config.memory)
      (effect_of (eval_context_of e h) (e.function h.newest.function).ret h.newest.cont)) why is steps

  pub never_stuck : Effects ≡ Err Stuck → newest_step e h ≡ Some s → ⊥
  unfolding answer
  never_stuck is steps =
      got_none (answered (entity_in e h) (slice_get h.words) (cells_at h.config.memory)
      (effect_of (eval_context_of e h) (e.function h.newest.function).ret h.newest.cont)) is steps

  pub bad_steps : (ts : List Typed) (k : code.Config) (ws : List ℕ) (why : Why) → AreThread ts k h.config →
      ws ≡ h.words → Effects ≡ Err (Bad why) → newest_step e h ≡ Some s → IsStep ts (Some (act.Bad why)) k ws s
  bad_steps ts k ws why are words is steps =
      let w = bad_act why is steps in (ap Some w.0, subst (AreThread ts k) w.1 are, words ∙ w.2)

  -- a jump

  jump_to : (o : Option (List ContItem)) → step_with_effect e h
      (answered (entity_in e h) (slice_get h.words) (cells_at h.config.memory) (jumps o)) ≡ Some s →
      (rs : List ℕ) × (step_with_effect e h (got rs (continues (if_any o))) ≡ Some s)
  jump_to None steps = absurd (cc steps)
  jump_to (Some cont) steps = ([], steps)

  jump_of : (ret : Ty) (cont : List ContItem) → FirstStatementIs IsJump cont →
      step_with_effect e h (answered (entity_in e h) (slice_get h.words) (cells_at h.config.memory)
      (effect_of (eval_context_of e h) ret cont)) ≡ Some s →
      (rs : List ℕ) × (step_with_effect e h (got rs (continues (after true cont))) ≡ Some s)
  jump_of ret [] leaves steps = absurd leaves
  jump_of ret (begin (break_ p) ∷ cont) leaves steps = jump_to (after_break cont) steps
  jump_of ret (begin (continue_ p) ∷ cont) leaves steps = jump_to (after_continue cont) steps
  jump_of ret (begin _ ∷ cont) leaves steps = absurd leaves
  jump_of ret (begun p c a ∷ cont) leaves steps = absurd leaves
  jump_of ret (loop p c u a ∷ cont) leaves steps = absurd leaves
  jump_of ret (next p absent ∷ cont) leaves steps = absurd leaves
  jump_of ret (next p (present (break_ q)) ∷ cont) leaves steps = jump_to (after_break cont) steps
  jump_of ret (next p (present (continue_ q)) ∷ cont) leaves steps = jump_to (after_continue cont) steps
  jump_of ret (next p (present _) ∷ cont) leaves steps = absurd leaves

  pub jump_step : FirstStatementIs IsJump h.newest.cont → newest_step e h ≡ Some s → (rs : List ℕ)
      × (step_with_effect e h (got rs (continues (after true h.newest.cont))) ≡ Some s)
  jump_step leaves steps = jump_of (e.function h.newest.function).ret h.newest.cont leaves steps
