-- A step of the definition outputs a word only if its first item does.
use Rattle.std.proofs.Common.{◌≡◌, ◌≢◌, ℕ, Bool, true, false, List, [], ◌∷◌, Option, Some, None, Result, Ok, Err, refl, sym, ap, subst, ◌∙◌}
use Rattle.std.specs.Bool.{OnFalse}
use Rattle.std.specs.Prelude.{⊤, slice_get}
use Rattle.cas_base.specs.declared.act.Act.{Act}
use Rattle.cas_base.specs.declared.act.Act.TheVariants as act
use Rattle.cas_base.specs.declared.kind.Ty.{Ty}
use Rattle.cas_typed.specs.Resolved.{TypedExprTree, TypedStmtTree, skip, assign, call, block, if_, while_, do_, for_, break_, continue_, return_, lock, unlock, print, absent, present}
use Rattle.cas_step.specs.Answered.{Got, got, bad, got_stuck, answered, value_at}
use Rattle.cas_step.specs.Asks.{Asks, Value, and_then, gives, stuck, word_in}
use Rattle.cas_step.specs.Env.{Env}
use Rattle.cas_step.specs.Evaluate.{EvalContext, Cell, of_object, of_global, either, target_of, test_of, value_of, values_of}
use Rattle.cas_step.specs.Continuation.{ContItem, Effect, begin, begun, loop, next, after_break, after_continue, begin_all, begin_part, calls, chooses, effect_of, fallen, continues, into, jumps, locks, prints, returned, returns, statement_effect, stores, unlocks, writes}
use Rattle.cas_step.specs.Step.{Activation, StepContext, Object, Step, bad_step, cells_at, entity_in, goes_step, return_step, eval_context_of, step_with_effect, newest_step}
use Rattle.cas_eval.specs.Answer.{EvalState, answer, outcome}
use Rattle.cas_eval.specs.declared.values.NoResult.{NoResult}
use Rattle.cas_eval.proofs.Answering.{answer_is, answer_then, given, then_}
use Rattle.cas_thread.specs.Eval_state.{eval_state_in}
use Rattle.cas_thread.specs.Effects.{is_print, prints_first}
use Rattle.cas_thread.proofs.Lock_acts.{call_act, global_act, inner_return_act, last_return_act, lock_act, store_act}

-- what is answered outputs a word only if this is true
abbrev Prints : Bool → Result (Effect Object) NoResult → Type 0
Prints is (Ok (prints n cont)) = is ≡ true
Prints is _ = ⊤

module _ (r : EvalState) where
  gives_this : (is : Bool) (d : Effect Object) → Prints is (Ok d) → Prints is (answer r (gives d))
  gives_this is d h = subst (Prints is) (sym (given r d)) h

  then_no : {A : Type 0} (is : Bool) (x : Result A NoResult) (more : A → Result (Effect Object) NoResult) →
      ((a : A) → Prints is (more a)) → Prints is (then_ x more)
  then_no is (Ok a) more h = h a
  then_no is (Err why) more h = tt

  and_no : {A : Type 0} (is : Bool) (x : Asks Object A) (more : A → Asks Object (Effect Object)) →
      ((a : A) → Prints is (answer r (more a))) → Prints is (answer r (and_then x more))
  and_no is x more h = subst (Prints is) (sym (answer_then r x more))
      (then_no is (answer r x) (λ a. answer r (more a)) h)

  into_no : (c : Cell Object) (v : Value Object) (cont : List ContItem) → Prints false (answer r (into c v cont))
  into_no (of_object o p) v cont = gives_this false (stores o p v cont) tt
  into_no (of_global g i) v cont = and_no false (word_in v) (λ n. gives (writes g i n cont))
      (λ n. gives_this false (writes g i n cont) tt)

  stuck_no : (x : Result (Effect Object) NoResult) → x ≡ answer r stuck → Prints false x
  unfolding answer
  stuck_no (Ok d) is = absurd (cc is)
  stuck_no (Err why) is = tt

  jumps_no : (o : Option (List ContItem)) → Prints false (answer r (jumps o))
  jumps_no None = stuck_no (answer r stuck) refl
  jumps_no (Some cont) = gives_this false (continues cont) tt

  module _ (s : EvalContext Object) where
    chooses_no : (c : Option TypedExprTree) (some others : List ContItem) →
        Prints false (answer r (chooses s c some others))
    chooses_no None some others = gives_this false (continues some) tt
    chooses_no (Some c) some others = and_no false (test_of s c) (λ is. gives (continues (either some others is)))
        (λ is. gives_this false (continues (either some others is)) tt)

    returned_no : (a : Option TypedExprTree) → Prints false (answer r (returned s a))
    returned_no None = gives_this false (returns None) tt
    returned_no (Some a) = and_no false (value_of s a) (λ v. gives (returns (Some v)))
        (λ v. gives_this false (returns (Some v)) tt)

    statement_prints : (a : TypedStmtTree) (cont : List ContItem) →
        Prints (is_print a) (answer r (statement_effect s a cont))
    statement_prints (skip p) cont = gives_this false (continues cont) tt
    statement_prints (assign p target a) cont =
        and_no false (target_of s target) (λ c. and_then (value_of s a) (λ v. into c v cont))
        (λ c. and_no false (value_of s a) (λ v. into c v cont) (λ v. into_no c v cont))
    statement_prints (block p bs) cont = gives_this false (continues (begin_all bs cont)) tt
    statement_prints (if_ p c a otherwise) cont = chooses_no (Some c) (begin a ∷ cont) (begin_part otherwise cont)
    statement_prints (while_ p c a) cont = chooses_no (Some c) (begin a ∷ begun p c a ∷ cont) cont
    statement_prints (do_ p a c) cont = gives_this false (continues (begin a ∷ begun p c a ∷ cont)) tt
    statement_prints (for_ p first c u a) cont = gives_this false (continues (begin_part first (loop p c u a ∷ cont)))
        tt
    statement_prints (break_ p) cont = jumps_no (after_break cont)
    statement_prints (continue_ p) cont = jumps_no (after_continue cont)
    statement_prints (call p kept g at args) cont = and_no false (values_of s args) (λ vs. gives (calls g vs kept cont))
        (λ vs. gives_this false (calls g vs kept cont) tt)
    statement_prints (return_ p a) cont = returned_no a
    statement_prints (lock p g) cont = gives_this false (locks g cont) tt
    statement_prints (unlock p g) cont = gives_this false (unlocks g cont) tt
    statement_prints (print p a) cont =
        and_no true (value_of s a) (λ v. and_then (word_in v) (λ n. gives (prints n cont)))
        (λ v. and_no true (word_in v) (λ n. gives (prints n cont)) (λ n. gives_this true (prints n cont) refl))

    item_prints : (ret : Ty) (cont : List ContItem) → Prints (prints_first cont) (answer r (effect_of s ret cont))
    item_prints ret [] = gives_this false (returns (fallen ret)) tt
    item_prints ret (begin a ∷ cont) = statement_prints a cont
    item_prints ret (begun p c a ∷ cont) = chooses_no (Some c) (begin a ∷ begun p c a ∷ cont) cont
    item_prints ret (loop p c u a ∷ cont) = chooses_no c (begin a ∷ next p u ∷ loop p c u a ∷ cont) cont
    item_prints ret (next p absent ∷ cont) = gives_this false (continues cont) tt
    item_prints ret (next p (present a) ∷ cont) = statement_prints a cont

-- what is told where a test fails
pub on_false : (b : Bool) {P : Type 0} → (b ≡ false → P) → OnFalse b P
on_false true h = tt
on_false false h = h refl

-- another act than this
differs : (a b : Act) (n : ℕ) → a ≢ act.Out n → a ≡ b → b ≢ act.Out n
differs a b n other same out = other (same ∙ out)

module _ (e : Env) (h : StepContext) (s : Step) (n : ℕ) where
  return_puts_none : (rs : List ℕ) (older : List Activation) (v : Option (Value Object)) →
      return_step e h rs older v ≡ Some s → s.act ≢ act.Out n
  return_puts_none rs [] v is = differs act.Done s.act n (λ x. cc x) (last_return_act e h s rs v is)
  return_puts_none rs (a ∷ older) v is = differs act.Quiet s.act n (λ x. cc x) (inner_return_act e h s rs a older v is)

  doing_puts_none : (b : Bool) (g : Got (Effect Object)) → Prints b (outcome g) → b ≡ false →
      step_with_effect e h g ≡ Some s → s.act ≢ act.Out n
  doing_puts_none b (got_stuck rs) puts none is = absurd (cc is)
  doing_puts_none b (bad rs why) puts none is =
      let same : bad_step e h rs why ≡ s = cc is in differs (act.Bad why) s.act n (λ x. cc x) (ap (λ x. x.act) same)
  doing_puts_none b (got rs (continues cont)) puts none is =
      let same : goes_step e h rs act.Quiet cont ≡ s =
      cc is in differs act.Quiet s.act n (λ x. cc x) (ap (λ x. x.act) same)
  doing_puts_none b (got rs (stores x i v cont)) puts none is =
      differs act.Quiet s.act n (λ y. cc y) (store_act e h s rs (value_at (cells_at h.config.memory x) i) x i v cont is)
  doing_puts_none b (got rs (writes g i m cont)) puts none is =
      differs act.Quiet s.act n (λ x. cc x) (global_act e h s rs (entity_in e h g) i m cont is)
  doing_puts_none b (got rs (calls g vs target cont)) puts none is =
      differs act.Quiet s.act n (λ x. cc x) (call_act e h s rs (entity_in e h g) vs target cont is)
  doing_puts_none b (got rs (returns v)) puts none is = return_puts_none rs h.older v is
  doing_puts_none b (got rs (locks g cont)) puts none is =
      let w = lock_act e h s rs (entity_in e h g) act.Lock cont is in differs (act.Lock w.0) s.act n (λ x. cc x) w.2
  doing_puts_none b (got rs (unlocks g cont)) puts none is =
      let w = lock_act e h s rs (entity_in e h g) act.Unlock cont is in differs (act.Unlock w.0) s.act n (λ x. cc x) w.2
  doing_puts_none b (got rs (prints m cont)) puts none is = absurd (cc (sym puts ∙ none))

  -- a step whose first item puts no word out
  pub step_puts_none : prints_first h.newest.cont ≡ false → newest_step e h ≡ Some s → s.act ≢ act.Out n
  step_puts_none none is =
      let effect = effect_of (eval_context_of e h) (e.function h.newest.function).ret h.newest.cont in
      doing_puts_none (prints_first h.newest.cont) (answered (entity_in e h) (slice_get h.words)
      (cells_at h.config.memory) effect)
      (subst (Prints (prints_first h.newest.cont)) (answer_is (eval_state_in e h) effect)
      (item_prints (eval_state_in e h) (eval_context_of e h) (e.function h.newest.function).ret h.newest.cont))
      none is
