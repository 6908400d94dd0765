-- The lock that a step of the definition takes, by the first item alone.
use Rattle.std.proofs.Common.{◌≡◌, ℕ, ◌+◌, List, [], ◌∷◌, Option, Some, None, Result, Ok, Err, refl, sym, ap, subst, ◌∙◌}
use Rattle.std.specs.Prelude.{slice_get}
use Rattle.cas_base.specs.declared.act.Act.{Act}
use Rattle.cas_base.specs.declared.act.Act.TheVariants as act
use Rattle.cas_base.specs.declared.kind.Ty.{Ty}
use Rattle.cas_typed.specs.Resolved.{TypedExprTree, TypedStmtTree, skip, assign, call, block, if_, while_, do_, for_, break_, continue_, return_, lock, unlock, print, absent, present}
use Rattle.cas_step.specs.Answered.{Got, got, bad, got_stuck, answered, value_at}
use Rattle.cas_step.specs.Asks.{Asks, Value, and_then, gives, stuck, word_in}
use Rattle.cas_step.specs.Env.{Env, Entity, function, outside, shared, table}
use Rattle.cas_step.specs.Env as env
use Rattle.cas_step.specs.Evaluate.{EvalContext, Cell, of_object, of_global, either, target_of, test_of, value_of, values_of}
use Rattle.cas_step.specs.Continuation.{ContItem, Effect, begin, begun, loop, next, after_break, after_continue, begin_all, begin_part, calls, chooses, effect_of, fallen, continues, into, jumps, locks, prints, returned, returns, statement_effect, stores, unlocks, writes}
use Rattle.cas_step.specs.Step.{Activation, Block, StepContext, Object, Step, bad_step, call_step, cells_at, entity_in, global_step, goes_step, lock_step, memory_keeping, memory_without, return_step, return_to, eval_context_of, step_with_effect, newest_step, step_to, store_step, thread_with, word_step, write_step, doing, memory_with, with_call}
use Rattle.cas_eval.specs.Answer.{EvalState, answer, outcome}
use Rattle.cas_eval.specs.declared.values.NoResult.{NoResult}
use Rattle.cas_eval.proofs.Answering.{answer_is, answer_then, given, then_}
use Rattle.cas_typed.specs.declared.tree.Destination.{Destination}
use Rattle.cas_thread.specs.Eval_state.{eval_state_in}
use Rattle.cas_thread.specs.Effects.{first_lock, lock_in}
use Rattle.cas_thread.specs.Stepping.{lock_word}
use Rattle.cas_thread.specs.Thread.{lock_of}

-- what is answered takes the lock that this item is, if it takes one
abbrev Takes : Option ℕ → Result (Effect Object) NoResult → Type 0
Takes o (Ok (locks g cont)) = o ≡ Some g
Takes o (Ok (continues cont)) = o ≡ None
Takes o (Ok (stores x i v cont)) = o ≡ None
Takes o (Ok (writes g i n cont)) = o ≡ None
Takes o (Ok (calls g vs target cont)) = o ≡ None
Takes o (Ok (returns v)) = o ≡ None
Takes o (Ok (unlocks g cont)) = o ≡ None
Takes o (Ok (prints n cont)) = o ≡ None
Takes o (Err why) = o ≡ None

module _ (r : EvalState) where
  gives_this : (o : Option ℕ) (d : Effect Object) → Takes o (Ok d) → Takes o (answer r (gives d))
  gives_this o d is = subst (Takes o) (sym (given r d)) is

  then_none : {A : Type 0} (x : Result A NoResult) (more : A → Result (Effect Object) NoResult) →
      ((a : A) → Takes None (more a)) → Takes None (then_ x more)
  then_none (Ok a) more is = is a
  then_none (Err why) more is = refl

  and_none : {A : Type 0} (x : Asks Object A) (more : A → Asks Object (Effect Object)) →
      ((a : A) → Takes None (answer r (more a))) → Takes None (answer r (and_then x more))
  and_none x more is = subst (Takes None) (sym (answer_then r x more))
      (then_none (answer r x) (λ a. answer r (more a)) is)

  into_none : (c : Cell Object) (v : Value Object) (cont : List ContItem) → Takes None (answer r (into c v cont))
  into_none (of_object o p) v cont = gives_this None (stores o p v cont) refl
  into_none (of_global g i) v cont = and_none (word_in v) (λ n. gives (writes g i n cont))
      (λ n. gives_this None (writes g i n cont) refl)

  stuck_none : (x : Result (Effect Object) NoResult) → x ≡ answer r stuck → Takes None x
  unfolding answer
  stuck_none (Ok d) is = absurd (cc is)
  stuck_none (Err why) is = refl

  jumps_none : (o : Option (List ContItem)) → Takes None (answer r (jumps o))
  jumps_none None = stuck_none (answer r stuck) refl
  jumps_none (Some cont) = gives_this None (continues cont) refl

  module _ (s : EvalContext Object) where
    chooses_none : (c : Option TypedExprTree) (some others : List ContItem) →
        Takes None (answer r (chooses s c some others))
    chooses_none None some others = gives_this None (continues some) refl
    chooses_none (Some c) some others = and_none (test_of s c) (λ is. gives (continues (either some others is)))
        (λ is. gives_this None (continues (either some others is)) refl)

    returned_none : (a : Option TypedExprTree) → Takes None (answer r (returned s a))
    returned_none None = gives_this None (returns None) refl
    returned_none (Some a) = and_none (value_of s a) (λ v. gives (returns (Some v)))
        (λ v. gives_this None (returns (Some v)) refl)

    statement_takes : (a : TypedStmtTree) (cont : List ContItem) →
        Takes (lock_in a) (answer r (statement_effect s a cont))
    statement_takes (skip p) cont = gives_this None (continues cont) refl
    statement_takes (assign p target a) cont =
        and_none (target_of s target) (λ c. and_then (value_of s a) (λ v. into c v cont))
        (λ c. and_none (value_of s a) (λ v. into c v cont) (λ v. into_none c v cont))
    statement_takes (block p bs) cont = gives_this None (continues (begin_all bs cont)) refl
    statement_takes (if_ p c a otherwise) cont = chooses_none (Some c) (begin a ∷ cont) (begin_part otherwise cont)
    statement_takes (while_ p c a) cont = chooses_none (Some c) (begin a ∷ begun p c a ∷ cont) cont
    statement_takes (do_ p a c) cont = gives_this None (continues (begin a ∷ begun p c a ∷ cont)) refl
    statement_takes (for_ p first c u a) cont = gives_this None (continues (begin_part first (loop p c u a ∷ cont)))
        refl
    statement_takes (break_ p) cont = jumps_none (after_break cont)
    statement_takes (continue_ p) cont = jumps_none (after_continue cont)
    statement_takes (call p kept g at args) cont = and_none (values_of s args) (λ vs. gives (calls g vs kept cont))
        (λ vs. gives_this None (calls g vs kept cont) refl)
    statement_takes (return_ p a) cont = returned_none a
    statement_takes (lock p g) cont = gives_this (Some g) (locks g cont) refl
    statement_takes (unlock p g) cont = gives_this None (unlocks g cont) refl
    statement_takes (print p a) cont =
        and_none (value_of s a) (λ v. and_then (word_in v) (λ n. gives (prints n cont)))
        (λ v. and_none (word_in v) (λ n. gives (prints n cont)) (λ n. gives_this None (prints n cont) refl))

    item_takes : (ret : Ty) (cont : List ContItem) → Takes (first_lock cont) (answer r (effect_of s ret cont))
    item_takes ret [] = gives_this None (returns (fallen ret)) refl
    item_takes ret (begin a ∷ cont) = statement_takes a cont
    item_takes ret (begun p c a ∷ cont) = chooses_none (Some c) (begin a ∷ begun p c a ∷ cont) cont
    item_takes ret (loop p c u a ∷ cont) = chooses_none c (begin a ∷ next p u ∷ loop p c u a ∷ cont) cont
    item_takes ret (next p absent ∷ cont) = gives_this None (continues cont) refl
    item_takes ret (next p (present a) ∷ cont) = statement_takes a cont

-- the word of the lock that an item is, if there is an item
abbrev pub word_of : (ℕ → Option Entity) → Option ℕ → Option ℕ
word_of entity None = None
word_of entity (Some g) = lock_word (entity g)

module _ (e : Env) (h : StepContext) (s : Step) where
  by_act : (o : Option ℕ) (a : Act) → o ≡ None → lock_of a ≡ None → a ≡ s.act →
      word_of (entity_in e h) o ≡ lock_of s.act
  by_act o a none no_lock same = ap (word_of (entity_in e h)) none ∙ sym no_lock ∙ ap lock_of same

  pub store_act : (rs : List ℕ) (held : Option (Value Object)) (x : Object) (i : ℕ) (v : Value Object)
      (cont : List ContItem) → store_step e h rs held x i v cont ≡ Some s → act.Quiet ≡ s.act
  store_act rs None x i v cont is = absurd (cc is)
  store_act rs (Some held) x i v cont is =
      let same : step_to e h rs act.Quiet (thread_with h (doing h cont) (memory_with h.config.memory x i v)) ≡ s =
      cc is in ap (λ x. x.act) same

  word_act : (rs : List ℕ) (held : Option ℕ) (number n : ℕ) (cont : List ContItem) →
      word_step e h rs held number n cont ≡ Some s → act.Quiet ≡ s.act
  word_act rs None number n cont is = absurd (cc is)
  word_act rs (Some held) number n cont is = let same : write_step e h rs number n cont ≡ s =
      cc is in ap (λ x. x.act) same

  pub global_act : (rs : List ℕ) (it : Option Entity) (i n : ℕ) (cont : List ContItem) →
      global_step e h rs it i n cont ≡ Some s → act.Quiet ≡ s.act
  global_act rs None i n cont is = absurd (cc is)
  global_act rs (Some (function f)) i n cont is = absurd (cc is)
  global_act rs (Some outside) i n cont is = absurd (cc is)
  global_act rs (Some (table first len)) i n cont is = absurd (cc is)
  global_act rs (Some (env.lock m)) i n cont is = absurd (cc is)
  global_act rs (Some (shared first len guard)) i n cont is =
      word_act rs (slice_get h.words (first + i)) (first + i) n cont is

  pub call_act : (rs : List ℕ) (it : Option Entity) (vs : List (Value Object)) (target : Option Destination)
      (cont : List ContItem) → call_step e h rs it vs target cont ≡ Some s → act.Quiet ≡ s.act
  call_act rs None vs target cont is = absurd (cc is)
  call_act rs (Some outside) vs target cont is = absurd (cc is)
  call_act rs (Some (shared first len guard)) vs target cont is = absurd (cc is)
  call_act rs (Some (table first len)) vs target cont is = absurd (cc is)
  call_act rs (Some (env.lock n)) vs target cont is = absurd (cc is)
  call_act rs (Some (function f)) vs target cont is =
      let same : step_to e h rs act.Quiet (with_call e (doing h cont) h.config.memory h.config.fresh f vs target) ≡ s =
      cc is in ap (λ x. x.act) same

  return_to_act : (rs : List ℕ) (older : List Activation) (kept : Option (List Block)) →
      return_to e h rs older kept ≡ Some s → act.Quiet ≡ s.act
  return_to_act rs older None is = absurd (cc is)
  return_to_act rs older (Some m) is = let same : step_to e h rs act.Quiet (thread_with h older m) ≡ s =
      cc is in ap (λ x. x.act) same

  pub last_return_act : (rs : List ℕ) (v : Option (Value Object)) → return_step e h rs [] v ≡ Some s → act.Done ≡ s.act
  last_return_act rs v is =
      let same : step_to e h rs act.Done (thread_with h [] (memory_without h.config.memory h.newest.serial)) ≡ s =
      cc is in ap (λ x. x.act) same

  pub inner_return_act : (rs : List ℕ) (a : Activation) (older : List Activation) (v : Option (Value Object)) →
      return_step e h rs (a ∷ older) v ≡ Some s → act.Quiet ≡ s.act
  inner_return_act rs a older v is = return_to_act rs (a ∷ older)
      (memory_keeping (memory_without h.config.memory h.newest.serial) a.serial h.newest.target v) is

  pub lock_act : (rs : List ℕ) (it : Option Entity) (a : ℕ → Act) (cont : List ContItem) →
      lock_step e h rs it a cont ≡ Some s → (n : ℕ) × (lock_word it ≡ Some n) × (a n ≡ s.act)
  lock_act rs None a cont is = absurd (cc is)
  lock_act rs (Some (function f)) a cont is = absurd (cc is)
  lock_act rs (Some outside) a cont is = absurd (cc is)
  lock_act rs (Some (shared first len guard)) a cont is = absurd (cc is)
  lock_act rs (Some (table first len)) a cont is = absurd (cc is)
  lock_act rs (Some (env.lock m)) a cont is = let same : goes_step e h rs (a m) cont ≡ s =
      cc is in (m, refl, ap (λ x. x.act) same)

  return_takes : (o : Option ℕ) (rs : List ℕ) (older : List Activation) (v : Option (Value Object)) → o ≡ None →
      return_step e h rs older v ≡ Some s → word_of (entity_in e h) o ≡ lock_of s.act
  return_takes o rs [] v none is = by_act o act.Done none refl (last_return_act rs v is)
  return_takes o rs (a ∷ older) v none is = by_act o act.Quiet none refl (inner_return_act rs a older v is)

  doing_takes : (o : Option ℕ) (g : Got (Effect Object)) → Takes o (outcome g) → step_with_effect e h g ≡ Some s →
      word_of (entity_in e h) o ≡ lock_of s.act
  doing_takes o (got_stuck rs) takes is = absurd (cc is)
  doing_takes o (bad rs why) takes is = let same : bad_step e h rs why ≡ s =
      cc is in by_act o (act.Bad why) takes refl (ap (λ x. x.act) same)
  doing_takes o (got rs (continues cont)) takes is =
      let same : goes_step e h rs act.Quiet cont ≡ s = cc is in by_act o act.Quiet takes refl (ap (λ x. x.act) same)
  doing_takes o (got rs (stores x i v cont)) takes is =
      by_act o act.Quiet takes refl (store_act rs (value_at (cells_at h.config.memory x) i) x i v cont is)
  doing_takes o (got rs (writes g i n cont)) takes is =
      by_act o act.Quiet takes refl (global_act rs (entity_in e h g) i n cont is)
  doing_takes o (got rs (calls g vs target cont)) takes is =
      by_act o act.Quiet takes refl (call_act rs (entity_in e h g) vs target cont is)
  doing_takes o (got rs (returns v)) takes is = return_takes o rs h.older v takes is
  doing_takes o (got rs (locks g cont)) takes is =
      let w = lock_act rs (entity_in e h g) act.Lock cont is in ap (word_of (entity_in e h)) takes ∙ w.1
      ∙ ap lock_of w.2
  doing_takes o (got rs (unlocks g cont)) takes is =
      let w = lock_act rs (entity_in e h g) act.Unlock cont is in by_act o (act.Unlock w.0) takes refl w.2
  doing_takes o (got rs (prints n cont)) takes is =
      let same : goes_step e h rs (act.Out n) cont ≡ s = cc is in by_act o (act.Out n) takes refl (ap (λ x. x.act) same)

  -- the lock that a step takes
  pub step_takes : newest_step e h ≡ Some s → word_of (entity_in e h) (first_lock h.newest.cont) ≡ lock_of s.act
  step_takes is =
      let effect = effect_of (eval_context_of e h) (e.function h.newest.function).ret h.newest.cont in
      doing_takes (first_lock h.newest.cont) (answered (entity_in e h) (slice_get h.words) (cells_at h.config.memory)
      effect)
      (subst (Takes (first_lock h.newest.cont)) (answer_is (eval_state_in e h) effect)
      (item_takes (eval_state_in e h) (eval_context_of e h) (e.function h.newest.function).ret h.newest.cont)) is
