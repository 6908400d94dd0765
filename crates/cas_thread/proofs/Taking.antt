-- What a step of the definition leaves that continues, and the thread that the code leaves.
use Rattle.std.proofs.Common.{◌≡◌, ℕ, Bool, ◌+◌, List, [], ◌∷◌, Option, Some, None, sym, ap, subst, ◌∙◌}
use Rattle.std.specs.Prelude.{slice_get, slice_set}
use Rattle.cas_base.specs.declared.act.Act.{Act}
use Rattle.cas_base.specs.declared.act.Act.TheVariants as act
use Rattle.cas_typed.specs.declared.typed.Typed.{Typed}
use Rattle.cas_step.specs.Asks.{Value}
use Rattle.cas_step.specs.Env.{Env, Entity, function, outside, shared, table, lock}
use Rattle.cas_step.specs.Continuation.{ContItem}
use Rattle.cas_step.specs.Step.{Activation, Block, StepContext, Object, Step, memory_keeping, memory_without, return_step, return_to, doing, global_step, goes_step, lock_step, memory_with, step_with_effect, step_to, store_step, thread_with, word_step, write_step}
use Rattle.cas_step.specs.Answered.{got}
use Rattle.cas_thread.specs.Effects.{effect_with}
use Rattle.cas_thread.specs.declared.effect.Effect.{Effect}
use Rattle.cas_thread.specs.Frames.{AreThread}
use Rattle.cas_thread.specs.Stepping.{IsStep, lock_word, shared_word}
use Rattle.cas_thread.specs.declared.config.Config as code

module _ (ts : List Typed) (e : Env) (h : StepContext) (rs : List ℕ) (s : Step) (k : code.Config) (ws : List ℕ)
    (cont : List ContItem) where
  -- nothing more than going on
  pub goes : (a : Act) → ws ≡ h.words → AreThread ts k (thread_with h (doing h cont) h.config.memory) →
      Some (goes_step e h rs a cont) ≡ Some s → IsStep ts (Some a) k ws s
  goes a words are is =
      let same : goes_step e h rs a cont ≡ s = cc is in
      (ap (λ x. Some x.act) same, subst (AreThread ts k) (ap (λ x. x.next) same) are, words ∙ ap (λ x. x.words) same)

  -- a store
  pub stores : (held : Option (Value Object)) (o : Object) (i : ℕ) (v : Value Object) → ws ≡ h.words →
      AreThread ts k (thread_with h (doing h cont) (memory_with h.config.memory o i v)) →
      store_step e h rs held o i v cont ≡ Some s → IsStep ts (Some act.Quiet) k ws s
  stores None o i v words are is = absurd (cc is)
  stores (Some held) o i v words are is =
      let same : step_to e h rs act.Quiet (thread_with h (doing h cont) (memory_with h.config.memory o i v)) ≡ s =
      cc is in
      (ap (λ x. Some x.act) same, subst (AreThread ts k) (ap (λ x. x.next) same) are, words ∙ ap (λ x. x.words) same)

  -- a write
  written : (held : Option ℕ) (number n : ℕ) → ws ≡ slice_set h.words number n →
      AreThread ts k (thread_with h (doing h cont) h.config.memory) →
      word_step e h rs held number n cont ≡ Some s → IsStep ts (Some act.Quiet) k ws s
  written None number n words are is = absurd (cc is)
  written (Some held) number n words are is =
      let same : write_step e h rs number n cont ≡ s = cc is in
      (ap (λ x. Some x.act) same, subst (AreThread ts k) (ap (λ x. x.next) same) are, words ∙ ap (λ x. x.words) same)

  pub writes : (it : Option Entity) (i n number : ℕ) → Some number ≡ shared_word it i →
      ws ≡ slice_set h.words number n → AreThread ts k (thread_with h (doing h cont) h.config.memory) →
      global_step e h rs it i n cont ≡ Some s → IsStep ts (Some act.Quiet) k ws s
  writes None i n number there words are is = absurd (cc is)
  writes (Some (function f)) i n number there words are is = absurd (cc is)
  writes (Some outside) i n number there words are is = absurd (cc is)
  writes (Some (table first len)) i n number there words are is = absurd (cc is)
  writes (Some (lock m)) i n number there words are is = absurd (cc is)
  writes (Some (shared first len guard)) i n number there words are is =
      let same : number ≡ first + i = cc there in
      written (slice_get h.words (first + i)) (first + i) n (words ∙ ap (λ m. slice_set h.words m n) same) are is

  -- an act on a lock
  pub locks : (it : Option Entity) (a : ℕ → Act) (n : ℕ) → Some n ≡ lock_word it → ws ≡ h.words →
      AreThread ts k (thread_with h (doing h cont) h.config.memory) →
      lock_step e h rs it a cont ≡ Some s → IsStep ts (Some (a n)) k ws s
  locks None a n there words are is = absurd (cc is)
  locks (Some (function f)) a n there words are is = absurd (cc is)
  locks (Some outside) a n there words are is = absurd (cc is)
  locks (Some (shared first len guard)) a n there words are is = absurd (cc is)
  locks (Some (table first len)) a n there words are is = absurd (cc is)
  locks (Some (lock m)) a n there words are is =
      let same : n ≡ m = cc there in
      subst (λ x. IsStep ts (Some (a x)) k ws s) (sym same) (goes (a m) words are is)

-- where an item is no shared global, or no lock, there is no such step

pub writes_nowhere : (e : Env) (h : StepContext) (rs : List ℕ) (s : Step) (cont : List ContItem) (it : Option Entity)
    (i n : ℕ) → None ≡ shared_word it i → global_step e h rs it i n cont ≡ Some s → ⊥
writes_nowhere e h rs s cont None i n there is = absurd (cc is)
writes_nowhere e h rs s cont (Some (function f)) i n there is = absurd (cc is)
writes_nowhere e h rs s cont (Some outside) i n there is = absurd (cc is)
writes_nowhere e h rs s cont (Some (table first len)) i n there is = absurd (cc is)
writes_nowhere e h rs s cont (Some (lock m)) i n there is = absurd (cc is)
writes_nowhere e h rs s cont (Some (shared first len guard)) i n there is = absurd (cc there)

pub locks_nowhere : (e : Env) (h : StepContext) (rs : List ℕ) (s : Step) (cont : List ContItem) (it : Option Entity)
    (a : ℕ → Act) → None ≡ lock_word it → lock_step e h rs it a cont ≡ Some s → ⊥
locks_nowhere e h rs s cont None a there is = absurd (cc is)
locks_nowhere e h rs s cont (Some (function f)) a there is = absurd (cc is)
locks_nowhere e h rs s cont (Some outside) a there is = absurd (cc is)
locks_nowhere e h rs s cont (Some (shared first len guard)) a there is = absurd (cc is)
locks_nowhere e h rs s cont (Some (table first len)) a there is = absurd (cc is)
locks_nowhere e h rs s cont (Some (lock m)) a there is = absurd (cc there)

-- a return leaves the words
return_to_words : (e : Env) (h : StepContext) (rs : List ℕ) (older : List Activation) (kept : Option (List Block))
    (s : Step) → return_to e h rs older kept ≡ Some s → h.words ≡ s.words
return_to_words e h rs older None s is = absurd (cc is)
return_to_words e h rs older (Some m) s is = let same : step_to e h rs act.Quiet (thread_with h older m) ≡ s =
    cc is in ap (λ x. x.words) same

pub return_words : (e : Env) (h : StepContext) (rs : List ℕ) (older : List Activation) (v : Option (Value Object))
    (s : Step) → return_step e h rs older v ≡ Some s → h.words ≡ s.words
return_words e h rs [] v s is =
    let same : step_to e h rs act.Done (thread_with h [] (memory_without h.config.memory h.newest.serial)) ≡ s =
    cc is in ap (λ x. x.words) same
return_words e h rs (a ∷ older) v s is =
    return_to_words e h rs (a ∷ older) (memory_keeping (memory_without h.config.memory h.newest.serial)
    a.serial h.newest.target v) s is

-- the same effect
pub doing_this : (e : Env) (h : StepContext) (rs : List ℕ) (s : Step) (left : Bool → List ContItem) (d d' : Effect) →
    d ≡ d' → step_with_effect e h (got rs (effect_with left d)) ≡ Some s →
    step_with_effect e h (got rs (effect_with left d')) ≡ Some s
doing_this e h rs s left d d' same is = subst (λ x. step_with_effect e h (got rs (effect_with left x)) ≡ Some s) same is
