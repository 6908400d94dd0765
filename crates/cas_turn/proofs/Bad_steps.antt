-- A Bad step changes nothing.
use Rattle.std.proofs.Common.{◌≡◌, ℕ, ◌+◌, List, [], ◌∷◌, Option, Some, None, slice_get, refl, subst}
use Rattle.std.specs.Prelude.{⊤}
use Rattle.cas_base.specs.declared.act.Act.TheVariants as act
use Rattle.cas_base.specs.declared.act.Why.{Why}
use Rattle.cas_step.specs.Answered.{Got, got, bad, got_stuck, value_at, answered}
use Rattle.cas_step.specs.Asks.{Value}
use Rattle.cas_step.specs.Env.{Entity, function, outside, shared, table, lock, Env}
use Rattle.cas_step.specs.Continuation.{ContItem, Effect, continues, stores, writes, calls, returns, locks, unlocks, prints, effect_of}
use Rattle.cas_step.specs.Step.{Object, Activation, Block, Config, Step, StepContext, entity_in, eval_context_of, cells_at, word_step, global_step, store_step, memory_without, memory_keeping, call_step, return_to, return_step, lock_step, step_with_effect, newest_step, step_of, step}
use Rattle.cas_typed.specs.declared.tree.Destination.{Destination}

-- of the step, if there is one, this holds
abbrev Lands : (Step → Type 0) → Option Step → Type 0
Lands P None = ⊤
Lands P (Some s) = P s

lands_is : (P : Step → Type 0) (o : Option Step) (s : Step) → Lands P o → o ≡ Some s → P s
lands_is P None s h is = absurd (cc is)
lands_is P (Some r) s h is = let same : r ≡ s = cc is in subst P same h

-- where the step is Bad, the thread and the words are as before
abbrev Stays : Config → List ℕ → Step → Type 0
Stays c ws s = (why : Why) → s.act ≡ act.Bad why → (s.next ≡ c) × (s.words ≡ ws)

module _ (e : Env) (h : StepContext) where
  abbrev Keeps : Step → Type 0
  Keeps s = Stays h.config h.words s

  global_stays : (rs : List ℕ) (it : Option Entity) (i n : ℕ) (cont : List ContItem) →
      Lands Keeps (global_step e h rs it i n cont)
  global_stays rs None i n cont = tt
  global_stays rs (Some (function f)) i n cont = tt
  global_stays rs (Some outside) i n cont = tt
  global_stays rs (Some (shared first len guard)) i n cont = word_stays (slice_get h.words (first + i)) (first + i)
    where
      word_stays : (before : Option ℕ) (number : ℕ) → Lands Keeps (word_step e h rs before number n cont)
      word_stays None number = tt
      word_stays (Some old) number = λ why is. absurd (cc is)
  global_stays rs (Some (table first len)) i n cont = tt
  global_stays rs (Some (lock w)) i n cont = tt

  store_stays : (rs : List ℕ) (before : Option (Value Object)) (o : Object) (i : ℕ) (v : Value Object)
      (cont : List ContItem) → Lands Keeps (store_step e h rs before o i v cont)
  store_stays rs None o i v cont = tt
  store_stays rs (Some old) o i v cont = λ why is. absurd (cc is)

  call_stays : (rs : List ℕ) (it : Option Entity) (vs : List (Value Object)) (target : Option Destination)
      (cont : List ContItem) → Lands Keeps (call_step e h rs it vs target cont)
  call_stays rs None vs target cont = tt
  call_stays rs (Some (function f)) vs target cont = λ why is. absurd (cc is)
  call_stays rs (Some outside) vs target cont = tt
  call_stays rs (Some (shared first len guard)) vs target cont = tt
  call_stays rs (Some (table first len)) vs target cont = tt
  call_stays rs (Some (lock w)) vs target cont = tt

  return_to_stays : (rs : List ℕ) (older : List Activation) (memory : Option (List Block)) →
      Lands Keeps (return_to e h rs older memory)
  return_to_stays rs older None = tt
  return_to_stays rs older (Some memory) = λ why is. absurd (cc is)

  return_stays : (rs : List ℕ) (older : List Activation) (v : Option (Value Object)) →
      Lands Keeps (return_step e h rs older v)
  return_stays rs [] v = λ why is. absurd (cc is)
  return_stays rs (a ∷ older) v = return_to_stays rs (a ∷ older)
      (memory_keeping (memory_without h.config.memory h.newest.serial) a.serial h.newest.target v)

  lock_stays : (rs : List ℕ) (it : Option Entity) (cont : List ContItem) →
      Lands Keeps (lock_step e h rs it act.Lock cont)
  lock_stays rs None cont = tt
  lock_stays rs (Some (function f)) cont = tt
  lock_stays rs (Some outside) cont = tt
  lock_stays rs (Some (shared first len guard)) cont = tt
  lock_stays rs (Some (table first len)) cont = tt
  lock_stays rs (Some (lock w)) cont = λ why is. absurd (cc is)

  unlock_stays : (rs : List ℕ) (it : Option Entity) (cont : List ContItem) →
      Lands Keeps (lock_step e h rs it act.Unlock cont)
  unlock_stays rs None cont = tt
  unlock_stays rs (Some (function f)) cont = tt
  unlock_stays rs (Some outside) cont = tt
  unlock_stays rs (Some (shared first len guard)) cont = tt
  unlock_stays rs (Some (table first len)) cont = tt
  unlock_stays rs (Some (lock w)) cont = λ why is. absurd (cc is)

  doing_stays : (x : Got (Effect Object)) → Lands Keeps (step_with_effect e h x)
  doing_stays (got_stuck rs) = tt
  doing_stays (bad rs why) = λ w is. (refl, refl)
  doing_stays (got rs (continues cont)) = λ why is. absurd (cc is)
  doing_stays (got rs (stores o i v cont)) = store_stays rs (value_at (cells_at h.config.memory o) i) o i v cont
  doing_stays (got rs (writes g i n cont)) = global_stays rs (entity_in e h g) i n cont
  doing_stays (got rs (calls g vs target cont)) = call_stays rs (entity_in e h g) vs target cont
  doing_stays (got rs (returns v)) = return_stays rs h.older v
  doing_stays (got rs (locks g cont)) = lock_stays rs (entity_in e h g) cont
  doing_stays (got rs (unlocks g cont)) = unlock_stays rs (entity_in e h g) cont
  doing_stays (got rs (prints n cont)) = λ why is. absurd (cc is)

  here_stays : Lands Keeps (newest_step e h)
  here_stays =
      doing_stays (answered (entity_in e h) (slice_get h.words) (cells_at h.config.memory)
      (effect_of (eval_context_of e h) (e.function h.newest.function).ret h.newest.cont))

of_stays : (e : Env) (ws : List ℕ) (c : Config) (s : Step) (activations : List Activation) →
    step_of e ws c activations ≡ Some s → Stays c ws s
of_stays e ws c s [] is = absurd (cc is)
of_stays e ws c s (a ∷ older) is =
    let h : StepContext = record { config = c; newest = a; older = older; words = ws } in
    lands_is (Keeps e h) (newest_step e h) s (here_stays e h) is

-- A Bad step leaves the thread and the words.
pub bad_stays : (e : Env) (ws : List ℕ) (c : Config) (s : Step) (why : Why) → step e ws c ≡ Some s →
    s.act ≡ act.Bad why → (s.next ≡ c) × (s.words ≡ ws)
bad_stays e ws c s why is = of_stays e ws c s c.activations is why
