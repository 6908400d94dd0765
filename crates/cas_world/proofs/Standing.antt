-- Each step of a thread keeps the sets with which its activations are walked, and how many of their parts have each
-- lock.
--
--     newest   set s            its part: s
--     older    set t, a call    its part: t without what the called function holds
--
-- Lock and Unlock change the newest part; a call and a return move what the called function holds from one part to
-- another.
use Rattle.std.proofs.Common.{arith, ◌≡◌, ◌≢◌, ℕ, zero, suc, ◌+◌, ◌<◌, ◌≤◌, true, false, List, [], ◌∷◌, Option, Some, None, refl, sym, ap, subst, ◌∙◌}
use Rattle.std.specs.Prelude.{slice_get, Contains}
use Rattle.cas_base.specs.declared.act.Act.{Act}
use Rattle.cas_base.specs.declared.act.Act.TheVariants as act
use Rattle.cas_own.specs.Locks.{Locks, has, having, without, guard_of, holds_of}
use Rattle.cas_step.specs.Answered.{Got, got, bad, got_stuck, value_at, answered}
use Rattle.cas_step.specs.Asks.{Value}
use Rattle.cas_step.specs.Env.{FunctionAt, Entity, function, outside, shared, table, lock, Env}
use Rattle.cas_step.specs.Well_formed.{IsAt}
use Rattle.cas_step.specs.Continuation.{ContItem, Effect, continues, stores, writes, calls, returns, locks, unlocks, prints, begin_all, effect_of}
use Rattle.cas_step.specs.Step.{Object, Activation, Block, Step, StepContext, entity_in, eval_context_of, bad_step, cells_at, word_step, global_step, store_step, memory_without, memory_keeping, call_step, return_to, return_step, lock_step, step_with_effect, newest_step}
use Rattle.cas_typed.specs.Resolved.{TypedFunTree, TypedModuleTree}
use Rattle.cas_typed.specs.declared.tree.Destination.{Destination}
use Rattle.cas_world.proofs.Counts.{count-having, count-without, count_has, word_here, word_other}
use Rattle.cas_world.proofs.Effects.{GotSo, Goes, KeepsEffect, answered_so, effect_keeps}
use Rattle.cas_world.proofs.Lock_flow.{Lands}
use Rattle.cas_step.specs.Operators.{truth}
use Rattle.cas_world.specs.Owned.{is_word, decls_at, own_at, counted, held, CallersFlow, StackFlows, parts}
use Rattle.cas_world.specs.Lock_flow.{nowhere, HasLockFlow}

-- how an act changes the number of parts that have a lock
abbrev pub PartsAfter : Act → (old new : ℕ → ℕ) → Type 0
PartsAfter (act.Lock l) old new = (new l ≡ old l + 1) × ((k : ℕ) → k ≢ l → new k ≡ old k)
PartsAfter (act.Unlock l) old new = (old l ≡ new l + 1) × ((k : ℕ) → k ≢ l → new k ≡ old k)
PartsAfter _ old new = (k : ℕ) → new k ≡ old k

module _ (modules : List TypedModuleTree) (e : Env) where
  -- what a program of checked modules has
  pub record Joins : Type 0 where
    pub bodies : (f : FunctionAt) (unit : TypedModuleTree) (it : TypedFunTree) → IsAt modules f unit it →
        HasLockFlow (decls_at modules e f.unit) (own_at modules e f) (begin_all (e.function f).body []) nowhere
        (Some (own_at modules e f))
    pub calls : (n g : ℕ) (f : FunctionAt) → e.entity n g ≡ Some (function f) →
        (unit : TypedModuleTree) × (it : TypedFunTree) × IsAt modules f unit it
        × ((w : ℕ) → held modules e f w ≤ 1) × ((w : ℕ) → 0 < held modules e f w → (l : ℕ)
        × Contains (holds_of (decls_at modules e n) g) l × (e.entity n l ≡ Some (lock w)))
    pub guards : (n g first len : ℕ) (guard : Option ℕ) → e.entity n g ≡ Some (shared first len guard) →
        (l w : ℕ) × (guard_of (decls_at modules e n) g ≡ Some l) × (e.entity n l ≡ Some (lock w)) × (guard ≡ Some w)

  -- a step of these activations with these sets
  pub record Keeps (a : Activation) (older : List Activation) (s : Locks) (ss : List Locks) (st : Step) : Type 0 where
    pub sets : List Locks
    pub stands : StackFlows modules e st.next.activations sets
    pub parts_are : PartsAfter st.act (parts modules e (a ∷ older) (s ∷ ss)) (parts modules e st.next.activations sets)

-- a return, where the set is that which the function's caller holds
module _ (modules : List TypedModuleTree) (e : Env) (h : StepContext) (s : Locks)
    (own : own_at modules e h.newest.function ≡ s) where
  given_back : (k : ℕ) → counted modules e h.newest.function.unit s k ≡ held modules e h.newest.function k
  given_back k = ap (λ t. counted modules e h.newest.function.unit t k) (sym own)

  to_caller : (rs : List ℕ) (a : Activation) (older : List Activation) (t : Locks) (ss : List Locks)
      (memory : Option (List Block)) → CallersFlow modules e h.newest.function (a ∷ older) (t ∷ ss) →
      Lands (Keeps modules e h.newest (a ∷ older) s (t ∷ ss)) (return_to e h rs (a ∷ older) memory)
  to_caller rs a older t ss None w = tt
  to_caller rs a older t ss (Some memory) w = record {
    sets = t ∷ ss;
    stands = (w.1, w.2, w.3);
    parts_are = λ k. omega (arith, given_back k, w.0 k);
  }

  returns_keep : (rs : List ℕ) (older : List Activation) (ss : List Locks) (v : Option (Value Object)) →
      CallersFlow modules e h.newest.function older ss →
      Lands (Keeps modules e h.newest older s ss) (return_step e h rs older v)
  returns_keep rs [] [] v w = record { sets = []; stands = tt; parts_are = λ k. omega (arith, given_back k, w k) }
  returns_keep rs [] (t ∷ ss) v w = absurd w
  returns_keep rs (a ∷ older) [] v w = absurd w
  returns_keep rs (a ∷ older) (t ∷ ss) v w =
      to_caller rs a older t ss (memory_keeping (memory_without h.config.memory h.newest.serial)
      a.serial h.newest.target v) w

module _ (modules : List TypedModuleTree) (e : Env) (joins : Joins modules e) (h : StepContext) (s : Locks)
    (ss : List Locks) (stands : StackFlows modules e (h.newest ∷ h.older) (s ∷ ss)) where
  abbrev KeepsAt : Option Step → Type 0
  KeepsAt st = Lands (Keeps modules e h.newest h.older s ss) st

  abbrev unit : ℕ
  unit = h.newest.function.unit

  abbrev GoesOn : Locks → List ContItem → Type 0
  GoesOn t cont = Goes (decls_at modules e unit) (own_at modules e h.newest.function) t cont

  stores_keep : (rs : List ℕ) (before : Option (Value Object)) (o : Object) (i : ℕ) (v : Value Object)
      (cont : List ContItem) → GoesOn s cont →
      KeepsAt (store_step e h rs before o i v cont)
  stores_keep rs None o i v cont g = tt
  stores_keep rs (Some old) o i v cont g =
      record { sets = s ∷ ss; stands = (g.0, g.1, stands.2); parts_are = λ k. refl }

  words_keep : (rs : List ℕ) (before : Option ℕ) (number n : ℕ) (cont : List ContItem) → GoesOn s cont →
      KeepsAt (word_step e h rs before number n cont)
  words_keep rs None number n cont g = tt
  words_keep rs (Some old) number n cont g =
      record { sets = s ∷ ss; stands = (g.0, g.1, stands.2); parts_are = λ k. refl }

  globals_keep : (rs : List ℕ) (it : Option Entity) (i n : ℕ) (cont : List ContItem) → GoesOn s cont →
      KeepsAt (global_step e h rs it i n cont)
  globals_keep rs None i n cont g = tt
  globals_keep rs (Some (function f)) i n cont g = tt
  globals_keep rs (Some outside) i n cont g = tt
  globals_keep rs (Some (shared first len guard)) i n cont g =
      words_keep rs (slice_get h.words (first + i)) (first + i) n cont g
  globals_keep rs (Some (table first len)) i n cont g = tt
  globals_keep rs (Some (lock w)) i n cont g = tt

  -- what a called function's caller holds is in the caller's set
  enough : (item : ℕ) (f : FunctionAt) → e.entity unit item ≡ Some (function f) →
      ((l : ℕ) → Contains (holds_of (decls_at modules e unit) item) l → has s l ≡ true) →
      (w : ℕ) → held modules e f w ≤ counted modules e unit s w
  enough item f is all w = by (held modules e f w) refl
    where
      by : (n : ℕ) → held modules e f w ≡ n → held modules e f w ≤ counted modules e unit s w
      by zero none = omega (arith, none)
      by (suc n) some =
          let called = joins.calls unit item f is in
          let there = called.4 w (omega (arith, some)) in
          let once = called.3 w in
          let here : 0 < counted modules e unit s w = count_has (e.entity unit) s there.0 w (all there.0 there.1)
          there.2 in
          omega (arith, once, here)

  calls_keep : (rs : List ℕ) (item : ℕ) (it : Option Entity) (vs : List (Value Object)) (target : Option Destination)
      (cont : List ContItem) → e.entity unit item ≡ it →
      ((l : ℕ) → Contains (holds_of (decls_at modules e unit) item) l → has s l ≡ true) → GoesOn s cont →
      KeepsAt (call_step e h rs it vs target cont)
  calls_keep rs item None vs target cont is all g = tt
  calls_keep rs item (Some (function f)) vs target cont is all g =
      let called = joins.calls unit item f is in
      let le = enough item f is all in
      record {
        sets = own_at modules e f ∷ s ∷ ss;
        stands = (nowhere, joins.bodies f called.0 called.1 called.2, (le, g.0, g.1, stands.2));
        parts_are = λ k. omega (arith, le k);
      }
  calls_keep rs item (Some outside) vs target cont is all g = tt
  calls_keep rs item (Some (shared first len guard)) vs target cont is all g = tt
  calls_keep rs item (Some (table first len)) vs target cont is all g = tt
  calls_keep rs item (Some (lock w)) vs target cont is all g = tt

  -- an act on a lock

  locks_keep : (rs : List ℕ) (item : ℕ) (it : Option Entity) (cont : List ContItem) → e.entity unit item ≡ it →
      has s item ≡ false → GoesOn (having s item) cont →
      KeepsAt (lock_step e h rs it act.Lock cont)
  locks_keep rs item None cont is out g = tt
  locks_keep rs item (Some (function f)) cont is out g = tt
  locks_keep rs item (Some outside) cont is out g = tt
  locks_keep rs item (Some (shared first len guard)) cont is out g = tt
  locks_keep rs item (Some (table first len)) cont is out g = tt
  locks_keep rs item (Some (lock n)) cont is out g = record {
    sets = having s item ∷ ss;
    stands = (g.0, g.1, stands.2);
    parts_are = (
      (let here : truth (is_word (e.entity unit item) n) ≡ 1 = ap (λ x. truth (is_word x n)) is
          ∙ ap truth (word_here n) in omega (arith, count-having (e.entity unit) s item n out, here)),
      λ k other. let none : truth (is_word (e.entity unit item) k) ≡ 0 = ap (λ x. truth (is_word x k)) is
          ∙ ap truth (word_other n k (λ d. other (sym d))) in
          omega (arith, count-having (e.entity unit) s item k out, none),
    );
  }

  unlocks_keep : (rs : List ℕ) (item : ℕ) (it : Option Entity) (cont : List ContItem) → e.entity unit item ≡ it →
      has s item ≡ true → GoesOn (without s item) cont →
      KeepsAt (lock_step e h rs it act.Unlock cont)
  unlocks_keep rs item None cont is there g = tt
  unlocks_keep rs item (Some (function f)) cont is there g = tt
  unlocks_keep rs item (Some outside) cont is there g = tt
  unlocks_keep rs item (Some (shared first len guard)) cont is there g = tt
  unlocks_keep rs item (Some (table first len)) cont is there g = tt
  unlocks_keep rs item (Some (lock n)) cont is there g = record {
    sets = without s item ∷ ss;
    stands = (g.0, g.1, stands.2);
    parts_are = (
      (let here : truth (is_word (e.entity unit item) n) ≡ 1 = ap (λ x. truth (is_word x n)) is
          ∙ ap truth (word_here n) in omega (arith, count-without (e.entity unit) s item n there, here)),
      λ k other. let none : truth (is_word (e.entity unit item) k) ≡ 0 = ap (λ x. truth (is_word x k)) is
          ∙ ap truth (word_other n k (λ d. other (sym d))) in
          omega (arith, count-without (e.entity unit) s item k there, none),
    );
  }

  -- a Bad step changes nothing
  bad_keeps : (rs : List ℕ) (why : _) → h.config.activations ≡ h.newest ∷ h.older → KeepsAt (Some (bad_step e h rs why))
  bad_keeps rs why is = record {
    sets = s ∷ ss;
    stands = subst (λ as_. StackFlows modules e as_ (s ∷ ss)) (sym is) stands;
    parts_are = λ k. ap (λ as_. parts modules e as_ (s ∷ ss) k) is;
  }

  doing_keeps : (x : Got (Effect Object)) → h.config.activations ≡ h.newest ∷ h.older →
      GotSo (KeepsEffect (decls_at modules e unit) (own_at modules e h.newest.function) s) x →
      KeepsAt (step_with_effect e h x)
  doing_keeps (got_stuck rs) is k = tt
  doing_keeps (bad rs why) is k = bad_keeps rs why is
  doing_keeps (got rs (continues cont)) is k =
      record { sets = s ∷ ss; stands = (k.0, k.1, stands.2); parts_are = λ n. refl }
  doing_keeps (got rs (stores o i v cont)) is k = stores_keep rs (value_at (cells_at h.config.memory o) i) o i v cont k
  doing_keeps (got rs (writes g i n cont)) is k = globals_keep rs (entity_in e h g) i n cont k
  doing_keeps (got rs (calls g vs target cont)) is k = calls_keep rs g (entity_in e h g) vs target cont refl k.0 k.1
  doing_keeps (got rs (returns v)) is k = returns_keep modules e h s k rs h.older ss v stands.2
  doing_keeps (got rs (locks g cont)) is k = locks_keep rs g (entity_in e h g) cont refl k.0 k.1
  doing_keeps (got rs (unlocks g cont)) is k = unlocks_keep rs g (entity_in e h g) cont refl k.0 k.1
  doing_keeps (got rs (prints n cont)) is k =
      record { sets = s ∷ ss; stands = (k.0, k.1, stands.2); parts_are = λ n. refl }

  -- the step of the first item
  pub steps_keep : h.config.activations ≡ h.newest ∷ h.older → KeepsAt (newest_step e h)
  steps_keep is =
      let ds = decls_at modules e unit in
      let own = own_at modules e h.newest.function in
      let asked = effect_of (eval_context_of e h) (e.function h.newest.function).ret h.newest.cont in
      doing_keeps (answered (entity_in e h) (slice_get h.words) (cells_at h.config.memory) asked) is
      (answered_so (KeepsEffect ds own s) (entity_in e h) (slice_get h.words) (cells_at h.config.memory) asked
      (effect_keeps ds own (eval_context_of e h) (e.function h.newest.function).ret h.newest.cont stands.0 s stands.1))
