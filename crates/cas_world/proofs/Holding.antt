-- In each world that is reached, each thread holds the locks that its activations' parts have, each in one part, and
-- no others.
use Rattle.std.proofs.Common.{arith, ◌≡◌, ◌≢◌, ℕ, zero, suc, ◌+◌, ◌<◌, ◌≤◌, List, [], ◌∷◌, ◌++◌, replicate, length, Option, Some, None, refl, sym, ap, subst, ◌∙◌, ◌⊎◌, inl, inr, ⊎_elim}
use Rattle.std.specs.Prelude.{◌==◌, slice_get, slice_set, Contains}
use Rattle.cas_base.specs.declared.act.Act.{Act}
use Rattle.cas_base.specs.declared.act.Act.TheVariants as act
use Rattle.cas_own.specs.Locks.{Locks}
use Rattle.cas_own.proofs.Sets.{same_or_not}
use Rattle.cas_step.specs.Asks.{word}
use Rattle.cas_step.specs.Env.{FunctionAt, shared, Env}
use Rattle.cas_step.specs.Well_formed.{IsAt}
use Rattle.cas_step.specs.Laws.{FootprintsAreNamed}
use Rattle.cas_step.specs.Step.{Activation, Config, Step, StepContext, newest_step, step_of, step, start}
use Rattle.cas_typed.specs.Resolved.{TypedFunTree, TypedModuleTree}
use Rattle.cas_world.specs.World.{World, IsEnabled, holders_after, world_after, IsNext, MayStep, Interleaves, at_first, and_step, started, first_world, Reaches}
use Rattle.cas_world.proofs.Counts.{count_has}
use Rattle.cas_world.proofs.Named.{items_open}
use Rattle.cas_world.proofs.Standing.{Joins, PartsAfter, Keeps, steps_keep}
use Rattle.cas_world.proofs.Lock_flow.{Lands}
use Rattle.cas_step.specs.Operators.{truth}
use Rattle.cas_world.specs.Owned.{Owns, IsOwned, decls_at, own_at, held, StackFlows, parts, holding}
use Rattle.cas_world.specs.Lock_flow.{nowhere}

holding_self : (i : ℕ) → holding (Some (Some i)) i ≡ 1
holding_self i = same_or_not i i (λ t e. ap truth t) (λ t e. absurd (e refl))

holding_other : (i j : ℕ) → i ≢ j → holding (Some (Some i)) j ≡ 0
holding_other i j n = same_or_not i j (λ t e. absurd (n e)) (λ t e. ap truth t)

pub owner_is : (o : Option (Option ℕ)) (i : ℕ) → 0 < holding o i → o ≡ Some (Some i)
owner_is None i h = absurd (omega (arith, h))
owner_is (Some None) i h = absurd (omega (arith, h))
owner_is (Some (Some j)) i h =
    same_or_not j i (λ t e. ap (λ k. Some (Some k)) e)
    (λ t e. let none : truth (j == i) ≡ 0 = ap truth t in absurd (omega (arith, h, none)))

-- lists with an element set

pub set_here : {X : Type 0} (xs : List X) (i : ℕ) (x y : X) → slice_get xs i ≡ Some x →
    slice_get (slice_set xs i y) i ≡ Some y
set_here [] i x y h = absurd (cc h)
set_here (z ∷ xs) zero x y h = refl
set_here (z ∷ xs) (suc i) x y h = set_here xs i x y h

pub set_elsewhere : {X : Type 0} (xs : List X) (i j : ℕ) (y : X) → j ≢ i →
    slice_get (slice_set xs i y) j ≡ slice_get xs j
set_elsewhere [] i j y n = refl
set_elsewhere (z ∷ xs) zero zero y n = absurd (n refl)
set_elsewhere (z ∷ xs) zero (suc j) y n = refl
set_elsewhere (z ∷ xs) (suc i) zero y n = refl
set_elsewhere (z ∷ xs) (suc i) (suc j) y n = set_elsewhere xs i j y (λ e. n (ap suc e))

-- what is at an index is what was put there, or what stood at it
set_gives : {X : Type 0} (xs : List X) (i j : ℕ) (y x : X) → slice_get (slice_set xs i y) j ≡ Some x → (y ≡ x)
    ⊎ (slice_get xs j ≡ Some x)
set_gives [] i j y x h = inr h
set_gives (z ∷ xs) zero zero y x h = inl (cc h)
set_gives (z ∷ xs) zero (suc j) y x h = inr h
set_gives (z ∷ xs) (suc i) zero y x h = inr h
set_gives (z ∷ xs) (suc i) (suc j) y x h = set_gives xs i j y x h

-- who holds a lock after an act is the thread that steps, or held it before
holder_before : (a : Act) (hs : List (Option ℕ)) (i l j : ℕ) → slice_get (holders_after a i hs) l ≡ Some (Some j) →
    (i ≡ j) ⊎ (slice_get hs l ≡ Some (Some j))
holder_before (act.Lock k) hs i l j h = ⊎_elim (λ e. inl (cc e)) (λ before. inr before)
    (set_gives hs k l (Some i) (Some j) h)
holder_before (act.Unlock k) hs i l j h = ⊎_elim (λ e. absurd (cc e)) (λ before. inr before)
    (set_gives hs k l None (Some j) h)
holder_before act.Quiet hs i l j h = inr h
holder_before (act.Out n) hs i l j h = inr h
holder_before act.Done hs i l j h = inr h
holder_before (act.Bad why) hs i l j h = inr h

-- a thread that is there is there after a step
there_after : (threads : List Config) (i j : ℕ) (old next c : Config) → slice_get threads i ≡ Some old →
    slice_get threads j ≡ Some c →
    (d : Config) × (slice_get (slice_set threads i next) j ≡ Some d)
there_after threads i j old next c stands there =
    same_or_not j i
    (λ t e. let P : ℕ → Type 0 = λ k. slice_get (slice_set threads i next) k ≡ Some next in
    (next, subst P (sym e) (set_here threads i old next stands)))
    (λ t n. (c, set_elsewhere threads i j next n ∙ there))

-- the parts of the thread that steps
own_parts : (a : Act) (hs : List (Option ℕ)) (i : ℕ) (old new : ℕ → ℕ) → IsEnabled a hs → PartsAfter a old new →
    ((l : ℕ) → old l ≡ holding (slice_get hs l) i) →
    (l : ℕ) → new l ≡ holding (slice_get (holders_after a i hs) l) i
own_parts (act.Lock k) hs i old new free p h l =
    same_or_not l k
    (λ t e.
    let none : old k ≡ 0 = h k ∙ ap (λ o. holding o i) free in
    let mine : holding (slice_get (slice_set hs k (Some i)) k) i ≡ 1 =
    ap (λ o. holding o i) (set_here hs k None (Some i) free) ∙ holding_self i in
    let now : new k ≡ 1 = omega (arith, p.0, none) in
    subst (λ l. new l ≡ holding (slice_get (slice_set hs k (Some i)) l) i) (sym e) (now ∙ sym mine))
    (λ t n. p.1 l n ∙ h l ∙ ap (λ o. holding o i) (sym (set_elsewhere hs k l (Some i) n)))
own_parts (act.Unlock k) hs i old new free p h l =
    same_or_not l k
    (λ t e.
    let mine = owner_is (slice_get hs k) i (omega (arith, p.0, h k)) in
    let once : holding (slice_get hs k) i ≡ 1 = ap (λ o. holding o i) mine ∙ holding_self i in
    let none : holding (slice_get (slice_set hs k None) k) i ≡ 0 =
    ap (λ o. holding o i) (set_here hs k (Some i) None mine) in
    let now : new k ≡ 0 = omega (arith, p.0, h k, once) in
    subst (λ l. new l ≡ holding (slice_get (slice_set hs k None) l) i) (sym e) (now ∙ sym none))
    (λ t n. p.1 l n ∙ h l ∙ ap (λ o. holding o i) (sym (set_elsewhere hs k l None n)))
own_parts act.Quiet hs i old new free p h l = p l ∙ h l
own_parts (act.Out n) hs i old new free p h l = p l ∙ h l
own_parts act.Done hs i old new free p h l = p l ∙ h l
own_parts (act.Bad why) hs i old new free p h l = absurd free

-- those of any other thread
other_parts : (a : Act) (hs : List (Option ℕ)) (i j : ℕ) (old new : ℕ → ℕ) → i ≢ j → IsEnabled a hs →
    PartsAfter a old new → ((l : ℕ) → old l ≡ holding (slice_get hs l) i) →
    (l : ℕ) → holding (slice_get hs l) j ≡ holding (slice_get (holders_after a i hs) l) j
other_parts (act.Lock k) hs i j old new d free p h l =
    same_or_not l k
    (λ t e.
    let before : holding (slice_get hs k) j ≡ 0 = ap (λ o. holding o j) free in
    let now : holding (slice_get (slice_set hs k (Some i)) k) j ≡ 0 =
    ap (λ o. holding o j) (set_here hs k None (Some i) free) ∙ holding_other i j d in
    subst (λ l. holding (slice_get hs l) j ≡ holding (slice_get (slice_set hs k (Some i)) l) j) (sym e)
    (before ∙ sym now))
    (λ t n. ap (λ o. holding o j) (sym (set_elsewhere hs k l (Some i) n)))
other_parts (act.Unlock k) hs i j old new d free p h l =
    same_or_not l k
    (λ t e.
    let mine = owner_is (slice_get hs k) i (omega (arith, p.0, h k)) in
    let before : holding (slice_get hs k) j ≡ 0 = ap (λ o. holding o j) mine ∙ holding_other i j d in
    let now : holding (slice_get (slice_set hs k None) k) j ≡ 0 =
    ap (λ o. holding o j) (set_here hs k (Some i) None mine) in
    subst (λ l. holding (slice_get hs l) j ≡ holding (slice_get (slice_set hs k None) l) j) (sym e) (before ∙ sym now))
    (λ t n. ap (λ o. holding o j) (sym (set_elsewhere hs k l None n)))
other_parts act.Quiet hs i j old new d free p h l = refl
other_parts (act.Out n) hs i j old new d free p h l = refl
other_parts act.Done hs i j old new d free p h l = refl
other_parts (act.Bad why) hs i j old new d free p h l = refl

pub lands_is : {A : Type 0} (P : A → Type 0) (x : Option A) (a : A) → Lands P x → x ≡ Some a → P a
lands_is P None a h is = absurd (cc is)
lands_is P (Some b) a h is = let same : b ≡ a = cc is in subst P same h

module _ (modules : List TypedModuleTree) (e : Env) (joins : Joins modules e) (named : FootprintsAreNamed) where
  -- the word belongs to a shared global whose guard is this
  pub record IsGuarded (n guard : ℕ) : Type 0 where
    pub unit : ℕ
    pub item : ℕ
    pub first : ℕ
    pub count : ℕ
    pub entity : e.entity unit item ≡ Some (shared first count (Some guard))
    pub from : first ≤ n
    pub below : n < first + count

  -- a step, with what the thread held before and the sets behind it
  pub record Kept (hs : List (Option ℕ)) (i : ℕ) (st : Step) : Type 0 where
    pub old : ℕ → ℕ
    pub sets : List Locks
    pub held_before : (l : ℕ) → old l ≡ holding (slice_get hs l) i
    pub stands : StackFlows modules e st.next.activations sets
    pub parts_are : PartsAfter st.act old (parts modules e st.next.activations sets)
    pub touches : (n : ℕ) → Contains (st.reads ++ st.writes) n → (l : ℕ) × IsGuarded n l × (0 < old l)

  kept_at : (ws : List ℕ) (c : Config) (hs : List (Option ℕ)) (i : ℕ) (st : Step) → step e ws c ≡ Some st →
      (activations : List Activation) → c.activations ≡ activations →
      (sets : List Locks) → StackFlows modules e activations sets →
      ((l : ℕ) → parts modules e activations sets l ≡ holding (slice_get hs l) i) → Kept hs i st
  kept_at ws c hs i st is [] none sets stands p = let no : None ≡ Some st = sym (ap (step_of e ws c) none)
      ∙ is in absurd (cc no)
  kept_at ws c hs i st is (a ∷ older) there [] stands p = absurd stands
  kept_at ws c hs i st is (a ∷ older) there (s ∷ ss) stands p =
      let h : StepContext = record { config = c; newest = a; older = older; words = ws } in
      let keeps = lands_is (Keeps modules e a older s ss) (newest_step e h) st
      (steps_keep modules e joins h s ss stands there) (sym (ap (step_of e ws c) there) ∙ is) in
      record {
        old = parts modules e (a ∷ older) (s ∷ ss);
        sets = keeps.sets;
        held_before = p;
        stands = keeps.stands;
        parts_are = keeps.parts_are;
        touches = λ n touched.
            let (g, first, len, guard, named_there, entity, from, below) = named e ws c a older st there is n touched in
            let (l, w, guard_there, lock_there, guard_is) = joins.guards a.function.unit g first len guard entity in
            let has_lock = items_open (decls_at modules e a.function.unit) (own_at modules e a.function)
            a.cont stands.0 s stands.1 g l named_there guard_there in
            let some = count_has (e.entity a.function.unit) s l w has_lock lock_there in (
              w,
              record {
                unit = a.function.unit;
                item = g;
                first = first;
                count = len;
                entity = entity ∙ ap (λ x. Some (shared first len x)) guard_is;
                from = from;
                below = below;
              },
              omega (arith, some),
            );
      }

  pub kept_by : (ws : List ℕ) (c : Config) (hs : List (Option ℕ)) (i : ℕ) (st : Step) → step e ws c ≡ Some st →
      Owns modules e hs i c → Kept hs i st
  kept_by ws c hs i st is h = kept_at ws c hs i st is c.activations refl h.sets h.stands h.parts_are

  pub held_step : (w : World) (i : ℕ) (s : Step) → IsOwned modules e w → IsNext e w i s → Kept w.holders i s
  held_step w i s h next = kept_by w.words next.config w.holders i s next.steps (h.each i next.config next.stands)

  pub held_after : (w : World) (i : ℕ) (s : Step) → IsOwned modules e w → MayStep e w i s →
      IsOwned modules e (world_after w i s)
  held_after w i s h may = record { each = each; holders_are = holders_are }
    where
      kept : Kept w.holders i s
      kept = held_step w i s h may.next

      mine : Owns modules e (holders_after s.act i w.holders) i s.next
      mine = record {
        sets = kept.sets;
        stands = kept.stands;
        parts_are = own_parts s.act w.holders i kept.old _ may.enabled kept.parts_are kept.held_before;
      }

      each : (j : ℕ) (d : Config) → slice_get (slice_set w.threads i s.next) j ≡ Some d →
          Owns modules e (holders_after s.act i w.holders) j d
      each j d is =
          same_or_not j i
          (λ t e'.
          let here = subst (λ j. slice_get (slice_set w.threads i s.next) j ≡ Some d) e' is in
          let same_next : Some s.next ≡ Some d = sym (set_here w.threads i may.next.config s.next may.next.stands)
          ∙ here in
          subst (λ j. Owns modules e (holders_after s.act i w.holders) j d) (sym e')
          (lands_is (Owns modules e (holders_after s.act i w.holders) i) (Some s.next) d mine same_next))
          (λ t n.
          let before = h.each j d (sym (set_elsewhere w.threads i j s.next n) ∙ is) in
          record {
            sets = before.sets;
            stands = before.stands;
            parts_are = λ l. before.parts_are l ∙ other_parts s.act w.holders i j kept.old _ (λ e'. n (sym e'))
                may.enabled kept.parts_are kept.held_before l;
          })

      holders_are : (l j : ℕ) → slice_get (holders_after s.act i w.holders) l ≡ Some (Some j) → (c : Config)
          × (slice_get (slice_set w.threads i s.next) j ≡ Some c)
      holders_are l j is =
          ⊎_elim
          (λ same. there_after w.threads i j may.next.config s.next may.next.config may.next.stands
          (subst (λ k. slice_get w.threads k ≡ Some may.next.config) same may.next.stands))
          (λ before. let there = h.holders_are l j before in
          there_after w.threads i j may.next.config s.next there.0 may.next.stands there.1)
          (holder_before s.act w.holders i l j is)

  held_along : (first w : World) (threads : List ℕ) → IsOwned modules e first → Interleaves e first threads w →
      IsOwned modules e w
  held_along first w threads h at_first = h
  held_along first w threads h (and_step {w = v} before i s may) = held_after v i s (held_along first v _ h before) may

  -- the first world

  started_at : (k : ℕ) (fs : List FunctionAt) (i : ℕ) (c : Config) → slice_get (started e k fs) i ≡ Some c →
      (f : FunctionAt) × (n : ℕ) × (slice_get fs i ≡ Some f) × (start e f (word n ∷ []) ≡ c)
  started_at k [] i c is = absurd (cc is)
  started_at k (f ∷ fs) zero c is = let same : start e f (word k ∷ []) ≡ c = cc is in (f, k, refl, same)
  started_at k (f ∷ fs) (suc i) c is = started_at (k + 1) fs i c is

  free_at : (n l i : ℕ) → holding (slice_get (replicate n None) l) i ≡ 0
  free_at zero l i = refl
  free_at (suc n) zero i = refl
  free_at (suc n) (suc l) i = free_at n l i

  no_holder : (n l j : ℕ) → slice_get (replicate n None) l ≡ Some (Some j) → ⊥
  no_holder zero l j h = cc h
  no_holder (suc n) zero j h = cc h
  no_holder (suc n) (suc l) j h = no_holder n l j h

  -- an entry, whose caller holds no lock
  abbrev pub HoldsNone : FunctionAt → Type 0
  HoldsNone f = (unit : TypedModuleTree) × (it : TypedFunTree) × IsAt modules f unit it
      × ((w : ℕ) → held modules e f w ≡ 0)

  held_first : (fs : List FunctionAt) (initial : List ℕ) →
      ((i : ℕ) (f : FunctionAt) → slice_get fs i ≡ Some f → HoldsNone f) → IsOwned modules e (first_world e fs initial)
  held_first fs initial none = record { each = each; holders_are = λ l j h. absurd (no_holder (length initial) l j h) }
    where
      each : (i : ℕ) (c : Config) → slice_get (started e 0 fs) i ≡ Some c →
          Owns modules e (replicate (length initial) None) i c
      each i c is =
          let (f, n, there, same) = started_at 0 fs i c is in
          let (unit, it, at_place, zero_held) = none i f there in
          subst (Owns modules e (replicate (length initial) None) i) same (record {
            sets = own_at modules e f ∷ [];
            stands = (nowhere, joins.bodies f unit it at_place, zero_held);
            parts_are = λ l. let free = free_at (length initial) l i in omega (arith, zero_held l, free);
          })

  pub held_reached : (fs : List FunctionAt) (initial : List ℕ) (w : World) →
      ((i : ℕ) (f : FunctionAt) → slice_get fs i ≡ Some f → HoldsNone f) →
      Reaches e (first_world e fs initial) w → IsOwned modules e w
  held_reached fs initial w none reached = held_along (first_world e fs initial) w reached.0
      (held_first fs initial none) reached.1
