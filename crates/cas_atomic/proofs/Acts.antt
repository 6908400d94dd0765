-- What a thread over atomic locks may do where its next step isn't Bad.
use Rattle.std.proofs.Common.{◌≡◌, ℕ, Bool, true, false, Option, Some, None, slice_get, sym, refl, ap, ◌∙◌, subst, inl, inr, ◌⊎◌}
use Rattle.cas_atomic.specs.Leftover.{Leftover, one_less}
use Rattle.cas_atomic.proofs.Inner.{Atomic, Access, Mine, Constant, Denied, access_of, access, loaded, loads, stores, goes, writes, takes_if, gives_if, locked, unlocked, act_by, act}
use Rattle.cas_atomic.specs.Atomic.{is_lock}
use Rattle.cas_atomic.specs.Cells.{IsLock, IsUnder, under, values}
use Rattle.cas_atomic.specs.Program.{Setup, Event, Load, Store, Decrement, CallLock, CallUnlock, After, Goes}
use Rattle.cas_base.specs.declared.kind.Kind.{Kind}
use Rattle.cas_runs.specs.Edge.{Cell, LockWord, SharedWord, TableWord}
use Rattle.cas_runs.specs.Machine as run
use Rattle.cas_runs.specs.Machine.{Act, Quiet, Emits, Locks, Bad, Stops, IsBad}

pub is_a_lock : {X : Type 0} (p : Setup X) (l : ℕ) → is_lock (slice_get p.edge.cells l) ≡ true → IsLock p.edge.cells l
is_a_lock p l h = by (slice_get p.edge.cells l) refl h
  where
    by : (o : Option Cell) → slice_get p.edge.cells l ≡ o → is_lock o ≡ true → IsLock p.edge.cells l
    by None e t = absurd (cc t)
    by (Some LockWord) e t = record { is = e }
    by (Some (SharedWord kind g initial)) e t = absurd (cc t)
    by (Some (TableWord v)) e t = absurd (cc t)

module _ {X : Type 0} (p : Setup X) (u : ℕ → Leftover) (a : Atomic X) where
  -- the word is in the thread's share
  pub record IsMine (w : ℕ) : Type 0 where
    pub guard : ℕ
    pub guarded : IsUnder p.edge.cells guard w
    pub holds : a.holds guard ≡ true

  pub record IsConstant (w : ℕ) : Type 0 where
    pub value : ℕ
    pub is : slice_get p.edge.cells w ≡ Some (TableWord value)

  sort_access : (w : ℕ) → (IsMine w × (access p a w ≡ Mine)) ⊎ ((c : IsConstant w) × (access p a w ≡ Constant c.value))
      ⊎ (access p a w ≡ Denied)
  sort_access w = by (slice_get p.edge.cells w) refl
    where
      guarded_by : (kind : Kind) (g initial : ℕ) → slice_get p.edge.cells w ≡ Some (SharedWord kind (Some g) initial) →
          (t : Bool) →
          a.holds g ≡ t → (IsMine w × (access p a w ≡ Mine)) ⊎ ((c : IsConstant w) × (access p a w ≡ Constant c.value))
          ⊎ (access p a w ≡ Denied)
      guarded_by kind g initial e true h =
          inl (
            record { guard = g; guarded = record { kind = kind; initial = initial; is = e }; holds = h },
            ap
                (λ (o : Option Cell). access_of o a.holds) e
                ∙ ap (λ (t : Bool). Rattle.cas_atomic.proofs.Inner.mine_if t) h,
          )
      guarded_by kind g initial e false h =
          inr (inr (ap (λ (o : Option Cell). access_of o a.holds) e
          ∙ ap (λ (t : Bool). Rattle.cas_atomic.proofs.Inner.mine_if t) h))

      by : (o : Option Cell) → slice_get p.edge.cells w ≡ o → (IsMine w × (access p a w ≡ Mine))
          ⊎ ((c : IsConstant w) × (access p a w ≡ Constant c.value)) ⊎ (access p a w ≡ Denied)
      by None e = inr (inr (ap (λ (o : Option Cell). access_of o a.holds) e))
      by (Some LockWord) e = inr (inr (ap (λ (o : Option Cell). access_of o a.holds) e))
      by (Some (SharedWord kind None initial)) e = inr (inr (ap (λ (o : Option Cell). access_of o a.holds) e))
      by (Some (TableWord v)) e =
          inr (inl (record { value = v; is = e }, ap (λ (o : Option Cell). access_of o a.holds) e))
      by (Some (SharedWord kind (Some g) initial)) e = guarded_by kind g initial e (a.holds g) refl

  act_of : (e : Event X) → p.next a.at ≡ e → act p u a ≡ act_by p u a e
  act_of e h = ap (act_by p u a) h

  bad_by : (IsBad (act p u a) → ⊥) → act p u a ≡ Bad → ⊥
  bad_by fine e = fine (subst (λ (c : Act (Atomic X)). IsBad c) (sym e) tt)

  pub finds : (w : ℕ) (k : ℕ → After X) → p.next a.at ≡ Load w k → (IsBad (act p u a) → ⊥)
      → (IsMine w × (act p u a ≡ loaded a (k (a.words w)))) ⊎ ((c : IsConstant w) × (act p u a ≡ loaded a (k c.value)))
  finds w k h fine = elim (sort_access w) [
    | inl m ↦ inl (m.0, act_of (Load w k) h ∙ ap (loads a w k) m.1)
    | inr (inl c) ↦ inr (c.0, act_of (Load w k) h ∙ ap (loads a w k) c.1)
    | inr (inr d) ↦ absurd (bad_by fine (act_of (Load w k) h ∙ ap (loads a w k) d))
  ]

  pub may_load : (w : ℕ) (k : ℕ → After X) → p.next a.at ≡ Load w k → (IsBad (act p u a) → ⊥)
      → (IsMine w × ((y : X) → k (a.words w) ≡ Goes y → act p u a ≡ Quiet (goes a y)))
      ⊎ ((c : IsConstant w) × ((y : X) → k c.value ≡ Goes y → act p u a ≡ Quiet (goes a y)))
  may_load w k h fine = elim (sort_access w) [
    | inl m ↦ inl (m.0, λ y q. act_of (Load w k) h ∙ ap (loads a w k) m.1 ∙ ap (loaded a) q)
    | inr (inl c) ↦ inr (c.0, λ y q. act_of (Load w k) h ∙ ap (loads a w k) c.1 ∙ ap (loaded a) q)
    | inr (inr d) ↦ absurd (bad_by fine (act_of (Load w k) h ∙ ap (loads a w k) d))
  ]

  pub may_store : (w v : ℕ) (y : X) → p.next a.at ≡ Store w v y → (IsBad (act p u a) → ⊥) → IsMine w
      × (act p u a ≡ Quiet (writes a w v y))
  may_store w v y h fine = elim (sort_access w) [
    | inl m ↦ (m.0, act_of (Store w v y) h ∙ ap (stores a w v y) m.1)
    | inr (inl c) ↦ absurd (bad_by fine (act_of (Store w v y) h ∙ ap (stores a w v y) c.1))
    | inr (inr d) ↦ absurd (bad_by fine (act_of (Store w v y) h ∙ ap (stores a w v y) d))
  ]

  pub may_decrement : (w : ℕ) (k : ℕ → X) → p.next a.at ≡ Decrement w k → (IsBad (act p u a) → ⊥) → IsMine w
      × (act p u a ≡ Quiet (writes a w (one_less (a.words w)) (k (a.words w))))
  may_decrement w k h fine = elim (sort_access w) [
    | inl m ↦ (m.0, act_of (Decrement w k) h ∙ ap (stores a w (one_less (a.words w)) (k (a.words w))) m.1)
    | inr (inl c) ↦ absurd
        (bad_by fine (act_of (Decrement w k) h ∙ ap (stores a w (one_less (a.words w)) (k (a.words w))) c.1))
    | inr (inr d) ↦ absurd
        (bad_by fine (act_of (Decrement w k) h ∙ ap (stores a w (one_less (a.words w)) (k (a.words w))) d))
  ]

  -- at a call of lock: it is a lock, which the thread takes where it doesn't hold it
  pub may_lock : (l : ℕ) (k : Leftover → X) → p.next a.at ≡ CallLock l k → (IsBad (act p u a) → ⊥) →
      IsLock p.edge.cells l
      × (a.holds l ≡ false → act p u a ≡ Locks l (locked p u a l k))
  may_lock l k h fine = by (is_lock (slice_get p.edge.cells l)) refl
    where
      at_act : act p u a ≡ takes_if p u a l k (is_lock (slice_get p.edge.cells l)) (a.holds l)
      at_act = act_of (CallLock l k) h

      by : (t : Bool) → is_lock (slice_get p.edge.cells l) ≡ t → IsLock p.edge.cells l
          × (a.holds l ≡ false → act p u a ≡ Locks l (locked p u a l k))
      by true e = (
        is_a_lock p l e,
        λ f. at_act ∙ ap (λ (t : Bool). takes_if p u a l k t (a.holds l)) e
            ∙ ap (takes_if p u a l k true) f,
      )
      by false e = absurd (bad_by fine (at_act ∙ ap (λ (t : Bool). takes_if p u a l k t (a.holds l)) e))

  -- at a call of unlock: it is a lock, which the thread holds
  pub may_unlock : (l : ℕ) (k : Leftover → X) → p.next a.at ≡ CallUnlock l k → (IsBad (act p u a) → ⊥)
      → IsLock p.edge.cells l × (a.holds l ≡ true)
      × (act p u a ≡ Emits (run.Unlocks l (values a.words (under p.edge.cells 0 l))) (unlocked u a l k))
  may_unlock l k h fine = by (is_lock (slice_get p.edge.cells l)) refl (a.holds l) refl
    where
      at_act : act p u a ≡ gives_if p u a l k (is_lock (slice_get p.edge.cells l)) (a.holds l)
      at_act = act_of (CallUnlock l k) h

      by : (t : Bool) → is_lock (slice_get p.edge.cells l) ≡ t → (b : Bool) → a.holds l ≡ b → IsLock p.edge.cells l
          × (a.holds l ≡ true)
          × (act p u a ≡ Emits (run.Unlocks l (values a.words (under p.edge.cells 0 l))) (unlocked u a l k))
      by true e true f = (
        is_a_lock p l e,
        f,
        at_act ∙ ap (λ (t : Bool). gives_if p u a l k t (a.holds l)) e
            ∙ ap (gives_if p u a l k true) f,
      )
      by true e false f =
          absurd (bad_by fine (at_act ∙ ap (λ (t : Bool). gives_if p u a l k t (a.holds l)) e
          ∙ ap (gives_if p u a l k true) f))
      by false e b f = absurd (bad_by fine (at_act ∙ ap (λ (t : Bool). gives_if p u a l k t (a.holds l)) e))
