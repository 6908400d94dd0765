-- The steps that change a lock's own state, its word or a word that it guards.
use Rattle.std.proofs.Common.{◌≡◌, ℕ, suc, ◌≤◌, ◌<◌, Bool, true, false, List, [], ◌∷◌, ◌++◌, Option, None, sym, refl, ap, ◌∙◌, subst, inl, inr, ◌⊎◌, arith}
use Rattle.cas_atomic.specs.Leftover.{IsMinus, one_less}
use Rattle.cas_atomic.specs.Buffer.{Store, store, newest, seen, view, put}
use Rattle.cas_atomic.proofs.Places.{scene, LockIs, is_free, is_held, is_released}
use Rattle.cas_atomic.specs.Cells.{IsLock, IsUnder, under, values}
use Rattle.cas_atomic.specs.Table.{IsClear, Releases, now, later}
use Rattle.cas_runs.specs.Edge.{Cell}
use Rattle.cas_runs.specs.Legal.{LockState, Free, IsHeld}
use Rattle.cas_atomic.proofs.Basic.{same_or_not, put_here, put_else, appended_here, appended_else, popped_none, oldest_there, drained_view, view_none}
use Rattle.cas_atomic.proofs.Words.{same_values, lock_not_under}
use Rattle.cas_atomic.proofs.Locks.{popped_releases}

-- two entries of a list of stores that are at different words
store_at : (w v : ℕ) (rest : List Store) (at : ℕ) → newest (store w v ∷ rest) at ≡ None → w ≡ at → ⊥
store_at w v rest at h e = oldest_there w v rest (subst (λ (k : ℕ). newest (store w v ∷ rest) k ≡ None) (sym e) h)

releases_last : (cells : List Cell) (lock : ℕ) (b : List Store) → newest b lock ≡ None →
    Releases cells lock (b ++ store lock 1 ∷ [])
releases_last cells lock [] h = now [] (record { lock_word = refl; guarded = λ w g. refl })
releases_last cells lock (x ∷ xs) h = later x.at x.value (xs ++ store lock 1 ∷ []) (store_at x.at x.value xs lock h)
    (releases_last cells lock xs (popped_none x.at x.value xs lock h))

module _ (cells : List Cell) (lock : ℕ) (n : ℕ) (buffers : ℕ → List Store) (memory : ℕ → ℕ) (r : ℕ) (holds : ℕ → Bool)
    (words : ℕ → ℕ → ℕ) (state : LockState) where
  abbrev Is : Type 0
  Is = LockIs cells lock (scene buffers memory r holds words state)

  -- the thread i holds the lock
  pub record IsHeldBy (i : ℕ) : Type 0 where
    pub minus : IsMinus r (memory lock)
    pub unstored : newest (buffers i) lock ≡ None
    pub others : (j : ℕ) → (j ≡ i → ⊥) → IsClear cells lock (buffers j)
    pub none : (j : ℕ) → (j ≡ i → ⊥) → holds j ≡ false
    pub own : (w : ℕ) → IsUnder cells lock w → words i w ≡ view (buffers i) memory w
    pub held : state ≡ IsHeld

  pub held_by : (i : ℕ) → holds i ≡ true → Is → IsHeldBy i
  held_by i h (is_free one clear none s) = let f = none i in absurd (cc (h, f))
  held_by i h (is_released k minus rel others none s) = let f = none i in absurd (cc (h, f))
  held_by i h (is_held k minus unstored others mine none own s) = elim (same_or_not i k) [
    | inl e ↦ subst IsHeldBy (sym e)
        (record { minus = minus; unstored = unstored; others = others; none = none; own = own; held = s })
    | inr d ↦ let f = none i d in absurd (cc (h, f))
  ]

  -- whose buffer has a store to the lock's word or to one of its guarded words: it holds the lock, or has released it
  pub record IsReleasedBy (i : ℕ) : Type 0 where
    pub minus : IsMinus r (memory lock)
    pub releases : Releases cells lock (buffers i)
    pub others : (j : ℕ) → (j ≡ i → ⊥) → IsClear cells lock (buffers j)
    pub none : (j : ℕ) → holds j ≡ false
    pub free : state ≡ Free (values (view (buffers i) memory) (under cells 0 lock))

  pub owned_by : (i : ℕ) → (IsClear cells lock (buffers i) → ⊥) → Is → ((holds i ≡ true) × IsHeldBy i) ⊎ IsReleasedBy i
  owned_by i dirty (is_free one clear none s) = absurd (dirty (clear i))
  owned_by i dirty (is_held k minus unstored others mine none own s) = elim (same_or_not i k) [
    | inl e ↦ inl (
      subst (λ (m : ℕ). holds m ≡ true) (sym e) mine,
      subst IsHeldBy (sym e)
          (record { minus = minus; unstored = unstored; others = others; none = none; own = own; held = s }),
    )
    | inr d ↦ absurd (dirty (others i d))
  ]
  owned_by i dirty (is_released k minus rel others none s) = elim (same_or_not i k) [
    | inl e ↦ inr
        (subst IsReleasedBy (sym e) (record { minus = minus; releases = rel; others = others; none = none; free = s }))
    | inr d ↦ absurd (dirty (others i d))
  ]

  -- the word is 1 and the lock is free, or it is minus a number of refused threads
  pub record IsFreeNow : Type 0 where
    pub one : memory lock ≡ 1
    pub clear : (j : ℕ) → IsClear cells lock (buffers j)
    pub none : (j : ℕ) → holds j ≡ false
    pub free : state ≡ Free (values memory (under cells 0 lock))

  pub free_or_not : Is → IsFreeNow ⊎ IsMinus r (memory lock)
  free_or_not (is_free one clear none s) = inl (record { one = one; clear = clear; none = none; free = s })
  free_or_not (is_held i minus unstored others mine none own s) = inr minus
  free_or_not (is_released i minus rel others none s) = inr minus

  module _ (buffers' : ℕ → List Store) (memory' : ℕ → ℕ) (r' : ℕ) (holds' : ℕ → Bool) (words' : ℕ → ℕ → ℕ)
      (state' : LockState) (i : ℕ) where
    abbrev Is' : Type 0
    Is' = LockIs cells lock (scene buffers' memory' r' holds' words' state')

    -- the holder stores to a guarded word
    pub stores_own : (w v : ℕ) → IsLock cells lock → IsUnder cells lock w → holds i ≡ true →
        buffers' i ≡ buffers i ++ store w v ∷ [] → ((j : ℕ) → (j ≡ i → ⊥) → buffers' j ≡ buffers j)
        → ((at : ℕ) → memory' at ≡ memory at) → (IsMinus r (memory lock) → IsMinus r' (memory' lock)) →
        ((j : ℕ) → holds' j ≡ holds j) → ((at : ℕ) → words' i at ≡ put w v (words i) at) → state' ≡ state → Is → Is'
    stores_own w v lk g mine here others mem bound hold word st old =
        let h = held_by i mine old in
        is_held i (bound h.minus)
        (ap (λ (b : List Store). newest b lock) here ∙ appended_else (buffers i) w v lock
        (λ e. lock_not_under cells lock lock lk (subst (λ (k : ℕ). IsUnder cells lock k) e g)) ∙ h.unstored)
        (λ j d. subst (λ (b : List Store). IsClear cells lock b) (sym (others j d)) (h.others j d)) (hold i ∙ mine)
        (λ j d. hold j ∙ h.none j d)
        (λ at u. word at ∙ by at u h (same_or_not at w) ∙ sym (ap (λ (b : List Store). view b memory' at) here))
        (st ∙ h.held)
      where
        by : (at : ℕ) → IsUnder cells lock at → IsHeldBy i → (at ≡ w) ⊎ (at ≡ w → ⊥) →
            put w v (words i) at ≡ view (buffers i ++ store w v ∷ []) memory' at
        by at u h (inl e) = put_here w v (words i) at e
            ∙ sym (ap (λ (o : Option ℕ). seen o (memory' at)) (appended_here (buffers i) w v at (sym e)))
        by at u h (inr d) = put_else w v (words i) at d ∙ h.own at u
            ∙ sym (ap (λ (o : Option ℕ). seen o (memory' at)) (appended_else (buffers i) w v at (λ e. d (sym e)))
            ∙ ap (seen (newest (buffers i) at)) (mem at))

    -- the holder decrements a guarded word in memory, with nothing buffered
    pub decrements_own : (w v : ℕ) → IsLock cells lock → IsUnder cells lock w → holds i ≡ true → buffers i ≡ [] →
        ((j : ℕ) → buffers' j ≡ buffers j)
        → ((at : ℕ) → memory' at ≡ put w v memory at) → (IsMinus r (memory lock) → IsMinus r' (memory lock)) →
        ((j : ℕ) → holds' j ≡ holds j) → ((at : ℕ) → words' i at ≡ put w v (words i) at) → state' ≡ state → Is → Is'
    decrements_own w v lk g mine empty same mem bound hold word st old =
        let h = held_by i mine old in
        let apart : lock ≡ w → ⊥ = λ e. lock_not_under cells lock lock lk
        (subst (λ (k : ℕ). IsUnder cells lock k) (sym e) g) in
        is_held i (subst (λ (m : ℕ). IsMinus r' m) (sym (mem lock ∙ put_else w v memory lock apart)) (bound h.minus))
        (ap (λ (b : List Store). newest b lock) (same i) ∙ h.unstored)
        (λ j d. subst (λ (b : List Store). IsClear cells lock b) (sym (same j)) (h.others j d)) (hold i ∙ mine)
        (λ j d. hold j ∙ h.none j d)
        (λ at u. word at ∙ by at u h (same_or_not at w)
        ∙ sym (ap (λ (b : List Store). view b memory' at) (same i ∙ empty) ∙ mem at))
        (st ∙ h.held)
      where
        by : (at : ℕ) → IsUnder cells lock at → IsHeldBy i → (at ≡ w) ⊎ (at ≡ w → ⊥) →
            put w v (words i) at ≡ put w v memory at
        by at u h (inl e) = put_here w v (words i) at e ∙ sym (put_here w v memory at e)
        by at u h (inr d) = put_else w v (words i) at d ∙ h.own at u ∙ ap (λ (b : List Store). view b memory at) empty
            ∙ sym (put_else w v memory at d)

    -- the holder gives the lock back: the store of 1 is behind all others
    pub gives_own : IsLock cells lock → holds i ≡ true → buffers' i ≡ buffers i ++ store lock 1 ∷ [] →
        ((j : ℕ) → (j ≡ i → ⊥) → buffers' j ≡ buffers j)
        → ((at : ℕ) → memory' at ≡ memory at) → (IsMinus r (memory lock) → IsMinus r' (memory' lock)) →
        holds' i ≡ false → ((j : ℕ) → (j ≡ i → ⊥) → holds' j ≡ holds j)
        → state' ≡ Free (values (words i) (under cells 0 lock)) → Is → Is'
    gives_own lk mine here others mem bound now_free hold st old =
        let h = held_by i mine old in
        is_released i (bound h.minus) (subst (λ (b : List Store). Releases cells lock b) (sym here)
        (releases_last cells lock (buffers i) h.unstored))
        (λ j d. subst (λ (b : List Store). IsClear cells lock b) (sym (others j d)) (h.others j d))
        (λ j. elim (same_or_not j i) [
          | inl e ↦ subst (λ (k : ℕ). holds' k ≡ false) (sym e) now_free
          | inr d ↦ hold j d
              ∙ h.none j d
        ])
        (st ∙ ap Free (same_values cells lock (words i) (view (buffers' i) memory')
        (λ at u. h.own at u ∙ sym (ap (λ (b : List Store). view b memory' at) here
        ∙ ap (λ (o : Option ℕ). seen o (memory' at)) (appended_else (buffers i) lock 1 at
        (λ e. lock_not_under cells lock lock lk (subst (λ (k : ℕ). IsUnder cells lock k) (sym e) u)))
        ∙ ap (seen (newest (buffers i) at)) (mem at)))))

    -- the oldest store is to the lock's word: the lock is free then
    pub drains_lock : (v : ℕ) (rest : List Store) → IsLock cells lock → buffers i ≡ store lock v ∷ rest →
        buffers' i ≡ rest → ((j : ℕ) → (j ≡ i → ⊥) → buffers' j ≡ buffers j)
        → ((at : ℕ) → memory' at ≡ put lock v memory at) → ((j : ℕ) → holds' j ≡ holds j) → state' ≡ state → Is → Is'
    drains_lock v rest lk here after others mem hold st old =
        elim (owned_by i
        (λ c. oldest_there lock v rest (sym (ap (λ (b : List Store). newest b lock) here) ∙ c.lock_word)) old) [
          | inl h ↦ absurd (oldest_there lock v rest (sym (ap (λ (b : List Store). newest b lock) here) ∙ h.1.unstored))
          | inr h ↦ by h (buffers i) here h.releases
        ]
      where
        by : IsReleasedBy i → (b : List Store) → b ≡ store lock v ∷ rest → Releases cells lock b → Is'
        by h b e (later w u more d rel) = let same : store w u ≡ store lock v =
            cc e in absurd (d (ap (λ (x : Store). x.at) same))
        by h b e (now more c) =
            let same : store lock 1 ≡ store lock v = cc e in
            let tail : more ≡ rest = cc e in
            let clear : IsClear cells lock rest = subst (λ (l : List Store). IsClear cells lock l) tail c in
            is_free (mem lock ∙ put_here lock v memory lock refl ∙ sym (ap (λ (x : Store). x.value) same))
            (λ j. elim (same_or_not j i) [
              | inl s ↦ subst (λ (k : ℕ). IsClear cells lock (buffers' k)) (sym s)
                  (subst (λ (l : List Store). IsClear cells lock l) (sym after) clear)
              | inr d ↦ subst (λ (l : List Store). IsClear cells lock l) (sym (others j d)) (h.others j d)
            ])
            (λ j. hold j ∙ h.none j)
            (st ∙ h.free ∙ ap Free (same_values cells lock (view (buffers i) memory) memory'
            (λ at u. ap (λ (l : List Store). view l memory at) here ∙ sym (drained_view lock v rest memory at)
            ∙ view_none rest (put lock v memory) at (clear.guarded at u) ∙ sym (mem at))))

    -- the oldest store is to a guarded word
    pub drains_own : (w v : ℕ) (rest : List Store) → IsLock cells lock → IsUnder cells lock w →
        buffers i ≡ store w v ∷ rest → buffers' i ≡ rest → ((j : ℕ) → (j ≡ i → ⊥) → buffers' j ≡ buffers j)
        → ((at : ℕ) → memory' at ≡ put w v memory at) → (IsMinus r (memory lock) → IsMinus r' (memory lock)) →
        ((j : ℕ) → holds' j ≡ holds j) → ((at : ℕ) → words' i at ≡ words i at) → state' ≡ state → Is → Is'
    drains_own w v rest lk g here after others mem bound hold word st old =
        elim (owned_by i (λ c. oldest_there w v rest (sym (ap (λ (b : List Store). newest b w) here) ∙ c.guarded w g))
        old) [
          | inl h ↦ is_held i (minus_after h.1.minus)
              (ap (λ (b : List Store). newest b lock) after
              ∙ popped_none w v rest lock (sym (ap (λ (b : List Store). newest b lock) here) ∙ h.1.unstored))
              (λ j d. subst (λ (b : List Store). IsClear cells lock b) (sym (others j d)) (h.1.others j d))
              (hold i ∙ h.0) (λ j d. hold j ∙ h.1.none j d)
              (λ at u. word at ∙ h.1.own at u ∙ views at) (st ∙ h.1.held)
          | inr h ↦ is_released i (minus_after h.minus)
              (subst (λ (l : List Store). Releases cells lock l) (sym after)
              (popped_releases cells lock w v rest (buffers i) here (λ e. apart (sym e)) h.releases))
              (λ j d. subst (λ (b : List Store). IsClear cells lock b) (sym (others j d)) (h.others j d))
              (λ j. hold j ∙ h.none j)
              (st ∙ h.free
              ∙ ap Free (same_values cells lock (view (buffers i) memory) (view (buffers' i) memory')
              (λ at u. views at)))
        ]
      where
        apart : lock ≡ w → ⊥
        apart e = lock_not_under cells lock lock lk (subst (λ (k : ℕ). IsUnder cells lock k) (sym e) g)

        minus_after : IsMinus r (memory lock) → IsMinus r' (memory' lock)
        minus_after m = subst (λ (k : ℕ). IsMinus r' k) (sym (mem lock ∙ put_else w v memory lock apart)) (bound m)

        views : (at : ℕ) → view (buffers i) memory at ≡ view (buffers' i) memory' at
        views at = ap (λ (l : List Store). view l memory at) here ∙ sym (drained_view w v rest memory at)
            ∙ sym (ap (λ (l : List Store). view l memory' at) after ∙ ap (seen (newest rest at)) (mem at))

    -- the locked decrement that gives 0
    pub takes_own : IsFreeNow → IsLock cells lock → ((j : ℕ) → buffers' j ≡ buffers j) →
        ((at : ℕ) → memory' at ≡ put lock 0 memory at) → holds' i ≡ true → ((j : ℕ) → (j ≡ i → ⊥) → holds' j ≡ holds j)
        → ((at : ℕ) → IsUnder cells lock at → words' i at ≡ memory at) → state' ≡ IsHeld → Is'
    takes_own f lk same mem mine hold word st =
        is_held i (record { minus = 0; at_most = omega arith; is = mem lock ∙ put_here lock 0 memory lock refl })
        (ap (λ (b : List Store). newest b lock) (same i) ∙ (f.clear i).lock_word)
        (λ j d. subst (λ (b : List Store). IsClear cells lock b) (sym (same j)) (f.clear j)) mine
        (λ j d. hold j d ∙ f.none j)
        (λ at u. word at u ∙ sym (ap (λ (b : List Store). view b memory' at) (same i)
        ∙ view_none (buffers i) memory' at ((f.clear i).guarded at u)
        ∙ mem at ∙ put_else lock 0 memory at (λ e. lock_not_under cells lock lock lk
        (subst (λ (k : ℕ). IsUnder cells lock k) e u))))
        st

    -- the locked decrement that is refused
    pub refuses_own : (v : ℕ) → (memory lock ≡ 1 → ⊥) → IsLock cells lock → ((j : ℕ) → buffers' j ≡ buffers j) →
        ((at : ℕ) → memory' at ≡ put lock v memory at) → (IsMinus r (memory lock) → IsMinus r' v)
        → ((j : ℕ) → holds' j ≡ holds j) → ((j at : ℕ) → words' j at ≡ words j at) → state' ≡ state → Is → Is'
    refuses_own v busy lk same mem bound hold word st (is_free one clear none s) = absurd (busy one)
    refuses_own v busy lk same mem bound hold word st (is_held k minus unstored others mine none own s) =
        is_held k (subst (λ (m : ℕ). IsMinus r' m) (sym (mem lock ∙ put_here lock v memory lock refl)) (bound minus))
        (ap (λ (b : List Store). newest b lock) (same k) ∙ unstored)
        (λ j d. subst (λ (b : List Store). IsClear cells lock b) (sym (same j)) (others j d)) (hold k ∙ mine)
        (λ j d. hold j ∙ none j d)
        (λ at u. word k at ∙ own at u ∙ sym (ap (λ (b : List Store). view b memory' at) (same k)
        ∙ ap (seen (newest (buffers k) at)) (mem at
        ∙ put_else lock v memory at (λ e. lock_not_under cells lock lock lk
        (subst (λ (m : ℕ). IsUnder cells lock m) e u)))))
        (st ∙ s)
    refuses_own v busy lk same mem bound hold word st (is_released k minus rel others none s) =
        is_released k (subst (λ (m : ℕ). IsMinus r' m) (sym (mem lock ∙ put_here lock v memory lock refl))
        (bound minus)) (subst (λ (b : List Store). Releases cells lock b) (sym (same k)) rel)
        (λ j d. subst (λ (b : List Store). IsClear cells lock b) (sym (same j)) (others j d)) (λ j. hold j ∙ none j)
        (st ∙ s ∙ ap Free (same_values cells lock (view (buffers k) memory) (view (buffers' k) memory')
        (λ at u. sym (ap (λ (b : List Store). view b memory' at) (same k)
        ∙ ap (seen (newest (buffers k) at)) (mem at
        ∙ put_else lock v memory at (λ e. lock_not_under cells lock lock lk
        (subst (λ (m : ℕ). IsUnder cells lock m) e u)))))))

-- a word that is minus a number of refused threads isn't 1, and the next locked decrement is refused
pub minus_not_one : (r w : ℕ) → r < 2147483648 → IsMinus r w → w ≡ 1 → ⊥
minus_not_one r w few m e = let a = m.at_most in let b = m.is in omega arith

pub minus_more : (r w : ℕ) → r < 2147483648 → IsMinus r w → IsMinus (suc r) (one_less w)
minus_more r w few m = let a = m.at_most in let b = m.is in
    record { minus = suc m.minus; at_most = omega arith; is = omega arith }

pub minus_signed : (r w : ℕ) → r < 2147483648 → IsMinus r w → 2147483648 ≤ one_less w
minus_signed r w few m = let a = m.at_most in let b = m.is in omega arith

pub minus_low : (r w : ℕ) → r ≤ 2147483648 → IsMinus r w → (w ≡ 0) ⊎ (2147483648 ≤ w)
minus_low r w few m = let a = m.at_most in let b = m.is in grind arith

pub minus_up : (r r' w : ℕ) → r ≤ r' → IsMinus r w → IsMinus r' w
minus_up r r' w up m = let a = m.at_most in record { minus = m.minus; at_most = omega arith; is = m.is }
