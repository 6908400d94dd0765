-- How many of the told turns each thread has: the steps of its run.
use Rattle.std.proofs.Common.{◌≡◌, ℕ, zero, suc, ◌+◌, ◌<◌, ◌≤◌, List, [], ◌∷◌, length, inl, inr, refl, ap, ◌∙◌, subst, arith}
use Rattle.cas_runs.specs.Label.{RunLabel}
use Rattle.cas_runs.specs.Edge.{Edge}
use Rattle.cas_runs.specs.Machine.{Machine}
use Rattle.cas_runs.specs.Bounds.{total}
use Rattle.cas_runs.specs.Legal.{ThreadLabel, projection}
use Rattle.cas_runs.specs.Known.{set}
use Rattle.cas_together.specs.Turns.{Paced, at_start, goes_on, goes_by, after_turns, newest_of, older_of, up_to, since_then, turns_of}
use Rattle.cas_atomic.proofs.Basic.{same_or_not, if_same, if_not}
use Rattle.cas_together.proofs.Cutting.{own_label, other_label}
use Rattle.cas_together.proofs.Families.{put_here, put_else}

-- a block for each label
pub blocks_of : {S : Type 0} (edge : Edge) (m : Machine S) {ls : List RunLabel} {cs : List ℕ} {k : ℕ} {y : S} →
    Paced edge m ls cs k y → length cs ≡ length ls
blocks_of edge m at_start = refl
blocks_of edge m (goes_on y r e) = blocks_of edge m r
blocks_of edge m (goes_by l y r e) = let h = blocks_of edge m r in omega (arith, h)

own_turns : (k i : ℕ) (is : List ℕ) → turns_of i (after_turns k i is) ≡ turns_of i is + k
own_turns zero i is = omega arith
own_turns (suc k) i is = let h = own_turns k i is in
    let e = if_same i i (turns_of i (after_turns k i is) + 1) (turns_of i (after_turns k i is)) refl in
    omega (arith, h, e)

other_turns : (k j i : ℕ) (is : List ℕ) → (j ≡ i → ⊥) → turns_of i (after_turns k j is) ≡ turns_of i is
other_turns zero j i is d = refl
other_turns (suc k) j i is d = if_not j i (turns_of i (after_turns k j is) + 1) (turns_of i (after_turns k j is)) d
    ∙ other_turns k j i is d

parted : (cs : List ℕ) → 1 ≤ length cs →
    total cs + length cs ≡ total (older_of cs) + length (older_of cs) + newest_of cs + 1
parted [] h = absurd (omega (arith, h))
parted (c ∷ cs) h = omega arith

shorter : (cs : List ℕ) (k : ℕ) → length cs ≡ suc k → length (older_of cs) ≡ k
shorter [] k e = absurd (omega (arith, e))
shorter (c ∷ cs) k e = omega (arith, e)

pub turns_up_to : (i : ℕ) (ls : List ThreadLabel) (cs : ℕ → List ℕ) → length (cs i) ≡ length (projection i ls) →
    turns_of i (up_to ls cs) ≡ total (cs i) + length (cs i)
turns_up_to i [] cs e = empty (cs i) e
  where
    empty : (c : List ℕ) → length c ≡ 0 → 0 ≡ total c + length c
    empty [] e = refl
    empty (x ∷ xs) e = absurd (omega (arith, e))
turns_up_to i (l ∷ ls) cs e = elim (same_or_not l.thread i) [
  | inl q ↦
      let j = l.thread in
      let ds = set cs j (older_of (cs j)) in
      let many : length (cs i) ≡ suc (length (projection i ls)) = e ∙ ap length (own_label i l ls q) in
      let here : ds i ≡ older_of (cs i) = subst (λ v. ds v ≡ older_of (cs v)) q (put_here j (older_of (cs j)) cs) in
      let h = turns_up_to i ls ds (ap length here ∙ shorter (cs i) (length (projection i ls)) many) in
      let g : turns_of i (up_to ls ds) ≡ total (older_of (cs i)) + length (older_of (cs i)) =
      h ∙ ap (λ v. total v + length v) here in
      let p = parted (cs i) (omega (arith, many)) in
      let o : turns_of i (after_turns (newest_of (cs j)) j (up_to ls ds)) ≡ turns_of i (up_to ls ds) + newest_of
      (cs i) = subst (λ v. turns_of v (after_turns (newest_of (cs j)) j (up_to ls ds)) ≡ turns_of v
      (up_to ls ds) + newest_of (cs v)) q (own_turns (newest_of (cs j)) j (up_to ls ds)) in
      let f = if_same j i (turns_of i (after_turns (newest_of (cs j)) j (up_to ls ds)) + 1)
      (turns_of i (after_turns (newest_of (cs j)) j (up_to ls ds))) q in
      f ∙ omega (arith, g, p, o)
  | inr d ↦
      let j = l.thread in
      let ds = set cs j (older_of (cs j)) in
      let here : ds i ≡ cs i = put_else j (older_of (cs j)) cs i d in
      let h = turns_up_to i ls ds (ap length here ∙ e ∙ ap length (other_label i l ls d)) in
      if_not j i (turns_of i (after_turns (newest_of (cs j)) j (up_to ls ds)) + 1)
      (turns_of i (after_turns (newest_of (cs j)) j (up_to ls ds))) d ∙ other_turns (newest_of (cs j)) j i
      (up_to ls ds) d ∙ h ∙ ap (λ v. total v + length v) here
]

none_since : (m i : ℕ) (ks : ℕ → ℕ) (is : List ℕ) → m ≤ i → turns_of i (since_then m ks is) ≡ turns_of i is
none_since zero i ks is h = refl
none_since (suc m) i ks is h = other_turns (ks m) m i (since_then m ks is) (λ e. absurd (omega (arith, e, h)))
    ∙ none_since m i ks is (omega (arith, h))

turns_since : (m i : ℕ) (ks : ℕ → ℕ) (is : List ℕ) → i < m → turns_of i (since_then m ks is) ≡ turns_of i is + ks i
turns_since zero i ks is h = absurd (omega (arith, h))
turns_since (suc m) i ks is h = elim (same_or_not m i) [
  | inl q ↦ subst (λ v. turns_of v (after_turns (ks m) m (since_then m ks is)) ≡ turns_of v is + ks v) q
      (own_turns (ks m) m (since_then m ks is) ∙ ap (λ v. v + ks m) (none_since m m ks is (omega arith)))
  | inr d ↦ other_turns (ks m) m i (since_then m ks is) d ∙ turns_since m i ks is (fewer m i d h)
]
  where
    fewer : (m i : ℕ) → (m ≡ i → ⊥) → i < suc m → i < m
    fewer m i d h = grind (arith, d, h)

-- one for each quiet step, and one for each label
pub turns_told : {S : Type 0} (edge : Edge) (m : Machine S) (n i : ℕ) → i < n →
    (ls : List ThreadLabel) (cs : ℕ → List ℕ) (ks : ℕ → ℕ) (y : S) → Paced edge m (projection i ls) (cs i) (ks i) y →
    turns_of i (since_then n ks (up_to ls cs)) ≡ total (cs i) + length (cs i) + ks i
turns_told edge m n i there ls cs ks y r = turns_since n i ks (up_to ls cs) there
    ∙ ap (λ v. v + ks i) (turns_up_to i ls cs (blocks_of edge m r))
