-- A call's return word on the stack, and the words below esp.
use Rattle.std.proofs.Common.{◌≡◌, ℕ, zero, suc, ◌+◌, ◌-◌, ◌*◌, ◌/◌, ◌%◌, ◌<◌, ◌≤◌, nat_eq, nat_lt, nat_le, Bool, true, false, ◌&&◌, cond, List, [], ◌∷◌, length, refl, ap, inl, inr, ◌⊎◌, arith, ltb-true, ltb-false, leb-true}
use Rattle.std.specs.Prelude.{slice_index, slice_set}
use Rattle.cas_asm.specs.declared.ask.Spot.TheVariants.{Own, Shared, Nowhere}
use Rattle.cas_base.specs.Word.{word_add}
use Rattle.cas_asm.specs.Ask.{spot_at}
use Rattle.cas_refine.specs.Cpu.{with_below}

below_none : (xs : List ℕ) (b : ℕ → ℕ) → with_below xs 0 b ≡ xs
below_none [] b = refl
below_none (x ∷ xs) b = refl

-- a stack with one word set is the old one with its first words given anew
pub below_set : (xs : List ℕ) (k v : ℕ) → k < length xs →
    with_below xs (suc k) (λ j. slice_index (slice_set xs k v) j) ≡ slice_set xs k v
below_set [] k v less = absurd (omega arith)
below_set (x ∷ xs) zero v less = ap (λ (l : List ℕ). v ∷ l) (below_none xs (λ j. slice_index xs j))
below_set (x ∷ xs) (suc k) v less = ap (λ (l : List ℕ). x ∷ l) (below_set xs k v (omega arith))

pub lt_or_not : (a b : ℕ) → ((nat_lt a b ≡ true) × (a < b)) ⊎ ((nat_lt a b ≡ false) × (b ≤ a))
lt_or_not a b = by (nat_lt a b) refl
  where
    by : (t : Bool) → nat_lt a b ≡ t → ((nat_lt a b ≡ true) × (a < b)) ⊎ ((nat_lt a b ≡ false) × (b ≤ a))
    by true e = inl (e, ltb-true a b e)
    by false e = inr (e, ltb-false a b e)

own_by : (slot k low : ℕ) (t l h r : Bool) → cond t (cond (l && h) (Own slot) (cond r (Shared low) Nowhere))
    Nowhere ≡ Own k → (l ≡ true) × (h ≡ true) × (Own slot ≡ Own k)
own_by slot k low true true true r e = (refl, refl, e)
own_by slot k low true true false true e = absurd (cc e)
own_by slot k low true true false false e = absurd (cc e)
own_by slot k low true false h true e = absurd (cc e)
own_by slot k low true false h false e = absurd (cc e)
own_by slot k low false l h r e = absurd (cc e)

-- an address of the own stack
pub record IsSlot (bottom len at k : ℕ) : Type 0 where
  pub is : (at - bottom) / 4 ≡ k
  pub low : bottom ≤ at
  pub high : at < bottom + 4 * len

pub own_slot : (words bottom len at k : ℕ) → spot_at words bottom len at ≡ Own k → IsSlot bottom len at k
own_slot words bottom len at k h =
    let b = own_by ((at - bottom) / 4) k ((at - 4096) / 4) (nat_eq (at % 4) 0) (nat_le bottom at)
    (nat_lt at (bottom + 4 * len)) (nat_le 4096 at && nat_lt at (4096 + 4 * words)) h in
    let same : (at - bottom) / 4 ≡ k = let e = b.2 in cc e in
    record { is = same; low = leb-true bottom at b.0; high = ltb-true at (bottom + 4 * len) b.1 }

pub slot_within : (bottom len at k : ℕ) → IsSlot bottom len at k → k < len
slot_within bottom len at k s = let a = s.is in let b = s.low in let c = s.high in omega arith

-- a return doesn't leave the stack at its lower end
pub slot_above : (bottom len at k : ℕ) → bottom + 4 * len + 4 < 4294967296 → IsSlot bottom len at k →
    nat_lt (word_add at 4) bottom ≡ false
slot_above bottom len at k room s =
    let b = s.low in let c = s.high in
    let up : word_add at 4 ≡ at + 4 = omega arith in
    elim (lt_or_not (word_add at 4) bottom) [ inl h ↦ let z = h.1 in absurd (omega arith) | inr h ↦ h.0 ]
