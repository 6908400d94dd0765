-- Families with another member, and one thing of each of so many.
use Rattle.std.proofs.Common.{◌≡◌, ℕ, zero, suc, ◌<◌, ◌⊎◌, inl, inr, sym, subst, ⊎_elim, arith}
use Rattle.cas_runs.specs.Known.{set}
use Rattle.cas_runs.proofs.Families.{set_here, set_there}
use Rattle.cas_atomic.proofs.Basic.{same_or_not}

pub put_here : {A : Type 0} (i : ℕ) (a : A) (f : ℕ → A) → set f i a i ≡ a
put_here i a f = set_here f i a

pub put_else : {A : Type 0} (i : ℕ) (a : A) (f : ℕ → A) (j : ℕ) → (i ≡ j → ⊥) → set f i a j ≡ f j
put_else i a f j n = set_there f i a j (λ e. n (sym e))

below : (m i : ℕ) → (m ≡ i → ⊥) → i < suc m → i < m
below m i d k = grind (arith, d, k)

-- each of so many, or one thing else
pub all_or : {B : Type 0} (A : ℕ → Type 0) (n : ℕ) → ((i : ℕ) → i < n → B ⊎ A i) → B ⊎ ((i : ℕ) → i < n → A i)
all_or A zero h = inr (λ i there. absurd (omega (arith, there)))
all_or A (suc n) h =
    ⊎_elim inl (λ older. ⊎_elim inl (λ newest. inr (λ i there. both older newest i there)) (h n (omega arith)))
    (all_or A n (λ i there. h i (omega (arith, there))))
  where
    both : ((i : ℕ) → i < n → A i) → A n → (i : ℕ) → i < suc n → A i
    both older newest i there = elim (same_or_not n i) [
      | inl e ↦ subst (λ k. A k) e newest
      | inr d ↦ older i (below n i d there)
    ]

-- one thing for each of so many, or one thing else
pub choose : {A B : Type 0} (P : ℕ → A → Type 0) → A → (n : ℕ) → ((i : ℕ) → i < n → B ⊎ ((a : A) × P i a)) →
    B ⊎ ((f : ℕ → A) × ((i : ℕ) → i < n → P i (f i)))
choose P a zero h = inr (λ i. a, λ i there. absurd (omega (arith, there)))
choose {A = A} P a (suc n) h =
    ⊎_elim inl (λ older. ⊎_elim inl (λ newest. inr (both older newest)) (h n (omega arith)))
    (choose P a n (λ i there. h i (omega (arith, there))))
  where
    both : ((f : ℕ → A) × ((i : ℕ) → i < n → P i (f i))) → ((x : A) × P n x) →
        (f : ℕ → A) × ((i : ℕ) → i < suc n → P i (f i))
    both older newest = (
      set older.0 n newest.0,
      λ i there. elim (same_or_not n i) [
        | inl e ↦ subst (λ k. P k (set older.0 n newest.0 k)) e
            (subst (λ v. P n v) (sym (put_here n newest.0 older.0)) newest.1)
        | inr d ↦ subst (λ v. P i v) (sym (put_else n newest.0 older.0 i d)) (older.1 i (below n i d there))
      ],
    )
