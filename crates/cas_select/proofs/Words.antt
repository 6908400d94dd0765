-- Operators on words that give the same.
use Rattle.std.proofs.Common.{◌≡◌, ℕ, zero, suc, ◌+◌, ◌-◌, ◌*◌, ◌/◌, ◌%◌, ◌^◌, ◌<◌, ◌≤◌, Option, Some, None, Bool, true, false, if◌then◌else◌, nat_eq, nat_lt, nat_le, refl, sym, ap, ◌∙◌, subst, arith}
use Rattle.std.specs.Prelude.{not, bit_and, bit_or, bit_xor, int_lt, int_le, ◌==◌, ℤ, pos, negsuc}
use Rattle.std.proofs.Math.Nat.{mod-eq_of_lt, add_comm, mul_comm}
use Rattle.std.proofs.lemmas.Nat.{and_mask, and_comm, or_comm, xor_comm, pow_pos}
use Rattle.std.proofs.lemmas.Bool.Decides.{nat_tests}
use Rattle.cas_base.specs.Word.{word_mul, word_shl, word_shr, word_div_unsigned, word_rem_unsigned}
use Rattle.cas_syntax.specs.declared.tree.BinaryOperator.{BinaryOperator}
use Rattle.cas_syntax.specs.declared.tree.BinaryOperator.TheVariants as bin
use Rattle.cas_typed.specs.declared.tree.Signedness.{Signedness}
use Rattle.cas_typed.specs.declared.tree.Signedness.TheVariants.{Signed, Unsigned}
use Rattle.cas_step.specs.Operators.{number_of, truth, is_true, is_less, is_at_most, or_undefined}
use Rattle.cas_mid.specs.Operators.{binary_word, result_of}
use Rattle.cas_select.specs.Operators.{exchanged, exponent_from, exponent}
use Rattle.cas_select.specs.Conditions.{opposite, is_comparison, agreeing, turned}

-- the number is 2 to this exponent
pub record IsPower (n k : ℕ) : Type 0 where
  pub small : k < 32
  pub power : n ≡ 2 ^ k

abbrev pub IsExponent : ℕ → Option ℕ → Type 0
IsExponent n None = Unit {0}
IsExponent n (Some k) = IsPower n k

exponent_among : (k count n : ℕ) → k + count ≤ 32 → IsExponent n (exponent_from k count n)
exponent_among k zero n le = tt
exponent_among k (suc count) n le =
    by (nat_eq n (2 ^ k)) refl (exponent_among (k + 1) count n (omega (arith, le)))
  where
    by : (b : Bool) → nat_eq n (2 ^ k) ≡ b → IsExponent n (exponent_from (k + 1) count n) →
        IsExponent n (if b then Some k else exponent_from (k + 1) count n)
    by true e rest = record { small = omega (arith, le); power = grind (arith, nat_tests, e) }
    by false e rest = rest

pub exponent_is : (n : ℕ) → IsExponent n (exponent n)
unfolding exponent
exponent_is n = exponent_among 0 32 n (omega arith)

module _ (m n k : ℕ) (is : IsPower n k) where
  count : k % 32 ≡ k
  count = mod-eq_of_lt is.small

  pub product_is : word_shl m k ≡ word_mul m n
  product_is = ap (λ j. (m * 2 ^ j) % 2 ^ 32) count ∙ ap (λ x. (m * x) % 2 ^ 32) (sym is.power)

  positive : (n == 0) ≡ false
  positive = let p = is.power in let least = pow_pos k in grind (arith, nat_tests, p, least)

  pub quotient_is : Some (word_shr m k) ≡ binary_word bin.Div Unsigned m n
  quotient_is =
      ap (λ j. Some (m / 2 ^ j)) count ∙ ap (λ x. Some (m / x)) (sym is.power) ∙ sym (by (n == 0) positive)
    where
      by : (b : Bool) → b ≡ false →
          result_of {O = ℕ} (or_undefined n (if b then None else Some (m / n)))
          ≡ Some (m / n)
      by false e = refl
      by true e = absurd (cc e)

  pub remainder_is : Some (bit_and m (n - 1)) ≡ binary_word bin.Mod Unsigned m n
  remainder_is =
      ap (λ x. Some (bit_and m (x - 1))) is.power ∙ ap Some (and_mask m k) ∙ ap (λ x. Some (m % x)) (sym is.power)
      ∙ sym (by (n == 0) positive)
    where
      by : (b : Bool) → b ≡ false →
          result_of {O = ℕ} (or_undefined n (if b then None else Some (m % n)))
          ≡ Some (m % n)
      by false e = refl
      by true e = absurd (cc e)

-- on operands in the other order
abbrev pub IsExchanged : BinaryOperator → Option BinaryOperator → Type 0
IsExchanged o None = Unit {0}
IsExchanged o (Some other) = (s : Signedness) (m n : ℕ) → binary_word other s n m ≡ binary_word o s m n

same_both : (m n : ℕ) → (n == m) ≡ (m == n)
same_both m n = grind (arith, nat_tests)

pub exchanged_is : (o : BinaryOperator) → IsExchanged o (exchanged o)
exchanged_is bin.Add = λ s m n. ap (λ x. Some (x % 2 ^ 32)) (add_comm n m)
exchanged_is bin.Mul = λ s m n. ap (λ x. Some (x % 2 ^ 32)) (mul_comm n m)
exchanged_is bin.BitAnd = λ s m n. ap Some (and_comm n m)
exchanged_is bin.BitOr = λ s m n. ap Some (or_comm n m)
exchanged_is bin.BitXor = λ s m n. ap Some (xor_comm n m)
exchanged_is bin.Eq = λ s m n. ap (λ b. Some (truth b)) (same_both m n)
exchanged_is bin.Ne = λ s m n. ap (λ b. Some (truth (not b))) (same_both m n)
exchanged_is bin.Lt = λ s m n. refl
exchanged_is bin.Le = λ s m n. refl
exchanged_is bin.Gt = λ s m n. refl
exchanged_is bin.Ge = λ s m n. refl
exchanged_is bin.Sub = tt
exchanged_is bin.Div = tt
exchanged_is bin.Mod = tt
exchanged_is bin.Shl = tt
exchanged_is bin.Shr = tt

pub true_is : (b : Bool) → is_true (truth b) ≡ b
true_is true = refl
true_is false = refl

-- of two numbers one is at most the other, or that is less
pub at_most_is : (a b : ℤ) → int_le b a ≡ not (int_lt a b)
at_most_is (pos m) (pos n) = grind (arith, nat_tests)
at_most_is (pos m) (negsuc n) = grind (arith, nat_tests)
at_most_is (negsuc m) (pos n) = grind (arith, nat_tests)
at_most_is (negsuc m) (negsuc n) = grind (arith, nat_tests)

pub le_is : (p r : ℕ) → nat_le r p ≡ not (nat_lt p r)
le_is p r = grind (arith, nat_tests)

pub lt_is : (p r : ℕ) → nat_lt r p ≡ not (nat_le p r)
lt_is p r = grind (arith, nat_tests)

pub not_not : (b : Bool) → not (not b) ≡ b
not_not true = refl
not_not false = refl

decided : (o : BinaryOperator) → is_comparison o ≡ true → (s : Signedness) (m n : ℕ) →
    (is : Bool) × (binary_word o s m n ≡ Some (truth is)) × (binary_word (opposite o) s m n ≡ Some (truth (not is)))
decided bin.Eq e s m n = (m == n, refl, refl)
decided bin.Ne e s m n = (not (m == n), refl, ap (λ b. Some (truth b)) (sym (not_not (m == n))))
decided bin.Lt e s m n =
    (is_less s m n, refl, ap (λ b. Some (truth b)) (at_most_is (number_of s m) (number_of s n)))
decided bin.Le e s m n = (
  is_at_most s m n,
  refl,
  ap (λ b. Some (truth b)) (sym (not_not (is_less s n m))
      ∙ ap not (sym (at_most_is (number_of s n) (number_of s m)))),
)
decided bin.Gt e s m n =
    (is_less s n m, refl, ap (λ b. Some (truth b)) (at_most_is (number_of s n) (number_of s m)))
decided bin.Ge e s m n = (
  is_at_most s n m,
  refl,
  ap (λ b. Some (truth b)) (sym (not_not (is_less s m n))
      ∙ ap not (sym (at_most_is (number_of s m) (number_of s n)))),
)
decided bin.Add e s m n = absurd (cc e)
decided bin.Sub e s m n = absurd (cc e)
decided bin.Mul e s m n = absurd (cc e)
decided bin.Div e s m n = absurd (cc e)
decided bin.Mod e s m n = absurd (cc e)
decided bin.Shl e s m n = absurd (cc e)
decided bin.Shr e s m n = absurd (cc e)
decided bin.BitAnd e s m n = absurd (cc e)
decided bin.BitOr e s m n = absurd (cc e)
decided bin.BitXor e s m n = absurd (cc e)

-- a comparison and the one that is meant
pub record Turns (meant : Bool) (o : BinaryOperator) (s : Signedness) (m n : ℕ) : Type 0 where
  pub is : Bool
  pub word : binary_word o s m n ≡ Some (truth is)
  pub other : binary_word (turned o meant) s m n ≡ Some (truth (agreeing is meant))

pub turns : (meant : Bool) (o : BinaryOperator) → is_comparison o ≡ true → (s : Signedness) (m n : ℕ) →
    Turns meant o s m n
turns true o e s m n = let d = decided o e s m n in record { is = d.0; word = d.1; other = d.1 }
turns false o e s m n = let d = decided o e s m n in record { is = d.0; word = d.1; other = d.2 }
