-- Laws of words over numbers, which the module `laws` states.
use Rattle.std.proofs.Common.{◌≡◌, ℕ, zero, suc, ◌-◌, ◌/◌, ◌%◌, ◌^◌, ◌<◌, ◌∙◌, refl, sym, ap, arith}
use Rattle.std.proofs.Common.{Bool, true, false, Some, None, ℤ, pos, negsuc, ◌+ℤ◌, ◌-ℤ◌, ◌*ℤ◌, ◌≤ℤ◌, neg_ℤ, if◌then◌else◌}
use Rattle.std.specs.Prelude.{int_div, int_rem, unsigned_abs, FitsSigned}
use Rattle.std.specs.Int.{w32}
use Rattle.std.specs.Int.Signed.{mag, mag_rem}
use Rattle.std.proofs.Math.Facts.{sfits_to_z}
use Rattle.std.proofs.Math.Nat.{zero-mod, div-le_self, div-lt_self, div-one}
use Rattle.std.proofs.lemmas.Int.{ints, to_z-of_z, of_z-to_z, wrapping_add-bits, wrapping_sub-bits, wrapping_mul-bits, int_wrap_fits, quot-rem, rem_below}
use Rattle.std.proofs.lemmas.Bool.Decides.{nat_tests}
use Rattle.cas_base.specs.Word.{signed, word_of, wrapped, word_add, word_sub, word_mul, word_div_signed, word_rem_signed, has_no_signed_quotient, IsTruncatedDivision}

-- sums, differences and products of the signed readings, wrapped

pub signed-word_add : (a b : ℕ) → a < 2 ^ 32 → b < 2 ^ 32 → signed (word_add a b) ≡ wrapped (signed a +ℤ signed b)
signed-word_add a b p q = wrapping_add-bits w32 a b p q

pub signed-word_sub : (a b : ℕ) → a < 2 ^ 32 → b < 2 ^ 32 → signed (word_sub a b) ≡ wrapped (signed a -ℤ signed b)
signed-word_sub a b p q = wrapping_sub-bits w32 a b p q

pub signed-word_mul : (a b : ℕ) → a < 2 ^ 32 → b < 2 ^ 32 → signed (word_mul a b) ≡ wrapped (signed a *ℤ signed b)
signed-word_mul a b p q = wrapping_mul-bits w32 a b p q

pub signed-word_mul_fits : (a b : ℕ) → a < 2 ^ 32 → b < 2 ^ 32 → FitsSigned w32 (signed a *ℤ signed b) →
    signed (word_mul a b) ≡ signed a *ℤ signed b
signed-word_mul_fits a b p q fits = signed-word_mul a b p q ∙ int_wrap_fits w32 (signed a *ℤ signed b) fits

pub ruleset wraps = (signed-word_add, signed-word_sub, signed-word_mul, signed-word_mul_fits)

-- the remainder has the dividend's sign

rem_not_negative : (a d : ℤ) → pos 0 ≤ℤ a → pos 0 ≤ℤ int_rem a d
rem_not_negative (pos a) d h = omega (arith, ints)
rem_not_negative (negsuc a) d h = absurd (omega (arith, ints))

negated : (k : ℕ) → neg_ℤ (pos k) ≤ℤ pos 0
negated k = omega (arith, ints)

rem_not_positive : (a d : ℤ) → a ≤ℤ pos 0 → int_rem a d ≤ℤ pos 0
rem_not_positive (pos zero) d h = rw (zero-mod (unsigned_abs d)) (omega (arith, ints))
rem_not_positive (pos (suc a)) d h = absurd (omega (arith, ints))
rem_not_positive (negsuc a) d h = negated (suc a % unsigned_abs d)

pub truncated : (a d : ℤ) → 0 < unsigned_abs d → IsTruncatedDivision a d (int_div a d) (int_rem a d)
truncated a d some = record {
  sum = quot-rem a d;
  small = rem_below a d some;
  not_negative = rem_not_negative a d;
  not_positive = rem_not_positive a d;
}

-- what signed division gives is read as the quotient and the remainder of the readings

pub signed_fits : (a : ℕ) → a < 2 ^ 32 → FitsSigned w32 (signed a)
signed_fits a p = sfits_to_z {w = w32} record { fits = p }

negated_size : (k : ℕ) → mag (neg_ℤ (pos k)) ≡ k - 1
negated_size zero = refl
negated_size (suc k) = omega arith

int_div_fits : (a d : ℤ) → FitsSigned w32 a → (d ≡ negsuc 0 → a ≡ negsuc 2147483647 → ⊥) → FitsSigned w32 (int_div a d)
int_div_fits (pos a) (pos d) fits h = record { sfits = omega (arith, fits.sfits, div-le_self a d) }
int_div_fits (pos a) (negsuc d) fits h =
    record { sfits = omega (arith, fits.sfits, div-le_self a (suc d), negated_size (a / suc d)) }
int_div_fits (negsuc a) (pos d) fits h =
    record { sfits = omega (arith, fits.sfits, div-le_self (suc a) d, negated_size (suc a / d)) }
int_div_fits (negsuc a) (negsuc zero) fits h =
    let not_least : a ≡ 2147483647 → ⊥ = λ e. h refl (ap negsuc e) in
    record { sfits = omega (arith, fits.sfits, div-one (suc a)) }
int_div_fits (negsuc a) (negsuc (suc d)) fits h = record
    { sfits = omega (arith, fits.sfits, div-lt_self {n = suc a} {k = suc (suc d)} (omega arith) (omega arith)) }

pub quotient_fits : (a b : ℕ) → a < 2 ^ 32 → b < 2 ^ 32 → has_no_signed_quotient a b ≡ false →
    FitsSigned w32 (int_div (signed a) (signed b))
quotient_fits a b p q h = int_div_fits (signed a) (signed b) (signed_fits a p) (λ e f.
    let divisor : 4294967295 ≡ b = ap word_of (sym e) ∙ of_z-to_z w32 b q in
    let dividend : 2147483648 ≡ a = ap word_of (sym f) ∙ of_z-to_z w32 a p in
    grind (arith, nat_tests))

pub rem_fits : (a d : ℤ) → FitsSigned w32 a → FitsSigned w32 (int_rem a d)
rem_fits a d fits = record { sfits = omega (arith, fits.sfits, mag_rem a d) }

divisor_size : (a b : ℕ) → b < 2 ^ 32 → has_no_signed_quotient a b ≡ false → 0 < unsigned_abs (signed b)
divisor_size a b q h = grind (arith, nat_tests, ints)

pub signed-quotient : (a b q : ℕ) → a < 2 ^ 32 → b < 2 ^ 32 → word_div_signed a b ≡ Some q →
    signed q ≡ int_div (signed a) (signed b)
signed-quotient a b q p s = by (has_no_signed_quotient a b) refl
  where
    by : (t : Bool) → has_no_signed_quotient a b ≡ t →
        (if t then None else Some (word_of (int_div (signed a) (signed b)))) ≡ Some q →
        signed q ≡ int_div (signed a) (signed b)
    by true is e = cc
    by false is e =
        let same : q ≡ word_of (int_div (signed a) (signed b)) = cc in
        ap signed same ∙ to_z-of_z w32 _ (quotient_fits a b p s is)

pub signed-remainder : (a b r : ℕ) → a < 2 ^ 32 → word_rem_signed a b ≡ Some r →
    signed r ≡ int_rem (signed a) (signed b)
signed-remainder a b r p = by (has_no_signed_quotient a b)
  where
    by : (t : Bool) → (if t then None else Some (word_of (int_rem (signed a) (signed b)))) ≡ Some r →
        signed r ≡ int_rem (signed a) (signed b)
    by true e = cc
    by false e =
        let same : r ≡ word_of (int_rem (signed a) (signed b)) = cc in
        ap signed same ∙ to_z-of_z w32 _ (rem_fits (signed a) (signed b) (signed_fits a p))

pub ruleset readings = (signed-quotient, signed-remainder)

has_divisor : (a b q : ℕ) → word_div_signed a b ≡ Some q → has_no_signed_quotient a b ≡ false
has_divisor a b q = by (has_no_signed_quotient a b)
  where
    by : (t : Bool) → (if t then None else Some (word_of (int_div (signed a) (signed b)))) ≡ Some q → t ≡ false
    by true e = cc
    by false e = refl

pub division_truncates : (a b q r : ℕ) → a < 2 ^ 32 → b < 2 ^ 32 → word_div_signed a b ≡ Some q →
    word_rem_signed a b ≡ Some r → IsTruncatedDivision (signed a) (signed b) (signed q) (signed r)
division_truncates a b q r p s d m =
    rw (signed-quotient a b q p s d, signed-remainder a b r p m)
    (truncated (signed a) (signed b) (divisor_size a b s (has_divisor a b q d)))
