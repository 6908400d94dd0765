-- What divisions give.
use Rattle.std.proofs.Common.{◌≡◌, ℕ, zero, suc, ◌/◌, ◌%◌, ◌^◌, ◌<◌, ◌≤◌, ℤ, pos, negsuc, Bool, true, false, ◌&&◌, ◌==◌, nat_lt, if◌then◌else◌, Option, Some, None, refl, subst, arith, ltb-true}
use Rattle.std.specs.Prelude.{unsigned_abs, int_le, int_div, int_rem}
use Rattle.std.specs.Int.{w32}
use Rattle.std.proofs.lemmas.Bool.{eqb-false}
use Rattle.std.proofs.lemmas.Int.{ints, rem_below}
use Rattle.std.specs.Prelude.{FitsSigned, IfSome}
use Rattle.std.proofs.lemmas.Int.{to_z-of_z}
use Rattle.cas_base.specs.Word.{signed, word_of, IsTruncatedDivision}
use Rattle.cas_base.proofs.WordLaws.{truncated}
use Rattle.cas_asm.specs.declared.division.Division.{Division}
use Rattle.cas_asm.specs.Flags.{fits_signed}
use Rattle.cas_asm.specs.Division.{wide, wide_signed, divided_signed, divided_unsigned, signed_parts, words_of}
use Rattle.cas_asm.specs.Words.{IsWord}

-- quotient and remainder are words
pub record AreResults (d : Division) : Type 0 where
  pub quotient : IsWord d.quotient
  pub remainder : IsWord d.remainder

below_divisor : (n b : ℕ) → (b ≡ 0 → ⊥) → IsWord b → IsWord (n % b)
below_divisor n zero d w = absurd (d refl)
below_divisor n (suc b) d w = omega arith

pub unsigned_results : (high low b : ℕ) → IsWord b → (d : Division) → divided_unsigned high low b ≡ Some d →
    AreResults d
unsigned_results high low b w d e = go (b == 0) refl (nat_lt (wide high low / b) (2 ^ 32)) refl e
  where
    go : (t : Bool) → (b == 0) ≡ t → (s : Bool) → nat_lt (wide high low / b) (2 ^ 32) ≡ s
        → (if t then None else (if s then Some (record { quotient = wide high low / b; remainder = wide high low % b })
        else None)) ≡ Some d → AreResults d
    go true q s l e = absurd (cc e)
    go false q false l e = absurd (cc e)
    go false q true l e =
        let r : Division = record { quotient = wide high low / b; remainder = wide high low % b } in
        let same : r ≡ d = cc e in
        subst (λ (x : Division). AreResults x) same
        (record {
          quotient = ltb-true (wide high low / b) (2 ^ 32) l;
          remainder = below_divisor (wide high low) b
              (λ z. eqb-false b 0 q z) w;
        })

cast_word : (z : ℤ) → unsigned_abs z < 2 ^ 32 → IsWord (word_of z)
cast_word (pos n) h = omega arith
cast_word (negsuc n) h = omega arith

fitting_small : (z : ℤ) → fits_signed z ≡ true → unsigned_abs z < 2 ^ 32
fitting_small z e = grind (arith, ints)

above_zero : (d : ℤ) → (int_le d (pos 0) && int_le (pos 0) d) ≡ false → 0 < unsigned_abs d
above_zero (pos zero) e = absurd (cc e)
above_zero (pos (suc n)) e = omega arith
above_zero (negsuc n) e = omega arith

parts_small : (a d : ℤ) → unsigned_abs d < 2 ^ 32 → (p : ℤ × ℤ) → signed_parts a d ≡ Some p →
    (unsigned_abs p.0 < 2 ^ 32) × (unsigned_abs p.1 < 2 ^ 32)
parts_small a d small p e = go (int_le d (pos 0) && int_le (pos 0) d) refl (fits_signed (int_div a d)) refl e
  where
    go : (t : Bool) → (int_le d (pos 0) && int_le (pos 0) d) ≡ t → (f : Bool) → fits_signed (int_div a d) ≡ f
        → (if t then None else (if f then Some (int_div a d, int_rem a d) else None)) ≡ Some p →
        (unsigned_abs p.0 < 2 ^ 32) × (unsigned_abs p.1 < 2 ^ 32)
    go true q f l e = absurd (cc e)
    go false q false l e = absurd (cc e)
    go false q true l e =
        let r : ℤ × ℤ = (int_div a d, int_rem a d) in
        let same : r ≡ p = cc e in
        let rest = rem_below a d (above_zero d q) in
        subst (λ (x : ℤ × ℤ). (unsigned_abs x.0 < 2 ^ 32) × (unsigned_abs x.1 < 2 ^ 32)) same
        (fitting_small (int_div a d) l, omega arith)

signed_small : (b : ℕ) → IsWord b → unsigned_abs (signed b) < 2 ^ 32
signed_small b w = grind (arith, ints)

results_of_parts : (a d : ℤ) (o : Option (ℤ × ℤ)) → signed_parts a d ≡ o → unsigned_abs d < 2 ^ 32 → (r : Division) →
    words_of o ≡ Some r → AreResults r
results_of_parts a d None q small r e = absurd (cc e)
results_of_parts a d (Some p) q small r e =
    let s : Division = record { quotient = word_of p.0; remainder = word_of p.1 } in
    let same : s ≡ r = cc e in
    let parts = parts_small a d small p q in
    subst (λ (x : Division). AreResults x) same
    (record { quotient = cast_word p.0 parts.0; remainder = cast_word p.1 parts.1 })

pub signed_results : (high low b : ℕ) → IsWord b → (d : Division) → divided_signed high low b ≡ Some d → AreResults d
signed_results high low b w d e = results_of_parts (wide_signed high low) (signed b)
    (signed_parts (wide_signed high low) (signed b)) refl (signed_small b w) d e

-- what the quotient and the remainder are

fits_true : (z : ℤ) → fits_signed z ≡ true → FitsSigned w32 z
fits_true (pos n) e = record { sfits = grind (arith, ints) }
fits_true (negsuc n) e = record { sfits = grind (arith, ints) }

small_fits : (z : ℤ) → unsigned_abs z < 2 ^ 31 → FitsSigned w32 z
small_fits (pos n) e = record { sfits = omega arith }
small_fits (negsuc n) e = record { sfits = omega arith }

signed_size : (b : ℕ) → IsWord b → unsigned_abs (signed b) ≤ 2 ^ 31
signed_size b w = grind (arith, ints)

parts_truncate : (a d : ℤ) → unsigned_abs d ≤ 2 ^ 31 → (p : ℤ × ℤ) → signed_parts a d ≡ Some p →
    IsTruncatedDivision a d (signed (word_of p.0)) (signed (word_of p.1))
parts_truncate a d size p e = go (int_le d (pos 0) && int_le (pos 0) d) refl (fits_signed (int_div a d)) refl e
  where
    go : (t : Bool) → (int_le d (pos 0) && int_le (pos 0) d) ≡ t → (f : Bool) → fits_signed (int_div a d) ≡ f
        → (if t then None else (if f then Some (int_div a d, int_rem a d) else None)) ≡ Some p →
        IsTruncatedDivision a d (signed (word_of p.0)) (signed (word_of p.1))
    go true q f l e = absurd (cc e)
    go false q false l e = absurd (cc e)
    go false q true l e =
        let r : ℤ × ℤ = (int_div a d, int_rem a d) in
        let same : r ≡ p = cc e in
        let some : 0 < unsigned_abs d = above_zero d q in
        let rest : unsigned_abs (int_rem a d) < unsigned_abs d = rem_below a d some in
        let quotient : signed (word_of (int_div a d)) ≡ int_div a d =
        to_z-of_z w32 (int_div a d) (fits_true (int_div a d) l) in
        let remainder : signed (word_of (int_rem a d)) ≡ int_rem a d =
        to_z-of_z w32 (int_rem a d) (small_fits (int_rem a d) (omega arith)) in
        subst (λ (x : ℤ × ℤ). IsTruncatedDivision a d (signed (word_of x.0)) (signed (word_of x.1))) same
        (rw (quotient, remainder) (truncated a d some))

truncates_if : (a d : ℤ) (o : Option (ℤ × ℤ)) → signed_parts a d ≡ o → unsigned_abs d ≤ 2 ^ 31 →
    IfSome (words_of o) (λ r. IsTruncatedDivision a d (signed r.quotient) (signed r.remainder))
truncates_if a d None q size = tt
truncates_if a d (Some p) q size = parts_truncate a d size p q

pub signed_truncates : (high low b : ℕ) → IsWord b → IfSome (divided_signed high low b)
    (λ r. IsTruncatedDivision (wide_signed high low) (signed b) (signed r.quotient) (signed r.remainder))
signed_truncates high low b w = truncates_if (wide_signed high low) (signed b)
    (signed_parts (wide_signed high low) (signed b)) refl (signed_size b w)
