-- Numbers that operators read, as the code passes them.
use Rattle.std.proofs.Common.{◌≡◌, ℕ, ◌<◌, ◌^◌, ℤ, pos, negsuc, neg_ℤ, ◌-ℤ◌, ◌≤ℤ◌, arith, w64, SFits, to_z, of_z, ap, ◌∙◌}
use Rattle.std.proofs.lemmas.Int.{ints, to_z-of_z}
use Rattle.std.proofs.Math.Nat.{mod-eq_of_lt}
use Rattle.cas_base.specs.Word.{word_sub}
use Rattle.cas_step.specs.Pointers.{distance}

fits : (z : ℤ) → negsuc (2 ^ 32) ≤ℤ z → z ≤ℤ pos (2 ^ 32) → SFits w64 z
fits z low high = omega (arith, ints)

pub passed : (z : ℤ) → negsuc (2 ^ 32) ≤ℤ z → z ≤ℤ pos (2 ^ 32) → to_z w64 (of_z w64 z) ≡ z
passed z low high = to_z-of_z w64 z (fits z low high)

negated : (z : ℤ) → pos 0 -ℤ z ≡ neg_ℤ z
negated z = omega (arith, ints)

fits_negated : (z : ℤ) → negsuc (2 ^ 32) ≤ℤ z → z ≤ℤ pos (2 ^ 32) → SFits w64 (neg_ℤ z)
fits_negated z low high = omega (arith, ints)

pub passed_negated : (z : ℤ) → negsuc (2 ^ 32) ≤ℤ z → z ≤ℤ pos (2 ^ 32) →
    to_z w64 (of_z w64 (pos 0 -ℤ to_z w64 (of_z w64 z))) ≡ neg_ℤ z
passed_negated z low high =
    ap (λ y. to_z w64 (of_z w64 (pos 0 -ℤ y))) (passed z low high)
    ∙ ap (λ y. to_z w64 (of_z w64 y)) (negated z)
    ∙ to_z-of_z w64 (neg_ℤ z) (fits_negated z low high)

-- the difference of two places of which the second is a word
pub distance_is : (p r : ℕ) → r < 2 ^ 32 → distance p r ≡ word_sub p r
distance_is p r less = ap (λ i. word_sub p i) (mod-eq_of_lt less)
