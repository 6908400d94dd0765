-- A number above 64 bits is out of each range, and so is the largest of 64 bits.
use Rattle.std.proofs.Common.{◌≡◌, ℕ, ◌^◌, nat_lt, nat_le, Bool, true, false, Option, Some, None, Err, refl, ap, sym, ◌∙◌, arith}
use Rattle.std.specs.Option.{option_map}
use Rattle.std.proofs.lemmas.Bool.Decides.{nat_tests}
use Rattle.cas_pieces.specs.Numbers.{capped}
use Rattle.cas_object_line.specs.declared.fault.LineFault.TheVariants.{Range}
use Rattle.cas_object_line.specs.Numbers.{signed_word, word_from, small_label, label_from, small_count, count_from}

out_of_range : (negative : Bool) (n : ℕ) → nat_le n 2147483648 ≡ false → nat_lt n 2147483648 ≡ false →
    signed_word negative n ≡ Err Range
out_of_range true n above at = rw above refl
out_of_range false n above at = rw at refl

large_above : (n : ℕ) → nat_lt n (2 ^ 64) ≡ false → nat_le n 2147483648 ≡ false
large_above n e = grind (arith, nat_tests)

large_at : (n : ℕ) → nat_lt n (2 ^ 64) ≡ false → nat_lt n 2147483648 ≡ false
large_at n e = grind (arith, nat_tests)

pub signed_word_capped : (negative : Bool) (n : ℕ) → signed_word negative (capped n) ≡ signed_word negative n
signed_word_capped negative n = by_size (nat_lt n (2 ^ 64)) refl
  where
    small : nat_lt n (2 ^ 64) ≡ true → capped n ≡ n
    small e = rw e refl

    large : nat_lt n (2 ^ 64) ≡ false → capped n ≡ 18446744073709551615
    large e = rw e refl

    by_size : (t : Bool) → nat_lt n (2 ^ 64) ≡ t → signed_word negative (capped n) ≡ signed_word negative n
    by_size true e = ap (signed_word negative) (small e)
    by_size false e =
        ap (signed_word negative) (large e)
        ∙ (out_of_range negative 18446744073709551615 refl refl
        ∙ sym (out_of_range negative n (large_above n e) (large_at n e)))

pub small_label_capped : (n : ℕ) → small_label (capped n) ≡ small_label n
small_label_capped n = grind (arith, nat_tests)

pub small_count_capped : (negative : Bool) (n : ℕ) → small_count negative (capped n) ≡ small_count negative n
small_count_capped negative n = grind (arith, nat_tests)
