-- The values of digits.
use Rattle.std.proofs.Common.{◌≡◌, ℕ, suc, ◌+◌, ◌*◌, ◌<◌, ◌≤◌, List, [], ◌∷◌, drop, length, get_or, None, arith, sym}
use Rattle.std.specs.Str.Parse.{digits_value_after}
use Rattle.std.specs.Char.{digit_value}
use Rattle.std.proofs.lemmas.Bool.Decides.{nat_tests}
use Rattle.std.proofs.Math.Seq.{drop-cons}
use Rattle.cas_lex.specs.Literals.{small}

-- more digits make no smaller number
digits_value_after-ge : (radix n : ℕ) (ds : List ℕ) → 0 < radix → n ≤ digits_value_after radix n ds
digits_value_after-ge radix n [] h = omega arith
digits_value_after-ge radix n (d ∷ ds) h = step (digits_value_after-ge radix (n * radix + digit_value d) ds h)
  where
    grows : (m r : ℕ) → 0 < r → m ≤ m * r
    grows m r h = grind arith

    step : n * radix + digit_value d ≤ digits_value_after radix (n * radix + digit_value d) ds →
        n ≤ digits_value_after radix (n * radix + digit_value d) ds
    step more = let far : n ≤ n * radix = grows n radix h in omega arith

-- and what is too great stays so
small-ge : (m n : ℕ) → small m ≡ None → m ≤ n → small n ≡ None
small-ge m n h le = grind (arith, nat_tests)

-- digits whose front makes a number that is too great do so too
pub small-more : (radix value : ℕ) (digits : List ℕ) (i n : ℕ) → 0 < radix → i < length digits →
    small (value * radix + digit_value (get_or digits i 0)) ≡ None →
    digits_value_after radix value (drop i digits) ≡ n → small n ≡ None
small-more radix value digits i n positive within great whole =
    small-ge _ n great
    (rw (sym whole, drop-cons digits i 0) (digits_value_after-ge radix (value * radix + digit_value (get_or digits i 0))
    (drop (suc i) digits) positive))
