-- Numerals have one spelling.
use Rattle.std.proofs.Common.{◌≡◌, ℕ, zero, suc, ◌<◌, ◌^◌, ◌⊎◌, inl, inr, nat_lt, List, [], ◌∷◌, length, get_or, Bool, true, false, cond, eqb, Some, None, Result, Ok, Err, refl, ap, sym, ◌∙◌, arith, rules, eq-eqb}
use Rattle.std.proofs.lemmas.Bool.{eqb-true, eqb-false, ltb-true}
use Rattle.std.specs.Char.{is_ascii_digit}
use Rattle.std.specs.List.{list_all}
use Rattle.std.specs.Str.Parse.{digits_value, ParsesUnsigned}
use Rattle.std.specs.Option.{option_map}
use Rattle.std.specs.Fmt.{decimal}
use Rattle.std.proofs.lemmas.Str.Parse.{IsNumeralModel, numerals_by_value, parse_gives}
use Rattle.std.proofs.lemmas.Fmt.{digits_decimal, digits_value-decimal, decimal-digits_value, decimal_nonempty, first_decimal, decimal_digit}
use Rattle.cas_pieces.specs.Numbers.{is_numeral, number, capped}

pub own : IsNumeralModel (λ ds. list_all is_ascii_digit ds ≡ true) (digits_value 10)
own = numerals_by_value _ (search rules)

alone_zero : (c : ℕ) (cs : List ℕ) → c ≡ 48 → length cs ≡ 0 → list_all is_ascii_digit (c ∷ cs) ≡ true
alone_zero c [] z n = rw z refl
alone_zero c (k ∷ cs) z n = absurd (omega arith)

-- the digits of a numeral
digits_of_numeral : (ds : List ℕ) → is_numeral ds ≡ true → (list_all is_ascii_digit ds ≡ true) × (0 < length ds)
    × (get_or ds 0 0 ≡ 48 → length ds ≡ 1)
digits_of_numeral [] e = absurd cc
digits_of_numeral (d ∷ ds) e = by_zero (eqb d 48) refl e
  where
    by_zero : (t : Bool) → eqb d 48 ≡ t → cond t (eqb (length ds) 0) (list_all is_ascii_digit (d ∷ ds)) ≡ true →
        (list_all is_ascii_digit (d ∷ ds) ≡ true) × (0 < length (d ∷ ds)) × (d ≡ 48 → length (d ∷ ds) ≡ 1)
    by_zero true leading alone = (
      alone_zero d ds (eqb-true d 48 leading) (eqb-true _ _ alone),
      omega arith,
      λ _. omega
          (arith, eqb-true _ _ alone),
    )
    by_zero false other all = (all, omega arith, λ z. absurd (eqb-false d 48 other z))

numeral_of_digits : (ds : List ℕ) → list_all is_ascii_digit ds ≡ true → 0 < length ds →
    (get_or ds 0 0 ≡ 48 → length ds ≡ 1) → is_numeral ds ≡ true
numeral_of_digits [] all some leading = absurd (omega arith)
numeral_of_digits (d ∷ ds) all some leading = by_zero (eqb d 48) refl
  where
    by_zero : (t : Bool) → eqb d 48 ≡ t → cond t (eqb (length ds) 0) (list_all is_ascii_digit (d ∷ ds)) ≡ true
    by_zero true e = eq-eqb (length ds) 0 (omega (arith, leading (eqb-true d 48 e)))
    by_zero false e = all

number-numeral : (ds : List ℕ) → is_numeral ds ≡ true → number ds ≡ Some (digits_value 10 ds)
number-numeral ds e = rw e refl

-- a decimal number is a numeral of its value
pub number-decimal : (n : ℕ) → n < 2 ^ 64 → number (decimal n) ≡ Some n
number-decimal n small =
    number-numeral (decimal n) (numeral_of_digits (decimal n) (digits_decimal own n small) (decimal_nonempty n small)
    (leading n small (compare_zero n)))
    ∙ ap Some (digits_value-decimal own n small)
  where
    compare_zero : (m : ℕ) → (m ≡ 0) ⊎ (0 < m)
    compare_zero zero = inl refl
    compare_zero (suc m) = inr (omega arith)

    leading : (m : ℕ) → m < 2 ^ 64 → (m ≡ 0) ⊎ (0 < m) → get_or (decimal m) 0 0 ≡ 48 → length (decimal m) ≡ 1
    leading m small (inl z) first = ap length (decimal_digit m (omega arith))
    leading m small (inr some) first = absurd (omega (arith, first_decimal m some small))

some-injective : (m n : ℕ) → Some m ≡ Some n → m ≡ n
some-injective m n e = cc

-- a numeral is the decimal number of its value
pub decimal-number : (n : ℕ) (digits : List ℕ) → n < 2 ^ 64 → number digits ≡ Some n → digits ≡ decimal n
decimal-number n digits small e = by_shape (is_numeral digits) refl e
  where
    by_shape : (t : Bool) → is_numeral digits ≡ t → cond t (Some (digits_value 10 digits)) None ≡ Some n →
        digits ≡ decimal n
    by_shape true shaped is =
        let value : digits_value 10 digits ≡ n = some-injective _ _ is in
        let parts = digits_of_numeral digits shaped in
        sym (decimal-digits_value own digits parts.0 parts.1 parts.2 (rw value small)) ∙ ap decimal value
    by_shape false shaped is = absurd cc

-- where a numeral isn't read as 64 bits, it is above them
pub capped-overflow : {E : Type 0} (ds : List ℕ) (r : Result ℕ E) (fault : E) → ParsesUnsigned 64 10 ds r →
    r ≡ Err fault → is_numeral ds ≡ true → option_map capped (number ds) ≡ Some 18446744073709551615
capped-overflow ds r fault parses failed shaped = rw (number-numeral ds shaped)
    (by_size (nat_lt (digits_value 10 ds) (2 ^ 64)) refl)
  where
    by_size : (t : Bool) → nat_lt (digits_value 10 ds) (2 ^ 64) ≡ t →
        Some (cond t (digits_value 10 ds) 18446744073709551615) ≡ Some 18446744073709551615
    by_size true small =
        let parts = digits_of_numeral ds shaped in
        let given : r ≡ Ok (digits_value 10 ds) = parse_gives own 64 ds r parses parts.0 parts.1 (ltb-true _ _ small) in
        absurd cc
    by_size false large = refl

-- digits that aren't read as 64 bits have another value than any number of them
pub digits-overflow : {E : Type 0} (ds : List ℕ) (r : Result ℕ E) (fault : E) (n : ℕ) → ParsesUnsigned 64 10 ds r →
    r ≡ Err fault → list_all is_ascii_digit ds ≡ true → 0 < length ds → n < 2 ^ 64 → eqb (digits_value 10 ds) n ≡ false
digits-overflow ds r fault n parses failed all some small = by_value (eqb (digits_value 10 ds) n) refl
  where
    by_value : (t : Bool) → eqb (digits_value 10 ds) n ≡ t → t ≡ false
    by_value true e =
        let given : r ≡ Ok (digits_value 10 ds) = parse_gives own 64 ds r parses all some (rw (eqb-true _ _ e) small) in
        absurd cc
    by_value false e = refl
