-- Numbers as they are printed are words, and are read as themselves.
use Rattle.std.proofs.Common.{◌≡◌, ℕ, suc, ◌<◌, ◌≤◌, ◌^◌, ◌+◌, bytes_eq, codes, List, [], ◌∷◌, length, Bool, true, false, not, ◌&&◌, cond, Some, None, Ok, refl, ap, sym, ◌∙◌, arith}
use Rattle.std.specs.Char.{is_ascii_digit}
use Rattle.std.specs.List.{list_all}
use Rattle.std.specs.Str.Parse.{digits_value}
use Rattle.std.specs.Fmt.{decimal}
use Rattle.std.specs.Prelude.{ℤ, pos, negsuc}
use Rattle.std.proofs.lemmas.Bool.Decides.{nat_tests}
use Rattle.std.proofs.lemmas.Fmt.{digits_decimal, decimal_nonempty}
use Rattle.cas_base.specs.Name.{is_name, is_name_byte}
use Rattle.cas_base.specs.Word.{signed, word_sub}
use Rattle.cas_pieces.specs.Numbers.{is_numeral, number}
use Rattle.cas_pieces.specs.Words.{is_word}
use Rattle.cas_pieces.proofs.Numerals.{own, number-decimal}
use Rattle.cas_pieces.proofs.Tables.{bytes_eq-same}
use Rattle.cas_object_line.specs.Operands.{is_positive}
use Rattle.cas_object_line.specs.Numbers.{signed_word, word_of, displacement_of}
use Rattle.cas_object_line.specs.declared.operand.Numeral.{Numeral}
use Rattle.cas_object_laws.specs.Formed.{IsFormedInteger}
use Rattle.std.proofs.lemmas.Int.{ints}

digit_is_name_byte : (b : ℕ) → is_ascii_digit b ≡ true → is_name_byte b ≡ true
digit_is_name_byte b h = grind (arith, nat_tests)

digits_are_name_bytes : (ds : List ℕ) → list_all is_ascii_digit ds ≡ true → list_all is_name_byte ds ≡ true
digits_are_name_bytes [] h = refl
digits_are_name_bytes (d ∷ ds) h = both (is_ascii_digit d) refl h (digits_are_name_bytes ds)
  where
    both : (t : Bool) → is_ascii_digit d ≡ t → (t && list_all is_ascii_digit ds) ≡ true →
        (list_all is_ascii_digit ds ≡ true → list_all is_name_byte ds ≡ true) →
        (is_name_byte d && list_all is_name_byte ds) ≡ true
    both true e rest all = rw (digit_is_name_byte d e, all rest) refl
    both false e rest all = absurd cc

word_from : (x : List ℕ) → 0 < length x → list_all is_name_byte x ≡ true → is_word x ≡ true
word_from [] some all = absurd (omega arith)
word_from (b ∷ bs) some all = all

pub is_word-decimal : (n : ℕ) → n < 2 ^ 64 → is_word (decimal n) ≡ true
is_word-decimal n small = word_from (decimal n) (decimal_nonempty n small)
    (digits_are_name_bytes (decimal n) (digits_decimal own n small))

pub is_word-name : (x : List ℕ) → is_name x ≡ true → is_word x ≡ true
is_word-name [] h = absurd cc
is_word-name (b ∷ bs) h = grind (arith, nat_tests)

numeral_if_number : (x : List ℕ) (n : ℕ) → number x ≡ Some n → is_numeral x ≡ true
numeral_if_number x n h = by_shape (is_numeral x) h
  where
    by_shape : (t : Bool) → cond t (Some (digits_value 10 x)) None ≡ Some n → t ≡ true
    by_shape true e = refl
    by_shape false e = absurd cc

pub is_numeral-decimal : (n : ℕ) → n < 2 ^ 64 → is_numeral (decimal n) ≡ true
is_numeral-decimal n small = numeral_if_number (decimal n) n (number-decimal n small)

some-same : (m n : ℕ) → Some m ≡ Some n → m ≡ n
some-same m n e = cc

-- the digits of a number other than 0 aren't `0`
not_zero : (n : ℕ) → suc n < 2 ^ 64 → decimal (suc n) ≡ codes "0" → ⊥
not_zero n small e = impossible (some-same 0 (suc n) (sym (ap number e) ∙ number-decimal (suc n) small))
  where
    impossible : 0 ≡ suc n → ⊥
    impossible h = omega arith

pub is_positive-decimal : (n : ℕ) → suc n < 2 ^ 64 → is_positive (decimal (suc n)) ≡ true
is_positive-decimal n small = by_text (bytes_eq (decimal (suc n)) (codes "0")) refl
  where
    by_text : (t : Bool) → bytes_eq (decimal (suc n)) (codes "0") ≡ t → (is_numeral (decimal (suc n)) && not t) ≡ true
    by_text true e = absurd (not_zero n small (sym (bytes_eq-same _ _ e)))
    by_text false e = rw (is_numeral-decimal (suc n) small) refl

-- a word, and the integer that is its signed reading
signed-pos : (v m : ℕ) → v < 2 ^ 32 → signed v ≡ pos m → (m ≡ v) × (m < 2 ^ 31)
signed-pos v m h e = grind (arith, nat_tests, ints)

signed-neg : (v m : ℕ) → v < 2 ^ 32 → signed v ≡ negsuc m → (m + 1 + v ≡ 4294967296) × (m < 2147483648)
signed-neg v m h e = grind (arith, nat_tests, ints)

word_read : (n : ℕ) → n < 2 ^ 31 → signed_word false n ≡ Ok n
word_read n small = grind (arith, nat_tests)

minus_read : (n : ℕ) → n ≤ 2 ^ 31 → signed_word true n ≡ Ok (word_sub 0 n)
minus_read n small = grind (arith, nat_tests)

word_sub-negated : (n v : ℕ) → n + v ≡ 4294967296 → 1 ≤ n → word_sub 0 n ≡ v
word_sub-negated n v sum some = omega arith

-- how an integer is written
abbrev pub numeral_of : ℤ → Numeral
numeral_of (pos n) = record { negative = false; digits = decimal n }
numeral_of (negsuc n) = record { negative = true; digits = decimal (suc n) }

-- a word is read from its signed reading
pub word_of-signed : (w : ℕ) → w < 2 ^ 32 → word_of (numeral_of (signed w)) ≡ Ok w
word_of-signed w small = by_sign (signed w) refl
  where
    by_sign : (z : ℤ) → signed w ≡ z → word_of (numeral_of z) ≡ Ok w
    by_sign (pos m) e =
        let is = signed-pos w m small e in
        rw (number-decimal m (omega arith)) (word_read m is.1 ∙ ap Ok is.0)
    by_sign (negsuc m) e =
        let is = signed-neg w m small e in
        rw (number-decimal (suc m) (omega arith))
        (minus_read (suc m) (omega arith) ∙ ap Ok (word_sub-negated (suc m) w (omega arith) (omega arith)))

pos_signed : (n : ℕ) → n < 2 ^ 31 → signed n ≡ pos n
pos_signed n small = grind (arith, nat_tests, ints)

neg_signed : (n : ℕ) → n < 2 ^ 31 → signed (word_sub 0 (suc n)) ≡ negsuc n
neg_signed n small = grind (arith, nat_tests, ints)

-- a displacement is read from its numeral
pub displacement_of-integer : (z : ℤ) → IsFormedInteger z → displacement_of (Some (numeral_of z)) ≡ Ok z
displacement_of-integer (pos n) small =
    rw (number-decimal n (omega arith), word_read n small) (ap Ok (pos_signed n small))
displacement_of-integer (negsuc n) small =
    rw (number-decimal (suc n) (omega arith), minus_read (suc n) (omega arith)) (ap Ok (neg_signed n small))

-- the signed reading of a word is in range
pub signed_integer : (w : ℕ) → w < 2 ^ 32 → IsFormedInteger (signed w)
signed_integer w small = by_sign (signed w) refl
  where
    by_sign : (z : ℤ) → signed w ≡ z → IsFormedInteger z
    by_sign (pos m) e = (signed-pos w m small e).1
    by_sign (negsuc m) e = (signed-neg w m small e).1
