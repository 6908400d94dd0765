-- Numbers that are read have the numerals as which they are printed.
use Rattle.std.proofs.Common.{◌≡◌, ℕ, zero, suc, ◌<◌, ◌≤◌, ◌^◌, Bool, true, false, List, codes, Option, Some, None, Result, Ok, Err, refl, ap, sym, subst, ◌∙◌, arith}
use Rattle.std.specs.Fmt.{decimal}
use Rattle.std.specs.Prelude.{ℤ, pos, negsuc}
use Rattle.std.proofs.lemmas.Bool.Decides.{nat_tests}
use Rattle.std.proofs.lemmas.Int.{ints}
use Rattle.cas_base.specs.Word.{signed, word_sub}
use Rattle.cas_pieces.specs.Numbers.{number}
use Rattle.cas_pieces.specs.declared.piece.Piece.{Piece}
use Rattle.cas_pieces.proofs.Numerals.{decimal-number}
use Rattle.cas_object_line.specs.Numbers.{signed_word, word_from, word_of, as_displacement, displacement_of, small_label, label_from, label_of, small_count, count_from, count_of}
use Rattle.cas_object_line.specs.Operands.{is_positive}
use Rattle.cas_object_line.specs.declared.fault.LineFault.{LineFault}
use Rattle.cas_object_line.specs.declared.operand.Numeral.{Numeral}
use Rattle.cas_object_laws.proofs.Numerals.{numeral_of}
use Rattle.cas_object_laws.proofs.Spelled.{number_pieces}
use Rattle.cas_object_spelling.proofs.Places.{tail_pieces, IsTail}

-- a number with `-` isn't 0
abbrev pub IsSigned : Numeral → Type 0
IsSigned n = n.negative ≡ true → is_positive n.digits ≡ true

word-plain : (m w : ℕ) → signed_word false m ≡ Ok w → (w ≡ m) × (m < 2 ^ 31)
word-plain m w e = grind (arith, nat_tests)

word-minus : (m w : ℕ) → signed_word true m ≡ Ok w → (w ≡ word_sub 0 m) × (m ≤ 2 ^ 31)
word-minus m w e = grind (arith, nat_tests)

pos_signed : (n : ℕ) → n < 2 ^ 31 → signed n ≡ pos n
pos_signed n small = grind (arith, nat_tests, ints)

neg_signed : (n : ℕ) → n < 2 ^ 31 → signed (word_sub 0 (suc n)) ≡ negsuc n
neg_signed n small = grind (arith, nat_tests, ints)

clash : false ≡ true → ⊥
clash e = cc

zero-spelt : codes "0" ≡ decimal 0
zero-spelt = decimal-number 0 (codes "0") (omega arith) refl

zero-digits : (x : List ℕ) → x ≡ decimal 0 → is_positive x ≡ true → ⊥
zero-digits x e p = clash (ap is_positive (zero-spelt ∙ sym e) ∙ p)

same : (a b : Bool) (x y : List ℕ) → a ≡ b → x ≡ y →
    ◌≡◌ {A = Numeral} (record { negative = a; digits = x }) (record { negative = b; digits = y })
same a b x y e f = cc

-- a numeral is that of the signed reading of its word
pub numeral-signed : (n : Numeral) (w : ℕ) → IsSigned n → word_of n ≡ Ok w → n ≡ numeral_of (signed w)
numeral-signed n w s e = by_number n.negative n.digits (number n.digits) s refl e
  where
    by_sign : (a : Bool) (x : List ℕ) (m : ℕ) → (a ≡ true → is_positive x ≡ true) → number x ≡ Some m →
        signed_word a m ≡ Ok w → ◌≡◌ {A = Numeral} (record { negative = a; digits = x }) (numeral_of (signed w))
    by_sign false x m s h e =
        let is = word-plain m w e in
        same false false x (decimal m) refl (decimal-number m x (omega (arith, is.1)) h)
        ∙ ap numeral_of (sym (ap signed is.0 ∙ pos_signed m is.1))
    by_sign true x zero s h e = absurd (zero-digits x (decimal-number 0 x (omega arith) h) (s refl))
    by_sign true x (suc k) s h e =
        let is = word-minus (suc k) w e in
        same true true x (decimal (suc k)) refl (decimal-number (suc k) x (omega (arith, is.1)) h)
        ∙ ap numeral_of (sym (ap signed is.0 ∙ neg_signed k (omega (arith, is.1))))

    by_number : (a : Bool) (x : List ℕ) (o : Option ℕ) → (a ≡ true → is_positive x ≡ true) → number x ≡ o →
        word_from a o ≡ Ok w → ◌≡◌ {A = Numeral} (record { negative = a; digits = x }) (numeral_of (signed w))
    by_number a x None s h e = absurd cc
    by_number a x (Some m) s h e = by_sign a x m s h e

ok-same : (a b : ℤ) → ◌≡◌ {A = Result ℤ LineFault} (Ok a) (Ok b) → a ≡ b
ok-same a b e = cc

-- a displacement is written as it is printed
number-tail : (after : Bool) (z : ℤ) (rest : List Piece) → IsTail after (Some (numeral_of z)) →
    tail_pieces after (Some (numeral_of z)) rest ≡ number_pieces after z rest
number-tail false (pos n) rest h = refl
number-tail true (pos zero) rest h = absurd (zero-digits (decimal 0) refl (h.1 refl))
number-tail true (pos (suc n)) rest h = refl
number-tail false (negsuc n) rest h = refl
number-tail true (negsuc n) rest h = refl

pub tail-number : (after : Bool) (o : Option Numeral) (z : ℤ) (rest : List Piece) → IsTail after o →
    displacement_of o ≡ Ok z → tail_pieces after o rest ≡ number_pieces after z rest
tail-number true None (pos zero) rest h e = refl
tail-number true None (pos (suc n)) rest h e = absurd cc
tail-number true None (negsuc n) rest h e = absurd cc
tail-number false None z rest h e = absurd cc
tail-number after (Some n) z rest h e = by_word (word_of n) refl e
  where
    ended : (w : ℕ) → z ≡ signed w → n ≡ numeral_of (signed w) →
        tail_pieces after (Some n) rest ≡ number_pieces after z rest
    ended w is same =
        let spelt : n ≡ numeral_of z = same ∙ ap numeral_of (sym is) in
        ap (λ m. tail_pieces after (Some m) rest) spelt ∙ number-tail after z rest
        (subst (λ m. IsTail after (Some m)) spelt h)

    by_word : (r : Result ℕ LineFault) → word_of n ≡ r → as_displacement r ≡ Ok z →
        tail_pieces after (Some n) rest ≡ number_pieces after z rest
    by_word (Err f) w e = absurd cc
    by_word (Ok v) w e = ended v (ok-same z (signed v) (sym e)) (numeral-signed n v h.0 w)

-- labels and counts
small-label : (m n : ℕ) → small_label m ≡ Ok n → (n ≡ m) × (m < 2 ^ 32)
small-label m n e = grind (arith, nat_tests)

pub label-digits : (x : List ℕ) (n : ℕ) → label_of x ≡ Ok n → x ≡ decimal n
label-digits x n e = by_number (number x) refl e
  where
    by_number : (o : Option ℕ) → number x ≡ o → label_from o ≡ Ok n → x ≡ decimal n
    by_number None h e = absurd cc
    by_number (Some m) h e =
        let is = small-label m n e in
        decimal-number m x (omega (arith, is.1)) h ∙ ap decimal (sym is.0)

small-count : (m n : ℕ) → small_count false m ≡ Ok n → (n ≡ m) × (m < 32)
small-count m n e = grind (arith, nat_tests)

pub count-numeral : (numeral : Numeral) (n : ℕ) → count_of numeral ≡ Ok n →
    numeral ≡ record { negative = false; digits = decimal n }
count-numeral numeral n e = by_number numeral.negative numeral.digits (number numeral.digits) refl e
  where
    by_number : (a : Bool) (x : List ℕ) (o : Option ℕ) → number x ≡ o → count_from a o ≡ Ok n →
        ◌≡◌ {A = Numeral} (record { negative = a; digits = x }) (record { negative = false; digits = decimal n })
    by_number a x None h e = absurd cc
    by_number true x (Some m) h e = absurd cc
    by_number false x (Some m) h e =
        let is = small-count m n e in
        same false false x (decimal n) refl (decimal-number m x (omega (arith, is.1)) h ∙ ap decimal (sym is.0))
