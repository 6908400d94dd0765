-- The spelling of each piece, with a blank behind it, is taken as the piece.
use Rattle.std.proofs.Common.{◌≡◌, ℕ, ◌<◌, ◌≤◌, List, [], ◌∷◌, ◌++◌, length, take_while, Bool, true, false, ◌&&◌, ◌||◌, ◌==◌, nat_lt, nat_le, codes, decimal, refl, ap, ◌∙◌, append_assoc, length-append, arith}
use Rattle.std.specs.Char.{is_ascii_digit, is_ascii_hexdigit, digit_value}
use Rattle.std.specs.List.{list_all}
use Rattle.std.specs.Str.Parse.{digits_value, AllDigits}
use Rattle.std.proofs.lemmas.Bool.Decides.{nat_tests}
use Rattle.std.proofs.lemmas.Fmt.{decimal_is_IsNumeral, decimal_digit, first_decimal}
use Rattle.std.proofs.lemmas.List.{append-nil}
use Rattle.std.proofs.lemmas.List.Sums.{take_while-cons}
use Rattle.std.proofs.Math.Seq.{drop-append_seam}
use Rattle.cas_base.specs.Name.{is_first_byte, is_name_byte}
use Rattle.cas_base.specs.declared.kind.Kind.{Kind}
use Rattle.cas_base.specs.declared.kind.Kind.TheVariants.{I32, U32}
use Rattle.cas_lex.specs.declared.front.Front.TheVariants as f
use Rattle.cas_lex.specs.declared.token.TokenKind.TheVariants as k
use Rattle.cas_lex.specs.declared.token.Word.{Word}
use Rattle.cas_lex.specs.declared.token.Word.TheVariants as w
use Rattle.cas_lex.specs.declared.token.Sign.{Sign}
use Rattle.cas_lex.specs.declared.token.Sign.TheVariants as sg
use Rattle.cas_lex.specs.Front.{front, front_at, mark_at, name_at}
use Rattle.cas_lex.specs.Literals.{literal_at, literal_before, literal_kind, is_hexadecimal, is_octal}
use Rattle.cas_lex.specs.Spellings.{word_spelling, sign_spelling}
use Rattle.cas_print.specs.Pieces.{Piece, word, sign, end_of_line, named, number, plain_number, kind_of, spelling, separator}
use Rattle.cas_print.proofs.Sound.{IsSound, IsPlainName, IsLiteral, literal_small}

-- words and signs

word_front : (which : Word) (rest : List ℕ) → front (word_spelling which ++ 32 ∷ rest) ≡ f.Token (k.Word which)
    (length (word_spelling which))
unfolding front_at
word_front w.Void rest = refl
word_front _ rest = refl

sign_front : (s : Sign) (rest : List ℕ) → front (sign_spelling s ++ 32 ∷ rest) ≡ f.Token (k.Sign s)
    (length (sign_spelling s))
unfolding front_at mark_at
sign_front sg.Plus rest = refl
sign_front _ rest = refl

line_front : (s : Sign) (rest : List ℕ) → front (sign_spelling s ++ 10 ∷ rest) ≡ f.Token (k.Sign s)
    (length (sign_spelling s))
unfolding front_at mark_at
line_front sg.Plus rest = refl
line_front _ rest = refl

-- names

take_while-until : (p : ℕ → Bool) (xs : List ℕ) (c : ℕ) (rest : List ℕ) → list_all p xs ≡ true → p c ≡ false →
    take_while p (xs ++ c ∷ rest) ≡ xs
take_while-until p [] c rest all stop = rw (take_while-cons p c rest, stop) refl
take_while-until p (x ∷ xs) c rest all stop = step (p x) refl all (λ others. take_while-until p xs c rest others stop)
  where
    step : (b : Bool) → p x ≡ b → (b && list_all p xs) ≡ true →
        (list_all p xs ≡ true → take_while p (xs ++ c ∷ rest) ≡ xs) → take_while p (x ∷ (xs ++ c ∷ rest)) ≡ x ∷ xs
    step true e all more = rw (take_while-cons p x (xs ++ c ∷ rest), e) (ap (λ (ys : List ℕ). x ∷ ys) (more all))
    step false e all more = cc

first_is_name_byte : (b : ℕ) → is_first_byte b ≡ true → is_name_byte b ≡ true
first_is_name_byte b h = grind (arith, nat_tests)

name_front-begun : (b : ℕ) (bs : List ℕ) (rest : List ℕ) → is_first_byte b ≡ true → list_all is_name_byte bs ≡ true →
    front ((b ∷ bs) ++ 32 ∷ rest) ≡ name_at (b ∷ bs)
unfolding front_at
name_front-begun b bs rest first all =
    let whole : list_all is_name_byte (b ∷ bs) ≡ true = rw (first_is_name_byte b first) all in
    rw (first) (ap name_at (take_while-until is_name_byte (b ∷ bs) 32 rest whole refl))

both : (a b : Bool) → (a && b) ≡ true → (a ≡ true) × (b ≡ true)
both true true h = (refl, refl)
both _ _ h = cc

all_three : (a b c : Bool) → (a && b && c) ≡ true → (a ≡ true) × (b ≡ true) × (c ≡ true)
all_three true true true h = (refl, refl, refl)
all_three _ _ _ h = cc

name_front : (x : List ℕ) (rest : List ℕ) → IsPlainName x → front (x ++ 32 ∷ rest) ≡ f.Token (k.Name x) (length x)
name_front [] rest plain = let h = plain.0 in cc
name_front (b ∷ bs) rest plain =
    let h = all_three (nat_le (length (b ∷ bs)) 63) (is_first_byte b) (list_all is_name_byte bs) plain.0 in
    let few = h.0 in
    let short : nat_lt 63 (length (b ∷ bs)) ≡ false = grind (arith, nat_tests) in
    name_front-begun b bs rest h.1 h.2 ∙ rw (plain.1, plain.2, short) refl

-- numbers

digit : (c : ℕ) → digit_value c < 10 → is_ascii_digit c ≡ true
digit c h = grind (arith, nat_tests)

digits : (ds : List ℕ) → AllDigits 10 ds → list_all is_ascii_digit ds ≡ true
digits [] h = refl
digits (d ∷ ds) h = rw (digit d h.0, digits ds h.1) refl

digit_begins_no_name : (d : ℕ) → is_ascii_digit d ≡ true → is_first_byte d ≡ false
digit_begins_no_name d h = grind (arith, nat_tests)

digit_is_no_x : (d : ℕ) → is_ascii_digit d ≡ true → (d == 120 || d == 88) ≡ false
digit_is_no_x d h = grind (arith, nat_tests)

no_second : (a c : Bool) → (a && false && c) ≡ false
no_second true true = refl
no_second _ _ = refl

no_hexadecimal : (z x : ℕ) (more : List ℕ) → (x == 120 || x == 88) ≡ false → is_hexadecimal (z ∷ x ∷ more) ≡ false
no_hexadecimal z x [] h = refl
no_hexadecimal z x (m ∷ more) h = rw h (no_second (z == 48) (is_ascii_hexdigit m))

-- decimal digits without a leading 0, and a byte that is no digit
decimal_at : (d : ℕ) (ds : List ℕ) (c : ℕ) (rest : List ℕ) → list_all is_ascii_digit (d ∷ ds) ≡ true →
    (d ≡ 48 → ds ≡ []) → is_ascii_digit c ≡ false → (c == 120 || c == 88) ≡ false →
    literal_at ((d ∷ ds) ++ c ∷ rest) ≡ literal_before (digits_value 10 (d ∷ ds)) (length (d ∷ ds)) (c ∷ rest)
decimal_at d ds c rest all leading stop other =
    rw (
      not_hexadecimal ds all,
      take_while-until is_ascii_digit (d ∷ ds) c rest all stop,
      not_octal ds leading,
      drop-append_seam (d ∷ ds) (c ∷ rest),
    ) refl
  where
    not_hexadecimal : (ds : List ℕ) → list_all is_ascii_digit (d ∷ ds) ≡ true →
        is_hexadecimal ((d ∷ ds) ++ c ∷ rest) ≡ false
    not_hexadecimal [] all = no_hexadecimal d c rest other
    not_hexadecimal (e ∷ es) all =
        no_hexadecimal d e (es ++ c ∷ rest)
        (digit_is_no_x e (both (is_ascii_digit e) _ (both (is_ascii_digit d) _ all).1).0)

    not_octal : (ds : List ℕ) → (d ≡ 48 → ds ≡ []) → is_octal (d ∷ ds) ≡ false
    not_octal [] leading = refl
    not_octal (e ∷ es) leading = no_zero (d == 48) refl
      where
        no_zero : (b : Bool) → (d == 48) ≡ b → b ≡ false
        no_zero true is = let zero : d ≡ 48 = grind (arith, nat_tests) in let none = leading zero in cc
        no_zero false is = refl

digits_front : (d : ℕ) (more : List ℕ) → is_ascii_digit d ≡ true → front (d ∷ more) ≡ literal_at (d ∷ more)
unfolding front_at
digits_front d more h = rw (digit_begins_no_name d h, h) refl

-- only the digits of 0 begin with 0
zero_alone : (n d : ℕ) (ds : List ℕ) → n ≤ 4294967295 → decimal n ≡ d ∷ ds → d ≡ 48 → ds ≡ []
zero_alone n d ds small is leading = by_test (nat_lt 0 n) refl
  where
    by_test : (b : Bool) → nat_lt 0 n ≡ b → ds ≡ []
    by_test true e =
        let some : 0 < n = grind (arith, nat_tests) in
        let above = rw is at (first_decimal n some (omega arith)) in
        absurd (omega arith)
    by_test false e =
        let none : n ≡ 0 = grind (arith, nat_tests) in
        let same : decimal n ≡ 48 ∷ [] = rw none (decimal_digit 0 (omega arith)) in
        cc

number_at : (n c : ℕ) (rest : List ℕ) → n ≤ 4294967295 → is_ascii_digit c ≡ false → (c == 120 || c == 88) ≡ false →
    front (decimal n ++ c ∷ rest) ≡ literal_before n (length (decimal n)) (c ∷ rest)
number_at n c rest small stop other = by_digits (decimal n) refl (decimal_is_IsNumeral n (omega arith)).0
    (decimal_is_IsNumeral n (omega arith)).1
  where
    by_digits : (ds : List ℕ) → decimal n ≡ ds → (0 < length ds) × AllDigits 10 ds → digits_value 10 ds ≡ n →
        front (ds ++ c ∷ rest) ≡ literal_before n (length ds) (c ∷ rest)
    by_digits [] same some is = absurd (omega (arith, some.0))
    by_digits (d ∷ ds) same some is =
        digits_front d (ds ++ c ∷ rest) (digit d some.1.0)
        ∙ decimal_at d ds c rest (digits (d ∷ ds) some.1) (zero_alone n d ds small same) stop other
        ∙ ap (λ (m : ℕ). literal_before m (length (d ∷ ds)) (c ∷ rest)) is

not_above : (n : ℕ) → n ≤ 4294967295 → nat_lt 4294967295 n ≡ false
not_above n h = grind (arith, nat_tests)

plain_front : (n : ℕ) (rest : List ℕ) → n ≤ 4294967295 →
    front (decimal n ++ 32 ∷ rest) ≡ f.Token (k.Literal n (literal_kind false n)) (length (decimal n))
plain_front n rest small = number_at n 32 rest small refl refl ∙ rw (not_above n small) refl

signed_front : (n : ℕ) (rest : List ℕ) → n ≤ 2147483647 →
    front (decimal n ++ 32 ∷ rest) ≡ f.Token (k.Literal n I32) (length (decimal n))
signed_front n rest small =
    let low : nat_lt 2147483647 n ≡ false = grind (arith, nat_tests) in
    plain_front n rest (omega arith) ∙ rw (low) refl

unsigned_front : (n : ℕ) (rest : List ℕ) → n ≤ 4294967295 →
    front ((decimal n ++ codes "u") ++ 32 ∷ rest) ≡ f.Token (k.Literal n U32) (length (decimal n ++ codes "u"))
unsigned_front n rest small =
    rw (append_assoc (decimal n) (codes "u") (32 ∷ rest), length-append (decimal n) (codes "u"))
    (number_at n 117 (32 ∷ rest) small refl refl ∙ rw (not_above n small) refl)

number_front : (n : ℕ) (kind : Kind) (rest : List ℕ) → IsLiteral n kind →
    front (spelling (number n kind) ++ 32 ∷ rest) ≡ f.Token (k.Literal n kind) (length (spelling (number n kind)))
number_front n I32 rest h = rw (append-nil (decimal n)) (signed_front n rest h)
number_front n U32 rest h = unsigned_front n rest h
number_front n _ rest h = absurd h

-- a value that may be a literal's at the kind that it has without a suffix
plain_small : (n : ℕ) → IsLiteral n (literal_kind false n) → n ≤ 4294967295
plain_small n h = literal_small n (literal_kind false n) h

-- each piece
pub piece_front : (p : Piece) (rest : List ℕ) → IsSound (kind_of p) →
    front (spelling p ++ separator p ∷ rest) ≡ f.Token (kind_of p) (length (spelling p))
piece_front (word which) rest h = word_front which rest
piece_front (sign s) rest h = sign_front s rest
piece_front (end_of_line s) rest h = line_front s rest
piece_front (named x) rest h = name_front x rest h
piece_front (number n kind) rest h = number_front n kind rest h
piece_front (plain_number n) rest h = plain_front n rest (plain_small n h)

-- and the blank behind it
pub separator_front : (p : Piece) (rest : List ℕ) → front (separator p ∷ rest) ≡ f.Blank 1
unfolding front_at mark_at
separator_front (end_of_line s) rest = refl
separator_front _ rest = refl
