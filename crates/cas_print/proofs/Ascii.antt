-- A canonical text is ASCII.
use Rattle.std.proofs.Common.{◌≡◌, ℕ, ◌<◌, List, [], ◌∷◌, length, Bool, true, false, ◌&&◌, nat_lt, nat_le, codes, IsAscii, decimal, refl, arith}
use Rattle.std.specs.List.{list_all}
use Rattle.std.proofs.lemmas.Bool.Decides.{nat_tests}
use Rattle.std.proofs.lemmas.Fmt.{IsAscii-decimal}
use Rattle.std.proofs.lemmas.Str.{IsAscii-append}
use Rattle.std.proofs.lemmas.Str.Ascii.{IsAscii-nil, IsAscii-cons}
use Rattle.cas_base.specs.Name.{is_first_byte, is_name_byte}
use Rattle.cas_base.specs.declared.kind.Kind.{Kind}
use Rattle.cas_base.specs.declared.kind.Kind.TheVariants.{U32}
use Rattle.cas_lex.specs.declared.token.Word.{Word}
use Rattle.cas_lex.specs.declared.token.Word.TheVariants as w
use Rattle.cas_lex.specs.declared.token.Sign.{Sign}
use Rattle.cas_lex.specs.declared.token.Sign.TheVariants as sg
use Rattle.cas_lex.specs.Spellings.{word_spelling, sign_spelling}
use Rattle.cas_print.specs.Pieces.{Piece, word, sign, end_of_line, named, number, plain_number, kind_of, suffix, spelling, separator, text}
use Rattle.cas_print.proofs.Sound.{IsSound, IsPlainName, literal_small, SoundPieces}
use Rattle.cas_lex.specs.Literals.{literal_kind}

tested : (bs : List ℕ) → list_all (λ b. nat_lt b 128) bs ≡ true → IsAscii bs
tested [] h = IsAscii-nil
tested (b ∷ bs) h = step (nat_lt b 128) refl h (tested bs)
  where
    step : (t : Bool) → nat_lt b 128 ≡ t → (t && list_all (λ b. nat_lt b 128) bs) ≡ true →
        (list_all (λ b. nat_lt b 128) bs ≡ true → IsAscii bs) → IsAscii (b ∷ bs)
    step true e all more = IsAscii-cons b bs (grind (arith, nat_tests)) (more all)
    step false e all more = cc

word_ascii : (which : Word) → IsAscii (word_spelling which)
word_ascii w.Void = tested (word_spelling w.Void) refl
word_ascii which = tested (word_spelling which) refl

sign_ascii : (s : Sign) → IsAscii (sign_spelling s)
sign_ascii sg.Plus = tested (sign_spelling sg.Plus) refl
sign_ascii s = tested (sign_spelling s) refl

name_byte_low : (b : ℕ) → is_name_byte b ≡ true → b < 128
name_byte_low b h = grind (arith, nat_tests)

first_byte_low : (b : ℕ) → is_first_byte b ≡ true → b < 128
first_byte_low b h = grind (arith, nat_tests)

bytes_ascii : (bs : List ℕ) → list_all is_name_byte bs ≡ true → IsAscii bs
bytes_ascii [] h = IsAscii-nil
bytes_ascii (b ∷ bs) h = step (is_name_byte b) refl h (bytes_ascii bs)
  where
    step : (t : Bool) → is_name_byte b ≡ t → (t && list_all is_name_byte bs) ≡ true →
        (list_all is_name_byte bs ≡ true → IsAscii bs) → IsAscii (b ∷ bs)
    step true e all more = IsAscii-cons b bs (name_byte_low b e) (more all)
    step false e all more = cc

all_three : (a b c : Bool) → (a && b && c) ≡ true → (a ≡ true) × (b ≡ true) × (c ≡ true)
all_three true true true h = (refl, refl, refl)
all_three _ _ _ h = cc

name_ascii : (x : List ℕ) → IsPlainName x → IsAscii x
name_ascii [] h = IsAscii-nil
name_ascii (b ∷ bs) h =
    let all = all_three (nat_le (length (b ∷ bs)) 63) (is_first_byte b) (list_all is_name_byte bs) h.0 in
    IsAscii-cons b bs (first_byte_low b all.1) (bytes_ascii bs all.2)

suffix_ascii : (kind : Kind) → IsAscii (suffix kind)
suffix_ascii U32 = tested (codes "u") refl
suffix_ascii _ = IsAscii-nil

spelling_ascii : (p : Piece) → IsSound (kind_of p) → IsAscii (spelling p)
spelling_ascii (word which) h = word_ascii which
spelling_ascii (sign s) h = sign_ascii s
spelling_ascii (end_of_line s) h = sign_ascii s
spelling_ascii (named x) h = name_ascii x h
spelling_ascii (number n kind) h = let small = literal_small n kind h in
    IsAscii-append (decimal n) (suffix kind) (IsAscii-decimal n (omega arith)) (suffix_ascii kind)
spelling_ascii (plain_number n) h = let small = literal_small n (literal_kind false n) h in
    IsAscii-decimal n (omega arith)

separator_low : (p : Piece) → separator p < 128
separator_low (end_of_line s) = omega arith
separator_low _ = omega arith

pub text_ascii : (ps : List Piece) → SoundPieces ps → IsAscii (text ps)
text_ascii [] h = IsAscii-nil
text_ascii (p ∷ ps) h =
    IsAscii-append (spelling p) (separator p ∷ text ps) (spelling_ascii p h.0)
    (IsAscii-cons (separator p) (text ps) (separator_low p) (text_ascii ps h.1))
