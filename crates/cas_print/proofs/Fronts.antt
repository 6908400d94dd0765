-- Each token that the lexer takes is such as a text may have.
use Rattle.std.proofs.Common.{◌≡◌, ℕ, ◌+◌, ◌≤◌, List, [], ◌∷◌, length, drop, take_while, Bool, true, false, not, nat_lt, if◌then◌else◌, Option, Some, None, refl, subst, arith, codes, nat_eq}
use Rattle.std.specs.Char.{is_ascii_digit, is_ascii_hexdigit}
use Rattle.std.specs.Str.Parse.{digits_value}
use Rattle.std.specs.List.{list_all, starts_with}
use Rattle.std.proofs.lemmas.Bool.Decides.{nat_tests}
use Rattle.cas_base.specs.Name.{is_first_byte, is_name_byte}
use Rattle.cas_base.specs.declared.kind.Kind.TheVariants.{I32, U32}
use Rattle.cas_base.specs.declared.place.Place.{Place}
use Rattle.cas_lex.specs.declared.front.Front.{Front}
use Rattle.cas_lex.specs.declared.front.Front.TheVariants as f
use Rattle.cas_lex.specs.declared.token.Token.{Token}
use Rattle.cas_lex.specs.declared.token.Word.{Word}
use Rattle.cas_lex.specs.declared.token.Sign.{Sign}
use Rattle.cas_lex.specs.Characters.{is_blank, is_character}
use Rattle.cas_lex.specs.Front.{block_comment, word_or_name, name_at, sign_front, mark_at, front_at, front}
use Rattle.cas_lex.specs.Lexed.{Stop, Lexed, ends, skips, takes, fails}
use Rattle.cas_lex.specs.Literals.{literal_kind, begins_with_u, begins_with_letter, ended_literal, literal_before, is_hexadecimal, is_octal, literal_at}
use Rattle.cas_lex.specs.Spellings.{word_of, is_left_out}
use Rattle.cas_lex.proofs.Names.{list_all-take_while, begins-take_while, is_name-from}
use Rattle.cas_print.proofs.Sound.{IsSound, IsLiteral, Sound}

-- a token that may stand in a text, if one is taken
abbrev SoundFront : Front → Type 0
SoundFront (f.Blank n) = Unit {0}
SoundFront (f.Token kind n) = IsSound kind
SoundFront (f.Fault code) = Unit {0}

either : (b : Bool) (x y : Front) → (b ≡ true → SoundFront x) → (b ≡ false → SoundFront y) →
    SoundFront (if b then x else y)
either true x y first second = first refl
either false x y first second = second refl

literal_sound : (u : Bool) (n : ℕ) → n ≤ 4294967295 → IsLiteral n (literal_kind u n)
literal_sound true n h = h
literal_sound false n h = by_test (nat_lt 2147483647 n) refl
  where
    by_test : (b : Bool) → nat_lt 2147483647 n ≡ b → IsLiteral n (if b then U32 else I32)
    by_test true e = h
    by_test false e = grind (arith, nat_tests)

ended_sound : (value : ℕ) (u : Bool) (n : ℕ) (after : List ℕ) → value ≤ 4294967295 →
    SoundFront (ended_literal value u n after)
ended_sound value u n after h = either (begins_with_letter after) _ _ (λ e. tt) (λ e. literal_sound u value h)

before_sound : (value n : ℕ) (after : List ℕ) → SoundFront (literal_before value n after)
before_sound value n after =
    either (nat_lt 4294967295 value) _ _ (λ e. tt) (λ e.
    let small : value ≤ 4294967295 = grind (arith, nat_tests) in
    either (begins_with_u after) _ _ (λ d. ended_sound value true (n + 1) (drop 1 after) small)
    (λ d. ended_sound value false n after small))

literal_front : (text : List ℕ) → SoundFront (literal_at text)
literal_front text =
    let rest = drop 2 text in
    let digits = take_while is_ascii_hexdigit rest in
    let decimals = take_while is_ascii_digit text in
    either (is_hexadecimal text) _ _ (λ e. before_sound (digits_value 16 digits) (2 + length digits)
    (drop (length digits) rest))
    (λ e. either (is_octal decimals) _ _ (λ d. tt) (λ d. before_sound (digits_value 10 decimals) (length decimals)
    (drop (length decimals) text)))

word_or_name_sound : (found : Option Word) (text : List ℕ) → word_of text ≡ found → begins_with_letter text ≡ true →
    list_all is_name_byte text ≡ true → is_left_out text ≡ false →
    SoundFront (word_or_name found text)
word_or_name_sound (Some w) text is begins all kept = tt
word_or_name_sound None text is begins all kept =
    either (nat_lt 63 (length text)) _ _ (λ e. tt)
    (λ e. (is_name-from text begins all (grind (arith, nat_tests)), kept, is))

name_front : (b : ℕ) (bs : List ℕ) → is_first_byte b ≡ true → SoundFront (name_at (take_while is_name_byte (b ∷ bs)))
name_front b bs first =
    let text = take_while is_name_byte (b ∷ bs) in
    either (is_left_out text) _ _ (λ e. tt)
    (λ e. word_or_name_sound (word_of text) text refl (begins-take_while b bs first)
    (list_all-take_while is_name_byte (b ∷ bs)) e)

comment_sound : (found : Option ℕ) → SoundFront (block_comment found)
comment_sound (Some n) = tt
comment_sound None = tt

sign_sound : (found : Option Sign) → SoundFront (sign_front found)
sign_sound (Some s) = tt
sign_sound None = tt

mark_sound : (b : ℕ) (text : List ℕ) → SoundFront (mark_at b text)
unfolding mark_at
mark_sound b text =
    either (is_blank b) _ _ (λ e. tt) (λ e.
    either (not (is_character b)) _ _ (λ e. tt) (λ e.
    either (starts_with nat_eq text (codes "//")) _ _ (λ e. tt) (λ e.
    either (starts_with nat_eq text (codes "/*")) _ _ (λ e. comment_sound _) (λ e.
    either (starts_with nat_eq text (codes "->")) _ _ (λ e. tt) (λ e. sign_sound _)))))

front_sound : (text : List ℕ) → SoundFront (front text)
unfolding front_at
front_sound [] = tt
front_sound (b ∷ bs) =
    either (is_first_byte b) _ _ (λ e. name_front b bs e) (λ e.
    either (is_ascii_digit b) _ _ (λ e. literal_front (b ∷ bs)) (λ e. mark_sound b (b ∷ bs)))

-- all tokens of a text are such
pub lexed_sound : (p : Place) (text : List ℕ) (tokens : List Token) (stop : Stop) → Lexed p text tokens stop →
    Sound tokens
lexed_sound p text _ stop (ends _) = tt
lexed_sound p text tokens stop (skips _ _ n _ _ some is more) = lexed_sound _ _ tokens stop more
lexed_sound p text _ stop (takes _ _ kind n tokens _ some is more) =
    (subst SoundFront is (front_sound text), lexed_sound _ _ tokens stop more)
lexed_sound p text _ stop (fails _ _ code some is) = tt
