-- The literals among the tokens of a text are words.
use Rattle.std.proofs.Common.{◌≡◌, ℕ, ◌+◌, ◌<◌, ◌^◌, List, [], ◌∷◌, Bool, true, false, not, nat_eq, nat_lt, if◌then◌else◌, length, drop, take_while, codes, Option, None, Some, refl, subst, arith}
use Rattle.std.specs.Prelude.{⊤}
use Rattle.std.specs.Char.{is_ascii_digit, is_ascii_hexdigit}
use Rattle.std.specs.List.{starts_with}
use Rattle.std.specs.Str.Parse.{digits_value}
use Rattle.std.proofs.lemmas.Bool.Decides.{nat_tests}
use Rattle.cas_base.specs.Name.{is_first_byte, is_name_byte}
use Rattle.cas_base.specs.declared.place.Place.{Place}
use Rattle.cas_lex.specs.declared.code.ReadCode.TheVariants.{R4, R7}
use Rattle.cas_lex.specs.declared.front.Front.{Front}
use Rattle.cas_lex.specs.declared.front.Front.TheVariants as f
use Rattle.cas_lex.specs.declared.token.Sign.{Sign}
use Rattle.cas_lex.specs.declared.token.Token.{Token}
use Rattle.cas_lex.specs.declared.token.TokenKind.{TokenKind}
use Rattle.cas_lex.specs.declared.token.TokenKind.TheVariants as k
use Rattle.cas_lex.specs.declared.token.Word.{Word}
use Rattle.cas_lex.specs.Characters.{is_blank, is_character}
use Rattle.cas_lex.specs.Comments.{block_comment_len}
use Rattle.cas_lex.specs.Front.{block_comment, word_or_name, name_at, sign_front, mark_at, front_at, front}
use Rattle.cas_lex.specs.Lexed.{Stop, Lexed, ends, skips, takes, fails}
use Rattle.cas_lex.specs.Literals.{begins_with_u, begins_with_letter, ended_literal, literal_before, is_hexadecimal, is_octal, literal_at}
use Rattle.cas_lex.specs.Spellings.{word_of, is_left_out, sign_at}

-- a token that is no literal, or one whose value is a word
abbrev pub IsWordToken : TokenKind → Type 0
IsWordToken (k.Name x) = ⊤
IsWordToken (k.Literal n kind) = n < 2 ^ 32
IsWordToken (k.Word w) = ⊤
IsWordToken (k.Sign s) = ⊤

-- tokens that are so
pub data HaveWords : List Token → Type 0 where
  no_token : HaveWords []
  and_more : (t : Token) (ts : List Token) → IsWordToken t.kind → HaveWords ts → HaveWords (t ∷ ts)

pub first_of : {t : Token} {ts : List Token} → HaveWords (t ∷ ts) → IsWordToken t.kind
first_of (and_more t ts is rest) = is

pub rest_of : {t : Token} {ts : List Token} → HaveWords (t ∷ ts) → HaveWords ts
rest_of (and_more t ts is rest) = rest

-- a front that is such a token, if any
abbrev IsWordFront : Front → Type 0
IsWordFront (f.Blank n) = ⊤
IsWordFront (f.Token kind n) = IsWordToken kind
IsWordFront (f.Fault code) = ⊤

choose : (t : Bool) (x y : Front) → IsWordFront x → (t ≡ false → IsWordFront y) → IsWordFront (if t then x else y)
choose true x y passes others = passes
choose false x y passes others = others refl

name_words : (text : List ℕ) → IsWordFront (name_at text)
name_words text = choose (is_left_out text) (f.Fault R7) (word_or_name (word_of text) text) tt
    (λ _. either (word_of text))
  where
    either : (w : Option Word) → IsWordFront (word_or_name w text)
    either (Some w) = tt
    either None = choose (nat_lt 63 (length text)) (f.Fault R4) (f.Token (k.Name text) (length text)) tt (λ _. tt)

ended_words : (value : ℕ) (has_u : Bool) (n : ℕ) (after : List ℕ) → value < 2 ^ 32 →
    IsWordFront (ended_literal value has_u n after)
ended_words value has_u n after small = choose (begins_with_letter after) _ _ tt (λ _. small)

not_greater : (value : ℕ) → nat_lt 4294967295 value ≡ false → value < 2 ^ 32
not_greater value h = grind (arith, nat_tests)

before_words : (value n : ℕ) (after : List ℕ) → IsWordFront (literal_before value n after)
before_words value n after = choose (nat_lt 4294967295 value) _ _ tt
    (λ h. either (begins_with_u after) (not_greater value h))
  where
    either : (t : Bool) → value < 2 ^ 32 → IsWordFront
        (if t then ended_literal value true (n + 1) (drop 1 after) else ended_literal value false n after)
    either true small = ended_words value true (n + 1) (drop 1 after) small
    either false small = ended_words value false n after small

literal_words : (text : List ℕ) → IsWordFront (literal_at text)
literal_words text =
    choose (is_hexadecimal text) _ _ (hexadecimal (drop 2 text))
    (λ _. choose (is_octal (take_while is_ascii_digit text)) _ _ tt (λ _. decimal (take_while is_ascii_digit text)))
  where
    hexadecimal : (rest : List ℕ) →
        IsWordFront (literal_before (digits_value 16 (take_while is_ascii_hexdigit rest))
        (2 + length (take_while is_ascii_hexdigit rest)) (drop (length (take_while is_ascii_hexdigit rest)) rest))
    hexadecimal rest = before_words (digits_value 16 (take_while is_ascii_hexdigit rest))
        (2 + length (take_while is_ascii_hexdigit rest)) (drop (length (take_while is_ascii_hexdigit rest)) rest)

    decimal : (digits : List ℕ) →
        IsWordFront (literal_before (digits_value 10 digits) (length digits) (drop (length digits) text))
    decimal digits = before_words (digits_value 10 digits) (length digits) (drop (length digits) text)

comment_words : (n : Option ℕ) → IsWordFront (block_comment n)
comment_words (Some n) = tt
comment_words None = tt

sign_words : (s : Option Sign) → IsWordFront (sign_front s)
sign_words (Some s) = tt
sign_words None = tt

mark_words : (b : ℕ) (text : List ℕ) → IsWordFront (mark_at b text)
unfolding mark_at
mark_words b text =
    choose (is_blank b) _ _ tt (λ _.
    choose (not (is_character b)) _ _ tt (λ _.
    choose (starts_with nat_eq text (codes "//")) _ _ tt (λ _.
    choose (starts_with nat_eq text (codes "/*")) _ _ (comment_words (block_comment_len text)) (λ _.
    choose (starts_with nat_eq text (codes "->")) _ _ tt (λ _. sign_words (sign_at text))))))

front_at_words : (b : ℕ) (text : List ℕ) → IsWordFront (front_at b text)
unfolding front_at
front_at_words b text =
    choose (is_first_byte b) _ _ (name_words (take_while is_name_byte text)) (λ _.
    choose (is_ascii_digit b) _ _ (literal_words text) (λ _. mark_words b text))

front_words : (text : List ℕ) → IsWordFront (front text)
front_words [] = tt
front_words (b ∷ bs) = front_at_words b (b ∷ bs)

pub lexed_words : {p : Place} {text : List ℕ} {tokens : List Token} {stop : Stop} → Lexed p text tokens stop →
    HaveWords tokens
lexed_words (ends p) = no_token
lexed_words (skips p text n tokens stop some is h) = lexed_words h
lexed_words (takes p text kind n tokens stop some is h) =
    and_more _ tokens (found (front text) is (front_words text)) (lexed_words h)
  where
    found : (x : Front) → x ≡ f.Token kind n → IsWordFront x → IsWordToken kind
    found x e w = subst IsWordFront e w
lexed_words (fails p text code some is) = no_token
