-- What stands at the front of a text: the longest token that begins it, what separates tokens, or a fault.
use Rattle.std.specs.Prelude.{ℕ, not, nat_eq, nat_lt, if◌then◌else◌, List, [], ◌∷◌, length, take_while, codes, Option, Some, None}
use Rattle.std.specs.Char.{is_ascii_digit}
use Rattle.std.specs.List.{starts_with}
use Rattle.cas_base.specs.Name.{is_first_byte, is_name_byte}
use Rattle.cas_lex.specs.declared.code.ReadCode.TheVariants.{R1, R2, R4, R7}
use Rattle.cas_lex.specs.declared.token.Word.{Word}
use Rattle.cas_lex.specs.declared.token.Sign.{Sign}
use Rattle.cas_lex.specs.declared.token.TokenKind.TheVariants as kind
use Rattle.cas_lex.specs.declared.front.Front.{Front}
use Rattle.cas_lex.specs.declared.front.Front.TheVariants.{Blank, Token, Fault}
use Rattle.cas_lex.specs.Characters.{is_blank, is_character}
use Rattle.cas_lex.specs.Comments.{block_comment_len, line_comment_len}
use Rattle.cas_lex.specs.Literals.{literal_at}
use Rattle.cas_lex.specs.Spellings.{word_of, is_left_out, sign_at, sign_spelling}

-- a comment that is closed after so many bytes, or never
abbrev pub block_comment : Option ℕ → Front
block_comment (Some n) = Blank n
block_comment None = Fault R2

-- a word, or else the name with these bytes
abbrev pub word_or_name : Option Word → List ℕ → Front
word_or_name (Some w) text = Token (kind.Word w) (length text)
word_or_name None text = if nat_lt 63 (length text) then Fault R4 else Token (kind.Name text) (length text)

-- what a letter or `_` begins, with all letters, digits and `_` that follow
abbrev pub name_at : List ℕ → Front
name_at text = if is_left_out text then Fault R7 else word_or_name (word_of text) text

-- a sign, or else one of the characters that begin only forms that are left out: `.`, `'`, `"` and `#`
abbrev pub sign_front : Option Sign → Front
sign_front (Some s) = Token (kind.Sign s) (length (sign_spelling s))
sign_front None = Fault R7

-- what stands at the front of a text that begins with this byte, which begins no name and no literal
unfoldable pub mark_at : ℕ → List ℕ → Front
mark_at b text =
    if is_blank b then Blank 1 else (
    if not (is_character b) then Fault R1 else (
    if starts_with nat_eq text (codes "//") then Blank (line_comment_len text) else (
    if starts_with nat_eq text (codes "/*") then block_comment (block_comment_len text) else (
    if starts_with nat_eq text (codes "->") then Fault R7 else
    sign_front (sign_at text)))))

-- what stands at the front of a text that begins with this byte
unfoldable pub front_at : ℕ → List ℕ → Front
front_at b text =
    if is_first_byte b then name_at (take_while is_name_byte text) else (
    if is_ascii_digit b then literal_at text else
    mark_at b text)

-- what stands at the front of a text; at the front of the empty text nothing stands
abbrev pub front : List ℕ → Front
front [] = Blank 0
front (b ∷ bs) = front_at b (b ∷ bs)
