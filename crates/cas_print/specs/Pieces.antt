-- The tokens of canonical texts, and the text that they make: each is followed by a space, but the last of a line by a
-- line
-- feed.
use Rattle.std.specs.Prelude.{ℕ, false, List, [], ◌∷◌, ◌++◌, codes}
use Rattle.std.specs.Fmt.{decimal}
use Rattle.cas_base.specs.declared.kind.Kind.{Kind}
use Rattle.cas_base.specs.declared.kind.Kind.TheVariants.{U32}
use Rattle.cas_lex.specs.declared.token.TokenKind.{TokenKind}
use Rattle.cas_lex.specs.declared.token.TokenKind.TheVariants as k
use Rattle.cas_lex.specs.declared.token.Word.{Word}
use Rattle.cas_lex.specs.declared.token.Sign.{Sign}
use Rattle.cas_lex.specs.Literals.{literal_kind}
use Rattle.cas_lex.specs.Spellings.{word_spelling, sign_spelling}

-- a token of a canonical text
pub data Piece : Type 0 where
  word : Word → Piece
  sign : Sign → Piece
  -- a sign that ends its line
  end_of_line : Sign → Piece
  named : List ℕ → Piece
  -- a literal of an expression
  number : (value : ℕ) → Kind → Piece
  -- a length or an initial value
  plain_number : ℕ → Piece

-- which token it is
abbrev pub kind_of : Piece → TokenKind
kind_of (word w) = k.Word w
kind_of (sign s) = k.Sign s
kind_of (end_of_line s) = k.Sign s
kind_of (named x) = k.Name x
kind_of (number n kind) = k.Literal n kind
kind_of (plain_number n) = k.Literal n (literal_kind false n)

-- what follows a number of the kind: `u` behind an unsigned one
abbrev pub suffix : Kind → List ℕ
suffix U32 = codes "u"
suffix _ = []

-- its bytes: numbers are decimal, and lengths and initial values have no `u`
abbrev pub spelling : Piece → List ℕ
spelling (word w) = word_spelling w
spelling (sign s) = sign_spelling s
spelling (end_of_line s) = sign_spelling s
spelling (named x) = x
spelling (number n kind) = decimal n ++ suffix kind
spelling (plain_number n) = decimal n

-- the byte behind it: a line feed, or else a space
abbrev pub separator : Piece → ℕ
separator (end_of_line s) = 10
separator _ = 32

-- the text of pieces
abbrev pub text : List Piece → List ℕ
text [] = []
text (p ∷ ps) = spelling p ++ separator p ∷ text ps
