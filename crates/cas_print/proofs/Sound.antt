-- What tokens of a text are: names are of a name's shape and no words, and literals are of 32 bits.
use Rattle.std.proofs.Common.{◌≡◌, ℕ, ◌≤◌, List, [], ◌∷◌, true, false, None, arith}
use Rattle.cas_base.specs.Name.{is_name}
use Rattle.cas_base.specs.declared.kind.Kind.{Kind}
use Rattle.cas_base.specs.declared.kind.Kind.TheVariants.{I32, U32}
use Rattle.cas_lex.specs.declared.token.Token.{Token}
use Rattle.cas_lex.specs.declared.token.TokenKind.{TokenKind}
use Rattle.cas_lex.specs.declared.token.TokenKind.TheVariants as k
use Rattle.cas_lex.specs.Spellings.{word_of, is_left_out}
use Rattle.cas_print.specs.Pieces.{Piece, kind_of}

-- a name that is no word
abbrev pub IsPlainName : List ℕ → Type 0
IsPlainName x = (is_name x ≡ true) × (is_left_out x ≡ false) × (word_of x ≡ None)

-- the value of a literal of this kind
abbrev pub IsLiteral : ℕ → Kind → Type 0
IsLiteral n I32 = n ≤ 2147483647
IsLiteral n U32 = n ≤ 4294967295
IsLiteral n _ = ⊥

-- a token that a text may have
abbrev pub IsSound : TokenKind → Type 0
IsSound (k.Name x) = IsPlainName x
IsSound (k.Literal n kind) = IsLiteral n kind
IsSound _ = Unit {0}

-- all these tokens are such
abbrev pub Sound : List Token → Type 0
Sound [] = Unit {0}
Sound (t ∷ ts) = IsSound t.kind × Sound ts

-- and all these pieces
abbrev pub SoundPieces : List Piece → Type 0
SoundPieces [] = Unit {0}
SoundPieces (p ∷ ps) = IsSound (kind_of p) × SoundPieces ps

-- a literal's value is of 32 bits
pub literal_small : (n : ℕ) (kind : Kind) → IsLiteral n kind → n ≤ 4294967295
literal_small n I32 h = omega arith
literal_small n U32 h = h
literal_small n _ h = absurd h
