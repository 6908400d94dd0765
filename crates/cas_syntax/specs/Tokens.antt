-- Tokens as the grammar writes them.
use Rattle.std.specs.Prelude.{ℕ, Bool, true, false, ◌&&◌, List, [], ◌∷◌}
use Rattle.cas_base.specs.declared.kind.Kind.{Kind}
use Rattle.cas_base.specs.declared.place.Place.{Place}
use Rattle.cas_lex.specs.declared.token.Token.{Token}
use Rattle.cas_lex.specs.declared.token.TokenKind.{TokenKind}
use Rattle.cas_lex.specs.declared.token.TokenKind.TheVariants as k
use Rattle.cas_lex.specs.declared.token.Word.{Word}
use Rattle.cas_lex.specs.declared.token.Sign.{Sign}
use Rattle.cas_lex.specs.declared.token.Sign.TheVariants.{OpenParen}
use Rattle.cas_syntax.specs.declared.tree.Ident.{Ident}

-- a word at its place
abbrev pub word : Word → Place → Token
word w p = record { kind = k.Word w; place = p }

-- a sign at its place
abbrev pub sign : Sign → Place → Token
sign s p = record { kind = k.Sign s; place = p }

-- a name at its place
abbrev pub ident : Ident → Token
ident x = record { kind = k.Name x.name; place = x.place }

-- a literal at its place: its value, and its kind
abbrev pub number : ℕ → Kind → Place → Token
number n kind p = record { kind = k.Literal n kind; place = p }

abbrev pub is_name : TokenKind → Bool
is_name (k.Name n) = true
is_name kind = false

abbrev pub is_opening_paren : TokenKind → Bool
is_opening_paren (k.Sign OpenParen) = true
is_opening_paren kind = false

-- whether tokens begin as a call does: with a name and `(`
abbrev pub begins_call : List Token → Bool
begins_call (t ∷ u ∷ ts) = is_name t.kind && is_opening_paren u.kind
begins_call ts = false
