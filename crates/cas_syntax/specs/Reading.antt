-- What a text of a module is read as, and its first fault.
use Rattle.std.specs.Prelude.{◌≡◌, ◌⊎◌, ℕ, Bool, true, false, List, [], ◌∷◌, ◌++◌, length, Option, Some, None}
use Rattle.std.specs.List.{list_any}
use Rattle.cas_base.specs.declared.place.Place.{Place}
use Rattle.cas_lex.specs.declared.code.ReadCode.{ReadCode}
use Rattle.cas_lex.specs.declared.code.ReadCode.TheVariants.{R5, R6, R7, R8}
use Rattle.cas_lex.specs.declared.token.Token.{Token}
use Rattle.cas_lex.specs.declared.token.TokenKind.{TokenKind}
use Rattle.cas_lex.specs.declared.token.TokenKind.TheVariants as k
use Rattle.cas_lex.specs.declared.token.Word.TheVariants as w
use Rattle.cas_lex.specs.declared.token.Sign.TheVariants as sg
use Rattle.cas_lex.specs.Lexed.{HasTokens, HasFault}
use Rattle.cas_lex.specs.Places.{start, behind}
use Rattle.cas_syntax.specs.declared.limits.TheConstants.{DEPTH_LIMIT, TOKEN_LIMIT}
use Rattle.cas_syntax.specs.Tree.{ItemTree, ModuleTree}
use Rattle.cas_syntax.specs.Limits.{Limits}
use Rattle.cas_syntax.specs.Tokens.{sign}
use Rattle.cas_syntax.specs.Items.{SpellsItems}

-- the limits, asked of tokens behind which so many stand
abbrev pub within : (cut : ℕ) → Limits
within cut = record { depth = DEPTH_LIMIT; tokens = TOKEN_LIMIT; cut = cut; left_out = None }

-- no limits for so many tokens
abbrev pub without : (count : ℕ) → (left_out : Option ℕ) → Limits
without count left_out = record { depth = DEPTH_LIMIT; tokens = TOKEN_LIMIT; cut = count; left_out = left_out }

-- these tokens are a whole module
abbrev pub IsModule : List ItemTree → List Token → Type 0
IsModule items tokens = SpellsItems (within 0) items tokens []

-- some module begins so; the limits are asked of these tokens
abbrev pub Begins : List Token → Type 0
Begins tokens = (items : List ItemTree) × (others : List Token)
    × SpellsItems (within (length others)) items (tokens ++ others) []

-- some module would begin so, were there no limits
abbrev pub BeginsUnlimited : List Token → Type 0
BeginsUnlimited tokens =
    (items : List ItemTree) × (others : List Token) × SpellsItems (without (length (tokens ++ others)) None) items
    (tokens ++ others) []

-- some module would begin so, were there no limits, and had the language the form that the last of these tokens shows
abbrev pub BeginsLeftOut : List Token → Type 0
BeginsLeftOut tokens =
    (items : List ItemTree) × (others : List Token) ×
    SpellsItems (without (length (tokens ++ others)) (Some (length others))) items (tokens ++ others) []

-- an opening brace
abbrev pub is_opening_brace : TokenKind → Bool
is_opening_brace (k.Sign sg.OpenBrace) = true
is_opening_brace _ = false

-- no opening brace is among these tokens
abbrev pub OpensNothing : List Token → Type 0
OpensNothing tokens = list_any (λ t. is_opening_brace t.kind) tokens ≡ false

-- these tokens end inside a function's body: without a further opening brace, a closing one can end the module
abbrev pub EndsInBody : List Token → Type 0
EndsInBody tokens =
    (items : List ItemTree) × (others : List Token) × (p : Place) × OpensNothing others ×
    SpellsItems (without (length (tokens ++ others ++ sign sg.CloseBrace p ∷ [])) None) items
    (tokens ++ others ++ sign sg.CloseBrace p ∷ []) []

-- behind these tokens the token shows a form that is left out by name
abbrev pub ShowsLeftOut : (front : List Token) → Token → Type 0
ShowsLeftOut front t = BeginsLeftOut (front ++ t ∷ []) ⊎ ((t.kind ≡ k.Word w.Const) × EndsInBody front)

-- why a token can't stand behind these tokens, with which a module begins
pub data IsWrong (front : List Token) (t : Token) : ReadCode → Type 0 where
  too_many : BeginsUnlimited (front ++ t ∷ []) → ¬ (Begins (front ++ t ∷ [])) → IsWrong front t R8
  left_out : ShowsLeftOut front t → ¬ (BeginsUnlimited (front ++ t ∷ [])) → IsWrong front t R7
  no_module : ¬ (ShowsLeftOut front t) → ¬ (BeginsUnlimited (front ++ t ∷ [])) → IsWrong front t R5

-- the first fault of tokens, and its place; the last is that where the text ends
pub data HasSyntaxFault : List Token → (end : Place) → ReadCode → Place → Type 0 where
  at_token : (front rest : List Token) (t : Token) (end : Place) (code : ReadCode) → Begins front →
      IsWrong front t code →
      HasSyntaxFault (front ++ t ∷ rest) end code t.place
  at_end : (tokens : List Token) (end : Place) → Begins tokens → ((items : List ItemTree) → ¬ (IsModule items tokens)) →
      HasSyntaxFault tokens end R6 end

-- the text is read as this module
abbrev pub IsReadAs : (text : List ℕ) → ModuleTree → Type 0
IsReadAs text m = (tokens : List Token) × HasTokens text tokens × IsModule m.items tokens

-- the first fault of a text
pub data HasReadFault (text : List ℕ) : ReadCode → Place → Type 0 where
  lexical : (code : ReadCode) (p : Place) → HasFault text code p → HasReadFault text code p
  syntactic : (tokens : List Token) (code : ReadCode) (p : Place) → HasTokens text tokens →
      HasSyntaxFault tokens (behind start text) code p → HasReadFault text code p
