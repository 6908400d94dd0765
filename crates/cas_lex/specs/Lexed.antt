-- The tokens of a text, with the places where they begin, and its first lexical fault.
use Rattle.std.specs.Prelude.{◌≢◌, ◌≡◌, ◌⊎◌, ℕ, List, [], ◌∷◌, take, drop, IsUtf8}
use Rattle.std.specs.Str.Lossy.{utf8_valid_len}
use Rattle.cas_base.specs.declared.place.Place.{Place}
use Rattle.cas_lex.specs.declared.code.ReadCode.{ReadCode}
use Rattle.cas_lex.specs.declared.code.ReadCode.TheVariants.{R1}
use Rattle.cas_lex.specs.declared.token.TokenKind.{TokenKind}
use Rattle.cas_lex.specs.declared.token.Token.{Token}
use Rattle.cas_lex.specs.declared.front.Front.TheVariants as f
use Rattle.cas_lex.specs.Front.{front}
use Rattle.cas_lex.specs.Places.{start, behind}

-- where the tokens of a text stop: at its end, or at the first fault
pub data Stop : Type 0 where
  at_end : Stop
  at_fault : ReadCode → Place → Stop

-- from this place on a text has these tokens, and then they stop
pub data Lexed : Place → List ℕ → List Token → Stop → Type 0 where
  ends : (p : Place) → Lexed p [] [] at_end
  skips : (p : Place) (text : List ℕ) (n : ℕ) (tokens : List Token) (stop : Stop) → text ≢ [] → front text ≡ f.Blank n →
      Lexed (behind p (take n text)) (drop n text) tokens stop → Lexed p text tokens stop
  takes : (p : Place) (text : List ℕ) (kind : TokenKind) (n : ℕ) (tokens : List Token) (stop : Stop) → text ≢ [] →
      front text ≡ f.Token kind n → Lexed (behind p (take n text)) (drop n text) tokens stop →
      Lexed p text (record { kind = kind; place = p } ∷ tokens) stop
  fails : (p : Place) (text : List ℕ) (code : ReadCode) → text ≢ [] → front text ≡ f.Fault code →
      Lexed p text [] (at_fault code p)

-- a text without a lexical fault has these tokens
abbrev pub HasTokens : List ℕ → List Token → Type 0
HasTokens text tokens = IsUtf8 text × Lexed start text tokens at_end

-- the first lexical fault of a text: that it isn't UTF-8, behind its longest front that is, or else the first from left
-- to right
pub data HasFault : List ℕ → ReadCode → Place → Type 0 where
  broken : (text : List ℕ) (p : Place) → ¬ (IsUtf8 text) → p ≡ behind start (take (utf8_valid_len text) text) →
      HasFault text R1 p
  met : (text : List ℕ) (tokens : List Token) (code : ReadCode) (p : Place) → IsUtf8 text →
      Lexed start text tokens (at_fault code p) → HasFault text code p

-- a text has tokens, or a first lexical fault
abbrev pub IsLexed : List ℕ → Type 0
IsLexed text =
    ((tokens : List Token) × HasTokens text tokens) ⊎ ((code : ReadCode) × (p : Place) × HasFault text code p)
