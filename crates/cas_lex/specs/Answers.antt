-- What the lexer answers.
use Rattle.std.specs.Prelude.{◌≡◌, ◌⊎◌, ℕ, List, Result, Ok, Err, Vec, IsErrAnd, MatchResult}
use Rattle.std.specs.declared.alloc.Global.{Global}
use Rattle.cas_base.specs.declared.place.Place.{Place}
use Rattle.cas_lex.specs.declared.code.ReadCode.{ReadCode}
use Rattle.cas_lex.specs.declared.token.Token.{Token}
use Rattle.cas_lex.specs.declared.fault.LexFault.{LexFault}
use Rattle.cas_lex.specs.declared.fault.LexFault.TheVariants.{Memory, At}
use Rattle.cas_lex.specs.Lexed.{HasTokens, HasFault}

-- an answer of the lexer
abbrev pub Answer : Type 0
Answer = Result (Vec Token Global) LexFault

-- a fact for a fault at a place
abbrev pub IfAt : (ReadCode → Place → Type 0) → LexFault → Type 0
IfAt P (At code place) = P code place
IfAt P Memory = Unit {0}

-- an answer that a text may get: its tokens, its first fault, or want of memory
abbrev pub IsAnswer : List ℕ → Answer → Type 0
IsAnswer text (Ok tokens) = HasTokens text tokens.items
IsAnswer text (Err fault) = IfAt (HasFault text) fault

-- these tokens, or want of memory
abbrev pub IsTokens : List Token → Answer → Type 0
IsTokens tokens answer = MatchResult answer (λ found. found.items ≡ tokens) (λ fault. fault ≡ Memory)

-- this fault, or want of memory
abbrev pub IsFault : ReadCode → Place → Answer → Type 0
IsFault code place answer = IsErrAnd answer (λ fault. (fault ≡ Memory) ⊎ (fault ≡ At code place))
