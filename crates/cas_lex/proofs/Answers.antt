-- An answer that a text may get is the only one, but for want of memory.
use Rattle.std.proofs.Common.{ℕ, List, Ok, Err, refl, inl, inr}
use Rattle.cas_base.specs.declared.place.Place.{Place}
use Rattle.cas_lex.specs.declared.code.ReadCode.{ReadCode}
use Rattle.cas_lex.specs.declared.token.Token.{Token}
use Rattle.cas_lex.specs.declared.fault.LexFault.TheVariants.{Memory, At}
use Rattle.cas_lex.specs.Answers.{Answer, IsAnswer, IsTokens, IsFault}
use Rattle.cas_lex.specs.Lexed.{HasTokens, HasFault}
use Rattle.cas_lex.proofs.Once.{HasTokens-once, HasTokens-no_fault, HasFault-once}

pub tokens-only : (text : List ℕ) (answer : Answer) → IsAnswer text answer → (tokens : List Token) →
    HasTokens text tokens → IsTokens tokens answer
tokens-only text (Ok found) h tokens k = HasTokens-once text found.items tokens h k
tokens-only text (Err Memory) h tokens k = refl
tokens-only text (Err (At code place)) h tokens k = absurd (HasTokens-no_fault text tokens code place k h)

pub fault-only : (text : List ℕ) (answer : Answer) → IsAnswer text answer → (code : ReadCode) (place : Place) →
    HasFault text code place → IsFault code place answer
fault-only text (Ok found) h code place k = absurd (HasTokens-no_fault text found.items code place h k)
fault-only text (Err Memory) h code place k = inl refl
fault-only text (Err (At c p)) h code place k = let same =
    HasFault-once text c code p place h k in inr (rw (same.0, same.1) refl)
