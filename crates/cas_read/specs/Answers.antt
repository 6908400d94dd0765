-- What the reader answers.
use Rattle.std.specs.Prelude.{◌≡◌, ◌⊎◌, ℕ, List, Result, Ok, Err, IsErrAnd, MatchResult}
use Rattle.cas_base.specs.declared.place.Place.{Place}
use Rattle.cas_lex.specs.declared.code.ReadCode.{ReadCode}
use Rattle.cas_lex.specs.declared.fault.LexFault.{LexFault}
use Rattle.cas_lex.specs.declared.fault.LexFault.TheVariants as lex
use Rattle.cas_syntax.specs.declared.tree.Module.{Module}
use Rattle.cas_syntax.specs.Reading.{IsReadAs, HasReadFault}
use Rattle.cas_syntax.specs.Tree.{ModuleTree, module_tree}
use Rattle.cas_read.specs.declared.read.ReadFault.{ReadFault}
use Rattle.cas_read.specs.declared.read.ReadFault.TheVariants.{Memory, At}

-- an answer of the reader
abbrev pub Answer : Type 0
Answer = Result Module ReadFault

-- the lexer's fault as the reader's
abbrev pub lexical_fault : LexFault → ReadFault
lexical_fault lex.Memory = Memory
lexical_fault (lex.At code place) = At code place

-- a fact for a fault at a place
abbrev pub IfAt : (ReadCode → Place → Type 0) → ReadFault → Type 0
IfAt P (At code place) = P code place
IfAt P Memory = Unit {0}

-- an answer that a text may get: the module that it is read as, its first fault, or want of memory
abbrev pub IsAnswer : List ℕ → Answer → Type 0
IsAnswer text (Ok m) = IsReadAs text (module_tree m)
IsAnswer text (Err fault) = IfAt (HasReadFault text) fault

-- this module, or want of memory
abbrev pub IsRead : ModuleTree → Answer → Type 0
IsRead m answer = MatchResult answer (λ found. module_tree found ≡ m) (λ fault. fault ≡ Memory)

-- this fault, or want of memory
abbrev pub IsFault : ReadCode → Place → Answer → Type 0
IsFault code place answer = IsErrAnd answer (λ fault. (fault ≡ Memory) ⊎ (fault ≡ At code place))
