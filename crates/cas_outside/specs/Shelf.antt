-- Texts by their names: what a reading answers, and which names it leaves as failed.
use Rattle.std.specs.Prelude.{ℕ, ◌≡◌, ◌<◌, List, [], ◌∷◌, ◌++◌, length, map, Option, Some, None, Result, Ok, Err, IfSome, if◌then◌else◌, string_bytes}
use Rattle.std.specs.Str.{bytes_eq}
use Rattle.std.specs.declared.string.String.{String}
use Rattle.std.specs.declared.vec.Vec.{Vec}
use Rattle.std.specs.declared.alloc.Global.{Global}
use Rattle.cas_outside.specs.declared.shelf.ShelfFault.{ShelfFault}
use Rattle.cas_outside.specs.declared.shelf.ShelfFault.TheVariants.{Failed, TooLong, Memory}
use Rattle.cas_outside.specs.Calls.{calls_after}

-- names and their texts, as bytes
abbrev pub Texts : Type 0
Texts = List (List ℕ × List ℕ)

-- the text of a name, which is the first where the name stands more than once
abbrev pub text_of : Texts → List ℕ → Option (List ℕ)
text_of [] name = None
text_of (entry ∷ rest) name = if bytes_eq entry.0 name then Some entry.1 else text_of rest name

-- the text is that of the name, where the texts are told
abbrev pub Tells : Option Texts → List ℕ → List ℕ → Type 0
Tells texts name text = IfSome texts (λ held. text_of held name ≡ Some text)

-- the name has a text that is longer than the limit
abbrev pub HoldsLonger : Texts → List ℕ → ℕ → Type 0
HoldsLonger held name limit = (text : List ℕ) × (text_of held name ≡ Some text) × (limit < length text)

-- the name has a text that is longer than the limit, where the texts are told
abbrev pub TellsLonger : Option Texts → List ℕ → ℕ → Type 0
TellsLonger texts name limit = IfSome texts (λ held. HoldsLonger held name limit)

-- the failed names after a read of this name answered so
abbrev pub failed_after : List (List ℕ) → List ℕ → Result (Vec ℕ Global) ShelfFault → List (List ℕ)
failed_after failed name (Ok text) = failed
failed_after failed name (Err Failed) = failed ++ name ∷ []
failed_after failed name (Err TooLong) = failed
failed_after failed name (Err Memory) = failed

-- the reading failed, or there was no memory to keep the name
abbrev pub IsFailure : Result (Vec ℕ Global) ShelfFault → Type 0
IsFailure (Ok text) = ⊥
IsFailure (Err Failed) = Unit {0}
IsFailure (Err TooLong) = ⊥
IsFailure (Err Memory) = Unit {0}

-- a memory shelf: its texts, the numbers of the calls that fail, how many calls were made, and the failed names
pub record ShelfState : Type 0 where
  pub texts : Texts
  pub failing : List ℕ
  pub calls : ℕ
  pub failed : List (List ℕ)

-- a memory shelf after a read of this name answered so
abbrev pub shelf_after : ShelfState → List ℕ → Result (Vec ℕ Global) ShelfFault → ShelfState
shelf_after shelf name answer =
    record shelf { calls = calls_after shelf.calls; failed = failed_after shelf.failed name answer }

-- names, as bytes
abbrev pub names_as_bytes : List (String Global) → List (List ℕ)
names_as_bytes names = map (λ name. string_bytes name) names

-- pairs of a name and its text, as bytes
abbrev pub texts_of : List (String Global × Vec ℕ Global) → Texts
texts_of [] = []
texts_of (entry ∷ rest) = (string_bytes entry.0, entry.1.items) ∷ texts_of rest
