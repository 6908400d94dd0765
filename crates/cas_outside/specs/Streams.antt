-- What is known of the system's files and streams.
use Rattle.std.specs.Prelude.{ℕ, ◌≡◌, ◌<◌, ◌≤◌, List, ◌++◌, length, Option, IfSome}
use Rattle.std.specs.Io.KnownBytes.{Appends, Consumes}
use Rattle.std.specs.declared.io.ErrorKind.{ErrorKind}
use Rattle.std.specs.declared.io.ErrorKind.TheVariants.{OutOfMemory}
use Rattle.cas_outside.specs.declared.shelf.ShelfFault.{ShelfFault}
use Rattle.cas_outside.specs.declared.shelf.ShelfFault.TheVariants.{Failed, Memory}

-- a stream: the bytes that its writer holds, where they are known, and the count of faults
pub record StreamState : Type 0 where
  pub written : Option (List ℕ)
  pub faults : ℕ

-- the text is all that the reader had left, where that is known
abbrev pub GivesAll : Option (List ℕ) → List ℕ → Type 0
GivesAll left text = IfSome left (λ bytes. text ≡ bytes)

-- the reader had more left than the limit, where that is known
abbrev pub GivesMore : Option (List ℕ) → ℕ → Type 0
GivesMore left limit = IfSome left (λ bytes. limit < length bytes)

-- the reader gave up to so many bytes, where what it has left is known
abbrev pub TakesAtMost : Option (List ℕ) → Option (List ℕ) → ℕ → Type 0
TakesAtMost old new most = (bytes : List ℕ) × Consumes old new bytes × (length bytes ≤ most)

-- known bytes grew by a first part of these
abbrev pub AppendsPrefix : Option (List ℕ) → Option (List ℕ) → List ℕ → Type 0
AppendsPrefix old new bytes = (part rest : List ℕ) × (bytes ≡ part ++ rest) × Appends old new part

-- why a shelf gives no text after an error of this kind
abbrev pub shelf_fault_of : ErrorKind → ShelfFault
shelf_fault_of OutOfMemory = Memory
shelf_fault_of _ = Failed
