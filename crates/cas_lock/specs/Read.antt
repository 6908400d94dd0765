-- The first fault of a lock text.
use Rattle.std.specs.Prelude.{ℕ, ◌+◌, List, [], ◌∷◌, ◌++◌, length, Option, Some, None}
use Rattle.std.specs.Option.{option_map}
use Rattle.cas_pieces.specs.Lines.{lines}
use Rattle.cas_pieces.specs.Pieces.{pieces}
use Rattle.cas_lock.specs.declared.body.Label.{Label}
use Rattle.cas_lock.specs.declared.fault.LockFault.{LockFault}
use Rattle.cas_lock.specs.declared.fault.LockFault.TheVariants.{Text, Body}
use Rattle.cas_lock.specs.declared.line.Entry.{Entry}
use Rattle.cas_lock.specs.declared.line.Entry.TheVariants as entry
use Rattle.cas_lock.specs.declared.step.Step.{Step}
use Rattle.cas_lock.specs.Bodies.{first_difference}
use Rattle.cas_lock.specs.Lines.{without_blanks, entry_of}

-- what a line is
abbrev pub entry_at : List ℕ → Entry
entry_at line = entry_of (without_blanks (pieces line))

-- the first fault of the lines from one with this number on, by what that line is, after these labels and instructions;
-- `next` is that of the lines after it
abbrev pub fault_after : (next : List Label → List Step → ℕ → Option LockFault) → List Label → List Step → ℕ → Entry →
    Option LockFault
fault_after next labels steps n entry.Blank = next labels steps (n + 1)
fault_after next labels steps n (entry.Label x) = next (labels ++ record { name = x; place = length steps } ∷ []) steps
    (n + 1)
fault_after next labels steps n (entry.Step step) = next labels (steps ++ step ∷ []) (n + 1)
fault_after next labels steps n entry.Fault = Some (Text n)

-- the fault of a whole body
abbrev pub body_fault : Option ℕ → Option LockFault
body_fault None = None
body_fault (Some k) = Some (Body (k + 1))

-- the first fault of these lines, of which the first has this number, after these labels and instructions
abbrev pub fault_from : List (List ℕ) → List Label → List Step → ℕ → Option LockFault
fault_from [] labels steps n = body_fault (first_difference labels steps)
fault_from (line ∷ rest) labels steps n = fault_after (fault_from rest) labels steps n (entry_at line)

-- the first fault of a text
abbrev pub lock_fault : List ℕ → Option LockFault
lock_fault text = fault_from (lines text) [] [] 1
