-- The room that a call takes for the longest continuation of its activation.
use Rattle.std.specs.Prelude.{◌≡◌, ⊤, ℕ, ◌+◌, ◌*◌, ◌≤◌, List, [], ◌∷◌, length, Some, slice_get}
use Rattle.cas_typed.specs.declared.rows.StmtRow.{StmtRow}
use Rattle.cas_step.specs.Continuation.{ContItem, begin, begun, loop, next}
use Rattle.cas_thread.specs.declared.continuation.ContItem as code
use Rattle.cas_thread.specs.Continuations.{IsContinuation}
use Rattle.cas_typed.specs.declared.rows.StmtRowForm.{StmtRowForm}
use Rattle.cas_typed.specs.declared.rows.StmtRowForm.TheVariants as row
use Rattle.cas_typed.specs.Numbered.{size_of, size_of_option}

-- the most items that an item can become
abbrev pub peak : ContItem → ℕ
peak (begin a) = 2 * size_of a
peak (begun p c a) = 1 + 2 * size_of a
peak (loop p c u a) = 2 + 2 * (size_of_option u + size_of a)
peak (next p u) = 1 + 2 * size_of_option u

-- there is room for what each item can become, besides the items after it
abbrev pub Fits : (room : ℕ) → List ContItem → Type 0
Fits room [] = ⊤
Fits room (it ∷ cont) = (peak it + length cont ≤ room) × Fits room cont

-- the most items that a statement with this row puts before the continuation after it
abbrev pub room_for : StmtRowForm → ℕ
room_for (row.Block ns) = length ns
room_for (row.If c i j) = 1
room_for (row.While c i) = 2
room_for (row.Do i c) = 2
room_for (row.For h c j k) = 2
room_for _ = 0

-- the last part of this row's `for` is the row with that number
abbrev pub IsNextForm : (number : ℕ) → StmtRowForm → Type 0
IsNextForm i (row.For h c j k) = j ≡ Some i
IsNextForm i _ = ⊥

abbrev pub IsNextAt : List StmtRow → (number next : ℕ) → Type 0
IsNextAt rows n i = (r : StmtRow) × (slice_get rows n ≡ Some r) × IsNextForm i r.form

-- these items stand for a continuation, and there is room for what its items can become
abbrev pub HasRoom : List StmtRow → (room : ℕ) → List code.ContItem → Type 0
HasRoom rows room xs = (cont : List ContItem) × IsContinuation rows xs cont × Fits room cont
