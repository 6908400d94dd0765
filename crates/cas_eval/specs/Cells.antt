-- What the places and cells of the code stand for.
use Rattle.std.specs.Prelude.{ℕ, Option, Some, None}
use Rattle.cas_step.specs.Evaluate as e
use Rattle.cas_step.specs.Step as step
use Rattle.cas_memory.specs.Values.{object_of}
use Rattle.cas_memory.specs.declared.value.Object.{Object}
use Rattle.cas_eval.specs.declared.targets.Cell.{Cell}
use Rattle.cas_eval.specs.declared.targets.Cell.TheVariants as cell

-- where a pointer points
abbrev pub place_in : Option (Object × ℕ) → Option (step.Object × ℕ)
place_in None = None
place_in (Some a) = Some (object_of a.0, a.1)

-- a place in an object
abbrev pub cell_of : Object × ℕ → step.Object × ℕ
cell_of a = (object_of a.0, a.1)

-- the cell of a target
abbrev pub cell_view : Cell → e.Cell step.Object
cell_view (cell.Object o p) = e.of_object (object_of o) p
cell_view (cell.Global g p) = e.of_global g p
