use Rattle.std.proofs.Common.{ℕ, ◌<◌, List}
use Rattle.cas_base.specs.Names.{rows_of, IsRow, IsNewAt}
use Rattle.cas_base.proofs.names.is_distinct.Given as goal

abbrev pub invariant-loop-k : goal.invariant-loop-k
invariant-loop-k l = (i : ℕ) → i < l.k → (row : List ℕ) → IsRow (rows_of l.text) i row → IsNewAt (rows_of l.text) i row
