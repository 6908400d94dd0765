use Rattle.std.proofs.Common.{length}
use Rattle.cas_whole.proofs.Tables.{HasCells}
use Rattle.cas_whole.proofs.names.cells_by_name.Given as goal

abbrev pub invariant-cells : goal.invariant-cells
invariant-cells l = HasCells l.table.entries l.rest l.cells

abbrev pub decreases-cells : goal.decreases-cells
decreases-cells l = length l.rest
