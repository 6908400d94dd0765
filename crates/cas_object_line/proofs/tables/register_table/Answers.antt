use Rattle.std.proofs.Common.{refl}
use Rattle.cas_object_line.proofs.Rows.{register-table}
use Rattle.cas_object_line.proofs.tables.register_table.Goals as goal

pub unreachable-requires : goal.unreachable-requires
unreachable-requires c = c.in-None.ensures.none.0 refl register-table
