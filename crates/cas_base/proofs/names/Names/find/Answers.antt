use Rattle.cas_base.proofs.NameTables.{found_below}
use Rattle.cas_base.proofs.names.Names.find.Goals as goal

pub returns-clause-below : goal.returns-clause-below
returns-clause-below c c' = found_below c.row.N _ _ c'.first_row.result c'.self.invariant c'.first_row.ensures
