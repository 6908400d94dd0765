use Rattle.cas_whole.specs.Names.{units_in, meant_by}
use Rattle.cas_whole.proofs.Rows.{rows_if, full_if, declared_meant}
use Rattle.cas_whole.proofs.items.items_of.Goals as goal

pub returns-clause-rows : goal.returns-clause-rows
returns-clause-rows c =
    full_if c.rows.result (units_in c.args.modules.now)
    (meant_by c.in_ok-functions_by_name.field-0.entries c.in_ok-cells_by_name.field-0.entries) c.rows.ensures

pub returns-clause-entities : goal.returns-clause-entities
returns-clause-entities c =
    rows_if c.rows.result (units_in c.args.modules.now)
    (meant_by c.in_ok-functions_by_name.field-0.entries c.in_ok-cells_by_name.field-0.entries)
    (declared_meant (units_in c.args.modules.now) c.in_ok-functions_by_name.field-0.entries
    c.in_ok-cells_by_name.field-0.entries c.args.cells.now c.requires.cells
    c.in_ok-functions_by_name.ensures c.in_ok-cells_by_name.ensures)
    c.rows.ensures
