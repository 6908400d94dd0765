use Rattle.std.proofs.Common.{refl}
use Rattle.cas_object_line.proofs.Rows.{condition-found, condition-none}
use Rattle.cas_object_line.proofs.tables.Tables.condition.Goals as goal

pub returns-in-Some : goal.returns-in-Some
returns-in-Some c = condition-found c.args.self.now.conditions c.in-Some.row c.args.text.now _
    c.args.self.now.condition_rows ((c.in-Some.ensures.found c.in-Some.row).0 refl) c.condition_at.ensures

pub returns-in-None : goal.returns-in-None
returns-in-None c = condition-none c.args.self.now.conditions c.args.text.now c.args.self.now.condition_rows
    (c.in-None.ensures.none.0 refl)
