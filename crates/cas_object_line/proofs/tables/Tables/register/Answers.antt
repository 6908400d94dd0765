use Rattle.std.proofs.Common.{refl}
use Rattle.cas_object_line.proofs.Rows.{register-found, register-none}
use Rattle.cas_object_line.proofs.tables.Tables.register.Goals as goal

pub returns-in-Some : goal.returns-in-Some
returns-in-Some c = register-found c.args.self.now.registers c.in-Some.row c.args.text.now _
    c.args.self.now.register_rows ((c.in-Some.ensures.found c.in-Some.row).0 refl) c.register_at.ensures

pub returns-in-None : goal.returns-in-None
returns-in-None c = register-none c.args.self.now.registers c.args.text.now c.args.self.now.register_rows
    (c.in-None.ensures.none.0 refl)
