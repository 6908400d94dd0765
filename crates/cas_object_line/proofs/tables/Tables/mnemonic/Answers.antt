use Rattle.std.proofs.Common.{refl}
use Rattle.cas_object_line.proofs.Rows.{mnemonic-found, mnemonic-none}
use Rattle.cas_object_line.proofs.tables.Tables.mnemonic.Goals as goal

pub returns-in-Some : goal.returns-in-Some
returns-in-Some c = mnemonic-found c.args.self.now.mnemonics c.in-Some.row c.args.text.now _
    c.args.self.now.mnemonic_rows ((c.in-Some.ensures.found c.in-Some.row).0 refl) c.mnemonic_at.ensures

pub returns-in-None : goal.returns-in-None
returns-in-None c = mnemonic-none c.args.self.now.mnemonics c.args.text.now c.args.self.now.mnemonic_rows
    (c.in-None.ensures.none.0 refl)
