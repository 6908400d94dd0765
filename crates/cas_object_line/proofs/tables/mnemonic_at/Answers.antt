use Rattle.std.proofs.Common.{◌≤◌, sym, arith}
use Rattle.cas_object_line.specs.Tables.{mnemonics}
use Rattle.cas_object_line.proofs.Rows.{past}
use Rattle.cas_object_line.proofs.tables.mnemonic_at.Goals as goal

pub returns-in_default : goal.returns-in_default
returns-in_default c =
    let above : 46 ≤ c.args.row = omega arith in
    sym (past mnemonics c.args.row above)
