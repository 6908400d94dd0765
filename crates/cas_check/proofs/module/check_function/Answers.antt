use Rattle.cas_check.proofs.Fitting.{fits_table, fits_halt}
use Rattle.cas_check.proofs.module.check_function.Goals as goal

pub check_body-requires-clause-table : goal.check_body-requires-clause-table
check_body-requires-clause-table c = fits_table c.args.table.now c.args.function.now c.requires

pub reported-requires : goal.reported-requires
reported-requires c = fits_halt c.args.table.now c.args.fun.now.closing c.args.function.now c.in-Err.halt c.requires
    c.in-Err.ensures
