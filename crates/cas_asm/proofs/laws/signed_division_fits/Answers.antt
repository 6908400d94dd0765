use Rattle.std.proofs.Common.{arith}
use Rattle.cas_asm.proofs.Dividing.{signed_truncates}
use Rattle.cas_asm.proofs.laws.signed_division_fits.Goals as goal

pub returns-clause-some : goal.returns-clause-some
returns-clause-some c = signed_truncates c.args.high c.args.low c.args.divisor (omega arith)
