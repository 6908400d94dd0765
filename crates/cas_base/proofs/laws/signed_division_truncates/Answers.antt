use Rattle.std.proofs.Common.{arith}
use Rattle.cas_base.proofs.WordLaws.{division_truncates}
use Rattle.cas_base.proofs.laws.signed_division_truncates.Goals as goal

pub returns : goal.returns
returns c = division_truncates c.args.a c.args.b c.args.quotient c.args.remainder (omega arith) (omega arith)
