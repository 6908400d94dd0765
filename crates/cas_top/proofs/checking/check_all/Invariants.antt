use Rattle.std.proofs.Common.{drop}
use Rattle.cas_top.proofs.One_by_one.{ChecksOn}
use Rattle.cas_top.proofs.checking.check_all.Given as goal

abbrev pub invariant-loop-source : goal.invariant-loop-source
invariant-loop-source l = ChecksOn l.sources (drop l.source-index l.sources)
