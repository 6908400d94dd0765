use Rattle.std.proofs.Common.{length}
use Rattle.cas_check.specs.Fits.{FunctionsFit}
use Rattle.cas_check.proofs.Items_walked.{IsWalked}
use Rattle.cas_check.proofs.module.check_items.Given as goal

abbrev pub invariant-each : goal.invariant-each
invariant-each l = record {
  walked : IsWalked l.table l.items l.functions l.rest l.left;
  fit : FunctionsFit l.table l.left;
}

abbrev pub decreases-each : goal.decreases-each
decreases-each l = length l.rest
