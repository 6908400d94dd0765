use Rattle.std.proofs.Common.{◌≡◌, ◌+◌, length}
use Rattle.cas_whole.specs.Names.{HaveFewFunctions, units_in}
use Rattle.cas_whole.proofs.Tables.{HasModules}
use Rattle.cas_whole.proofs.names.functions_by_name.Given as goal

abbrev pub invariant-modules : goal.invariant-modules
invariant-modules l = record {
  counted : l.unit + length l.rest ≡ length l.modules;
  few : HaveFewFunctions (units_in l.rest);
  has : HasModules l.table.entries l.unit (units_in l.rest) (units_in l.modules);
}

abbrev pub decreases-modules : goal.decreases-modules
decreases-modules l = length l.rest
