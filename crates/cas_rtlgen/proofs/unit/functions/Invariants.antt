use Rattle.std.proofs.Common.{take}
use Rattle.cas_runs.specs.Label.{Both}
use Rattle.cas_rtlgen.specs.Made.{IsMadeOf}
use Rattle.cas_rtlgen.proofs.unit.functions.Given as goal

abbrev pub invariant-loop-fun : goal.invariant-loop-fun
invariant-loop-fun l = Both IsMadeOf l.all.items (take l.fun-index l.funs)
