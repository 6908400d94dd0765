use Rattle.std.proofs.Common.{◌++◌, map, drop}
use Rattle.cas_link.specs.Rows.{FindSame}
use Rattle.cas_link.specs.Known.{function_rows}
use Rattle.cas_link.proofs.check.add_functions.Given as goal

abbrev pub invariant-loop-fun : goal.invariant-loop-fun
invariant-loop-fun l =
    FindSame (l.functions ++ function_rows (map (λ f. f.now) (drop l.fun-index l.funs)))
    (l.initial.functions ++ function_rows (map (λ f. f.now) l.funs))
