use Rattle.std.proofs.Common.{◌≡◌, is_some, map, drop}
use Rattle.cas_link.specs.Rows.{found}
use Rattle.cas_link.specs.Refusal.{unknown_in_functions}
use Rattle.cas_link.proofs.check.unknown_in_functions.Given as goal

abbrev pub invariant-loop-fun : goal.invariant-loop-fun
invariant-loop-fun l =
    unknown_in_functions (λ name. is_some (found l.cells name)) (λ name. is_some (found l.functions name))
    (map (λ f. f.now) (drop l.fun-index l.funs))
    ≡ unknown_in_functions (λ name. is_some (found l.cells name)) (λ name. is_some (found l.functions name))
    (map (λ f. f.now) l.funs)
