use Rattle.std.proofs.Common.{◌≡◌, ◌≤◌, ◌++◌, length, drop}
use Rattle.cas_typed.specs.Scopes.{parameters}
use Rattle.cas_type.proofs.locals.Locals.push_parameters.Given as goal

abbrev pub invariant-loop-left : goal.invariant-loop-left
invariant-loop-left l = record {
  of_params : l.left ≤ length l.params;
  of_tys : l.left ≤ length l.tys;
  pushed : l.self ≡ parameters l.left (drop l.left l.params) (drop l.left l.tys) ++ l.fn.self;
}

abbrev pub decreases-loop-left : goal.decreases-loop-left
decreases-loop-left l = l.left
