use Rattle.cas_typed.proofs.Items.{walk_module-typed, IsTyped-walk}
use Rattle.cas_typed.proofs.Modules.{typed_or_refused, typed_in_one_way, one_first_fault, typed_without_fault}
use Rattle.cas_typed.proofs.laws.modules_are_typed_or_refused.Goals as goal

pub returns : goal.returns
returns c = record {
  walk = λ m r. (IsTyped-walk m r, walk_module-typed m r);
  either = typed_or_refused;
  one_way = typed_in_one_way;
  one_fault = one_first_fault;
  not_both = typed_without_fault;
}
