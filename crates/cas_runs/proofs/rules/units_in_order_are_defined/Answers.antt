use Rattle.cas_runs.proofs.Entered.{in_order_defined, all_in_order_defined}
use Rattle.cas_runs.proofs.rules.units_in_order_are_defined.Goals as goal

pub returns : goal.returns
returns g c = record {
  unit = λ l decl_of unit names order. in_order_defined l decl_of names unit order;
  program = λ l decl_of units names all. all_in_order_defined l decl_of names units all;
}
