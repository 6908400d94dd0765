use Rattle.cas_ltl.specs.Code.{ltl_graph}
use Rattle.cas_ltl.proofs.Tariffs.{ltl_tariff}
use Rattle.cas_ltl.proofs.laws.constants_are_prices.Goals as goal

pub returns : goal.returns
returns c = ltl_tariff ltl_graph
