use Rattle.cas_rtl.specs.Code.{rtl_graph}
use Rattle.cas_rtl.proofs.Tariffs.{rtl_tariff}
use Rattle.cas_rtl.proofs.laws.constants_are_prices.Goals as goal

pub returns : goal.returns
returns c = rtl_tariff rtl_graph
