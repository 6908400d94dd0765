use Rattle.cas_sel.proofs.Tariffs.{sel_tariff}
use Rattle.cas_sel.proofs.laws.constants_are_prices.Goals as goal

pub returns : goal.returns
returns c = sel_tariff
