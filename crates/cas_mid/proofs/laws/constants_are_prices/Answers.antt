use Rattle.cas_mid.specs.Code.{csharp_routine, cminor_routine}
use Rattle.cas_mid.specs.Csharpminor.{variable}
use Rattle.cas_mid.specs.Cminor.{stack_address}
use Rattle.cas_mid.proofs.Tariffs.{tariff_by}
use Rattle.cas_mid.proofs.laws.constants_are_prices.Goals as goal

pub returns-clause-csharpminor : goal.returns-clause-csharpminor
returns-clause-csharpminor c = tariff_by variable csharp_routine

pub returns-clause-cminor : goal.returns-clause-cminor
returns-clause-cminor c = tariff_by stack_address cminor_routine
