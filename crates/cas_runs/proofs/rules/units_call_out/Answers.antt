use Rattle.cas_runs.specs.Calls.{language}
use Rattle.cas_runs.proofs.Entered.{entered_functions}
use Rattle.cas_runs.proofs.Outgoing.{unit_calls_out}
use Rattle.cas_runs.proofs.rules.units_call_out.Goals as goal

pub returns : goal.returns
returns g c = λ l decl_of unit setting names order fits. unit_calls_out l setting unit.funs
    (entered_functions (language l) decl_of names unit order setting fits)
