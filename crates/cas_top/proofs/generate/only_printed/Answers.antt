use Rattle.cas_top.proofs.Form_laws.{one_print}
use Rattle.cas_top.proofs.generate.only_printed.Goals as goal

pub returns-in-Print-clause-found : goal.returns-in-Print-clause-found
returns-in-Print-clause-found c = one_print _ _ _ _ c.in_ok-statement.ensures.cases.0 c.in_default.ensures.cases
    c.in-Print.is
