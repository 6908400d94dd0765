use Rattle.cas_edge.proofs.Settled.{unit_fits}
use Rattle.cas_edge.proofs.laws.settled_units_fit.Goals as goal

pub returns : goal.returns
returns g c = λ decl_of units entries inside setting settled order values at stack code j unit e.
    unit_fits decl_of units entries inside settled order values setting at stack code j unit e
