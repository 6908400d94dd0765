use Rattle.cas_edge.proofs.Settled.{program_fits}
use Rattle.cas_edge.proofs.laws.settled_programs_fit.Goals as goal

pub returns : goal.returns
returns g c = λ l decl_of units entries inside names settled order values i entry e.
    program_fits decl_of units entries inside settled order values l names i entry e
