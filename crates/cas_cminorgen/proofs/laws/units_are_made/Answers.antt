use Rattle.cas_cminorgen.proofs.Units.{unit_refines, none_larger}
use Rattle.cas_cminorgen.proofs.laws.units_are_made.Goals as goal

pub returns-clause-refines : goal.returns-clause-refines
returns-clause-refines c = λ t s made variables defined. unit_refines t s made variables defined

pub returns-clause-bounds : goal.returns-clause-bounds
returns-clause-bounds c = λ t s made variables. none_larger t s made variables
