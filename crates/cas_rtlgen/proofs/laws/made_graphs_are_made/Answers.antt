use Rattle.std.proofs.Common.{ℕ, subst, sym}
use Rattle.cas_rtl.specs.Code.{rtl_graph}
use Rattle.cas_rtl.specs.Graph.{Graph}
use Rattle.cas_sel.specs.Code.{sel_routine}
use Rattle.cas_rtlgen.specs.Makes.{IsMadeGraph}
use Rattle.cas_rtlgen.proofs.Making.{graph_is}
use Rattle.cas_rtlgen.proofs.Weighing.{graph_weighs}
use Rattle.cas_rtlgen.proofs.laws.made_graphs_are_made.Goals as goal

pub returns-clause-made : goal.returns-clause-made
returns-clause-made c = λ decls f g same.
    subst (λ (v : Graph ℕ). IsMadeGraph v (sel_routine g)) (sym same) (graph_is (sel_routine g))

pub returns-clause-weight : goal.returns-clause-weight
returns-clause-weight c = λ f g same. graph_weighs rtl_graph f g same
