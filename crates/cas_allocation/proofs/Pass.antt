-- Allocation is a pass.
use Rattle.std.proofs.Common.{◌≡◌, ℕ, List, [], ◌∷◌, sym, subst, arith}
use Rattle.cas_runs.specs.Label.{Each}
use Rattle.cas_runs.specs.Naming.{Value, Number, Memory}
use Rattle.cas_runs.specs.Calls.{set_blocks, fresh}
use Rattle.cas_runs.specs.Held.{Activation, Steps, BeginIf}
use Rattle.cas_runs.specs.Passing.{AllMatch, MadeOf}
use Rattle.cas_runs.specs.Unit.{Setting}
use Rattle.cas_rtl.specs.Graph as graph
use Rattle.cas_rtl.specs.Graph.{Graph, given}
use Rattle.cas_rtl.specs.Rtl.{pseudo_registers}
use Rattle.cas_ltl.specs.declared.tree.Loc.{Loc}
use Rattle.cas_ltl.specs.Locations.{locations}
use Rattle.cas_ltl.proofs.Tariffs.{ltl_tariff}
use Rattle.cas_allocation.specs.Allocation.{IsAllocated}
use Rattle.cas_allocation.specs.Match.{allocation}
use Rattle.cas_allocation.specs.Usable.{IsUsable, bare, places, with_usable, IsPassOfUsable}
use Rattle.cas_allocation.proofs.Entry.{begins_made}
use Rattle.cas_allocation.proofs.Simulation.{forms_lead}
use Rattle.cas_allocation.proofs.Together.{Together, relation, held, equal_values}

module _ {F G : Type 0} (target_graph : F → Graph Loc) (source_graph : G → Graph ℕ) (setting : Setting) (ts : List F)
    (ss : List G) where
  abbrev among : Activation F G → Together F G
  among act = record {
    target_graph = target_graph;
    source_graph = source_graph;
    setting = setting;
    targets = ts;
    sources = ss;
    act = act;
  }

  usable_all : (act : Activation F G) (vs ws : List Value) → AllMatch (relation (among act)) vs ws → Each IsUsable vs
  usable_all act [] [] h = tt
  usable_all act [] (w ∷ ws) h = absurd h
  usable_all act (v ∷ vs) [] h = absurd h
  usable_all act (v ∷ vs) (w ∷ ws) h = (h.0.1, usable_all act vs ws h.1)

  module _ (act : Activation F G) (made : IsAllocated (target_graph act.target) (source_graph act.source)) where
    abbrev f : Graph Loc
    f = target_graph act.target

    abbrev g : Graph ℕ
    g = source_graph act.source

    -- the memory where an activation begins
    abbrev with_own : Memory → Memory
    with_own m = set_blocks (fresh (Number 0)) m g.name act.serial 0 g.blocks

    enters : (t s : Memory) → t ≡ s → (vs ws : List Value) → AllMatch (relation (among act)) vs ws →
        BeginIf (relation (among act)) (held (among act)) act
        (graph.begun locations f act.serial (given locations f.names f.parameters vs))
        (set_blocks (fresh (Number 0)) t f.name act.serial 0 f.blocks)
        (graph.begun pseudo_registers g act.serial (given pseudo_registers g.names g.parameters ws)) (with_own s)
    enters t s same vs ws all =
        let x = graph.begun locations f act.serial (given locations f.names f.parameters vs) in
        subst (λ n. BeginIf (relation (among act)) (held (among act)) act x
        (set_blocks (fresh (Number 0)) t n act.serial 0 f.blocks)
        (graph.begun pseudo_registers g act.serial (given pseudo_registers g.names g.parameters ws)) (with_own s))
        (sym made.name)
        (subst (λ bs. BeginIf (relation (among act)) (held (among act)) act x
        (set_blocks (fresh (Number 0)) t g.name act.serial 0 bs)
        (graph.begun pseudo_registers g act.serial (given pseudo_registers g.names g.parameters ws)) (with_own s))
        (sym made.blocks)
        (subst (λ (m : Memory). BeginIf (relation (among act)) (held (among act)) act x (with_own t)
        (graph.begun pseudo_registers g act.serial (given pseudo_registers g.names g.parameters ws)) (with_own m)) same
        (subst (λ us. BeginIf (relation (among act)) (held (among act)) act x (with_own t)
        (graph.begun pseudo_registers g act.serial (given pseudo_registers g.names g.parameters us)) (with_own t))
        (equal_values (among act) vs ws all)
        (begins_made (among act) act.serial made (with_own t) vs (usable_all act vs ws all)))))

  steps : Steps (bare (allocation target_graph source_graph) setting ts ss
      (MadeOf (with_usable (allocation target_graph source_graph)) setting ts ss))
      (places (allocation target_graph source_graph) setting ts ss)
  steps = record {
    forms = λ act made x t y s m. forms_lead (among act) x t y s m;
    enters = λ act made t s same vs ws all. enters act made.is_made.is_made t s same vs ws all;
  }

pub allocation_shown : {F G : Type 0} (target_graph : F → Graph Loc) (source_graph : G → Graph ℕ) →
    IsPassOfUsable (allocation target_graph source_graph)
allocation_shown target_graph source_graph = record {
  names = λ decls f g made. made.name;
  blocks = λ decls f g made. made.blocks;
  prices = ltl_tariff target_graph;
  waits = λ ts ss all. omega arith;
  steps = λ setting decls ts ss together. steps target_graph source_graph setting ts ss;
}
