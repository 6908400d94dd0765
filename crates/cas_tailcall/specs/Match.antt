-- Where activations of a graph with tail calls stand for those of the graph: at the same node, with equal memories and
-- equal values in the pseudo-registers.
--
--     f:    n ────────── Tail ──────────► the called function instead
--           │
--      match_states
--           │
--     g:    n ── Call ──► n' ── Nop ──► · ── Return ──► the same result
use Rattle.std.specs.Prelude.{◌≡◌, ℕ, List}
use Rattle.cas_base.specs.declared.decl.Decl.{Decl}
use Rattle.cas_runs.specs.Naming.{Value, Memory}
use Rattle.cas_runs.specs.Held.{Activation}
use Rattle.cas_runs.specs.Unmoved.{Unmoved}
use Rattle.cas_rtl.specs.Graph.{Graph, Point}
use Rattle.cas_rtl.specs.Rtl.{rtl}
use Rattle.cas_rtl.specs.Code.{rtl_graph}
use Rattle.cas_rtl.specs.declared.tree.RtlFun.{RtlFun}
use Rattle.cas_graphs.specs.Match.{point_of}
use Rattle.cas_tailcall.specs.Tailcall.{tailed}

module _ {F : Type 0} (graph_of : F → Graph ℕ) where
  -- functions F stand for graphs
  pub data MatchStates (act : Activation F F) : Point ℕ → Memory → Point ℕ → Memory → Type 0 where
    matches :
        {serial n : ℕ} {vs : ℕ → Value} {m : Memory}
        → MatchStates act (point_of (tailed (graph_of act.source)) serial vs n) m
        (point_of (graph_of act.source) serial vs n) m

  -- the pass, by what it makes and where both begin a step
  abbrev pub tailcall : Unmoved F (Point ℕ) F (Point ℕ)
  tailcall = record {
    target = rtl graph_of;
    source = rtl graph_of;
    made = λ decls f g. graph_of f ≡ tailed (graph_of g);
    match_states = λ setting ts ss act x t y s. MatchStates act x t y s;
  }

-- what is made of a function, among these declarations
abbrev pub IsMade : List Decl → RtlFun → RtlFun → Type 0
IsMade decls f g = rtl_graph f ≡ tailed (rtl_graph g)
