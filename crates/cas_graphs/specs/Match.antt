-- Where activations of a graph with other numbers stand for those of the graph, with equal memories and equal values in
-- the places.
--
--     f:   to n ───────────────── step ──────────────► to m
--           │                                           │
--      match_states                                match_states
--           │                                           │
--     g:    n ── Nop alone ──► · ── Nop alone ──► · ──► m
use Rattle.std.specs.Prelude.{ℕ}
use Rattle.cas_runs.specs.Naming.{Value, Memory}
use Rattle.cas_runs.specs.Held.{Activation}
use Rattle.cas_runs.specs.Unmoved.{Unmoved}
use Rattle.cas_rtl.specs.Graph.{Graph, Point, Places, Prices, graphs}
use Rattle.cas_graphs.specs.Successors.{IsReached}
use Rattle.cas_graphs.specs.Shortcut.{IsShortcut}

abbrev pub point_of : {R : Type 0} → Graph R → (serial : ℕ) → (R → Value) → (at : ℕ) → Point R
point_of g serial vs n = record { graph = g; serial = serial; values = vs; at = n }

module _ {R F : Type 0} (graph_of : F → Graph R) where
  -- functions F stand for graphs
  pub data MatchStates (act : Activation F F) : Point R → Memory → Point R → Memory → Type 0 where
    matches :
        {serial n : ℕ} {vs : R → Value} {m : Memory}
        (made : IsShortcut (graph_of act.target) (graph_of act.source))
        → IsReached (graph_of act.source) n
        → MatchStates act (point_of (graph_of act.target) serial vs (made.to n)) m
        (point_of (graph_of act.source) serial vs n) m

-- the pass, by what it makes and where both begin a step
abbrev pub shortcut :
    {R F : Type 0} → Places R → Prices R → (F → Graph R) → Unmoved F (Point R) F (Point R)
shortcut places prices graph_of = record {
  target = graphs places prices graph_of;
  source = graphs places prices graph_of;
  made = λ decls f g. IsShortcut (graph_of f) (graph_of g);
  match_states = λ setting ts ss act x t y s. MatchStates graph_of act x t y s;
}
