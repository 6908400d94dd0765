-- Where activations of LTL stand for those of RTL, with equal memories: what is live has its value in its place.
--
--     LTL:   head i ── node ──────────────► head n          head i ── moves ──► · ── Call ──► · ── move ──► head n
--              │                              │               │                            │
--         match_states                   match_states    match_states                 match_states (at_result)
--              │                              │               │                            │
--     RTL:     i ──────── node ─────────────► n               i ──────────── Call ───────► n
use Rattle.std.specs.Prelude.{◌≡◌, ℕ, List, [], ◌∷◌, Some, true, nat_lt, slice_get}
use Rattle.cas_base.specs.declared.decl.Decl.{Decl}
use Rattle.cas_runs.specs.Naming.{Value, Memory, usable}
use Rattle.cas_sel.specs.declared.tree.Op.TheVariants.{Move}
use Rattle.cas_rtl.specs.Graph.{Graph, Point, op, set}
use Rattle.cas_rtl.specs.Rtl.{rtl}
use Rattle.cas_rtl.specs.Code.{rtl_graph}
use Rattle.cas_rtl.specs.declared.tree.RtlFun.{RtlFun}
use Rattle.cas_ltl.specs.declared.tree.Loc.{Loc}
use Rattle.cas_ltl.specs.declared.tree.LtlFun.{LtlFun}
use Rattle.cas_ltl.specs.Locations.{locations, result_register}
use Rattle.cas_ltl.specs.Ltl.{ltl}
use Rattle.cas_ltl.specs.Code.{ltl_graph}
use Rattle.cas_graphs.specs.Match.{point_of}
use Rattle.cas_allocation.specs.Allocation.{Plan, IsPoint, IsAllocated}
use Rattle.cas_allocation.specs.Usable.{Usable}

-- the value of what is live where node i is next, if it may be used, is in its place
abbrev pub Agrees : Plan → (i : ℕ) → (Loc → Value) → (ℕ → Value) → Type 0
Agrees plan i ls vs =
    (r : ℕ) (v : Value) → plan.live i r ≡ true → usable (vs r) ≡ Some v → ls (plan.place r) ≡ v

pub data MatchStates (f : Graph Loc) (g : Graph ℕ) : Point Loc → Memory → Point ℕ → Memory → Type 0 where
  at_node :
      {serial i : ℕ} {ls : Loc → Value} {vs : ℕ → Value} {m : Memory} (made : IsAllocated f g)
      → Agrees made.plan i ls vs
      → IsPoint g i
      → MatchStates f g (point_of f serial ls (made.plan.head i)) m (point_of g serial vs i) m
  -- a call has returned, and its result has still to be moved to its place
  at_result :
      {serial i k r : ℕ} {ls : Loc → Value} {vs : ℕ → Value} {m : Memory} (made : IsAllocated f g)
      → slice_get f.nodes k ≡ Some (op Move (result_register ∷ []) (made.plan.place r) (made.plan.head i))
      → nat_lt r g.names ≡ true
      → (u : Value) → usable (ls result_register) ≡ Some u
      → Agrees made.plan i (set locations ls (made.plan.place r) (ls result_register)) vs
      → IsPoint g i
      → MatchStates f g (point_of f serial ls k) m (point_of g serial vs i) m

-- the pass, by what it makes and where both begin a step; functions F and G stand for graphs
abbrev pub allocation : {F G : Type 0} → (F → Graph Loc) → (G → Graph ℕ) → Usable F (Point Loc) G (Point ℕ)
allocation target_graph source_graph = record {
  target = ltl target_graph;
  source = rtl source_graph;
  made = λ decls f g. IsAllocated (target_graph f) (source_graph g);
  match_states = λ setting ts ss act x t y s. MatchStates (target_graph act.target) (source_graph act.source) x t y s;
}

-- what is made of a function, among these declarations
abbrev pub IsMade : List Decl → LtlFun → RtlFun → Type 0
IsMade decls f g = IsAllocated (ltl_graph f) (rtl_graph g)
