-- Where RTL's activations stand for CminorSel's, with equal memories: what the source has left to do is what the graph
-- does from its node on, and each temporary's value is in its pseudo-register.
use Rattle.std.specs.Prelude.{◌≡◌, ℕ, List, [], ◌∷◌, length, Some, None, slice_get}
use Rattle.cas_runs.specs.Naming.{Value, Memory}
use Rattle.cas_runs.specs.Held.{Activation}
use Rattle.cas_mid.specs.Language.{Item, begin, end_block, Frame}
use Rattle.cas_sel.specs.declared.tree.SelFun.{SelFun}
use Rattle.cas_sel.specs.Trees.{Expr, Test, Address, Statement}
use Rattle.cas_sel.specs.CminorSel.{SelState}
use Rattle.cas_sel.specs.Code.{sel_routine}
use Rattle.cas_rtl.specs.Graph.{return_, Graph, Point}
use Rattle.cas_rtlgen.specs.Makes.{Body, body_of, At, Does, IsMadeGraph}
use Rattle.cas_base.specs.declared.decl.Decl.{Decl}
use Rattle.cas_rtl.specs.Code.{rtl_graph}
use Rattle.cas_rtl.specs.declared.tree.RtlFun.{RtlFun}

abbrev pub Continuation : Type 0
Continuation = List (Item Expr Address Test)

-- what is left to do is what the graph does from this node on
pub data MatchRest (b : Body) : (exits : List ℕ) → Continuation → (at : ℕ) → Type 0 where
  at_end : {n : ℕ} → At b n (return_ None) → MatchRest b [] [] n
  begins :
      {exits : List ℕ} {a : Statement} {rest : Continuation} {n m : ℕ}
      → Does b exits a n m
      → MatchRest b exits rest m
      → MatchRest b exits (begin a ∷ rest) n
  ends :
      {exits : List ℕ} {rest : Continuation} {n : ℕ}
      → MatchRest b exits rest n
      → MatchRest b (n ∷ exits) (end_block ∷ rest) n

-- temporaries are in their pseudo-registers
pub record MatchFrame (b : Body) (temporaries : List Value) (values : ℕ → Value) : Type 0 where
  pub count : length temporaries ≡ b.temporaries
  pub held : (t : ℕ) (v : Value) → slice_get temporaries t ≡ Some v → values t ≡ v

-- the frame of an activation of the source
abbrev pub frame_of : Graph ℕ → (serial : ℕ) → List Value → Frame
frame_of f serial ts = record { function = f.name; serial = serial; temporaries = ts }

abbrev pub state_of : Frame → Continuation → SelState
state_of f rest = record { frame = f; continuation = rest }

abbrev pub point_of : Graph ℕ → (serial : ℕ) → (ℕ → Value) → (at : ℕ) → Point ℕ
point_of f serial vs n = record { graph = f; serial = serial; values = vs; at = n }

-- where activations stand for one another, with the same memory; functions F of the target stand for graphs
pub data MatchStates {F : Type 0} (graph_of : F → Graph ℕ) (act : Activation F SelFun) :
    Point ℕ → Memory → SelState → Memory → Type 0 where
  matches :
      {serial at : ℕ} {ts : List Value} {vs : ℕ → Value} {exits : List ℕ} {rest : Continuation} {m : Memory}
      → MatchFrame (body_of (graph_of act.target) (sel_routine act.source)) ts vs
      → MatchRest (body_of (graph_of act.target) (sel_routine act.source)) exits rest at
      → MatchStates graph_of act (point_of (graph_of act.target) serial vs at) m
      (state_of (frame_of (graph_of act.target) serial ts) rest) m

-- what is made of a function of CminorSel, among these declarations
abbrev pub IsMade : List Decl → RtlFun → SelFun → Type 0
IsMade decls f g = IsMadeGraph (rtl_graph f) (sel_routine g)
