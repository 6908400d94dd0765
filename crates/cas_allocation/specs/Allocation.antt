-- What Allocation makes, for any assignment of places to pseudo-registers and any solution of liveness.
--
--     RTL:   #2 = f(#0, #1)          LTL:   eax = slot 0; edx = slot 1; eax = f(eax, edx); slot 2 = eax
use Rattle.std.specs.Prelude.{◌≡◌, ◌≤◌, ℕ, Bool, true, false, nat_lt, List, [], ◌∷◌, Some, None, slice_get}
use Rattle.cas_runs.specs.Label.{NameBytes}
use Rattle.cas_mid.specs.Operators.{either}
use Rattle.cas_sel.specs.declared.tree.Op.{Op}
use Rattle.cas_sel.specs.declared.tree.Op.TheVariants.{Move}
use Rattle.cas_sel.specs.declared.tree.Mode.{Mode}
use Rattle.cas_sel.specs.declared.tree.Cond.{Cond}
use Rattle.cas_rtl.specs.Graph.{Node, nop, op, load, store, call, tail, test, return_, lock, unlock, out, Graph}
use Rattle.cas_ltl.specs.declared.tree.Loc.{Loc}
use Rattle.cas_ltl.specs.Locations.{locations, argument_registers, result_register}
use Rattle.cas_graphs.specs.Successors.{IsAmong, successors}
use Rattle.cas_allocation.specs.Liveness.{IsSolution}

-- what was found out of a function: which pseudo-registers are live where each node is next, and where each of them is;
-- and the number of the first node that is made of each node
pub record Plan : Type 0 where
  pub live : (node register : ℕ) → Bool
  pub place : (register : ℕ) → Loc
  pub head : (node : ℕ) → ℕ

abbrev pub places_of : Plan → List ℕ → List Loc
places_of plan [] = []
places_of plan (r ∷ rs) = plan.place r ∷ places_of plan rs

-- the first of these in the registers of the convention, as far as they go
abbrev pub in_registers : (registers places : List Loc) → List Loc
in_registers [] ps = ps
in_registers (r ∷ rs) [] = []
in_registers (r ∷ rs) (p ∷ ps) = r ∷ in_registers rs ps

module _ (plan : Plan) where
  -- the arguments of a call, in the places of the convention
  abbrev pub passed : List ℕ → List Loc
  passed ins = in_registers argument_registers (places_of plan ins)

  -- where the arguments beyond the registers come: where each is kept; or, where none is live, into the result's
  -- register, over which the first argument comes then
  abbrev pub arrived : (live : ℕ → Bool) → List ℕ → List Loc
  arrived live [] = []
  arrived live (p ∷ ps) = either (plan.place p) result_register (live p) ∷ arrived live ps

  -- where all arguments come
  abbrev pub comes_in : (live : ℕ → Bool) → (registers : List Loc) → List ℕ → List Loc
  comes_in live [] ps = arrived live ps
  comes_in live (r ∷ rs) [] = []
  comes_in live (r ∷ rs) (p ∷ ps) = r ∷ comes_in live rs ps

module _ (plan : Plan) (nodes : List (Node Loc)) where
  abbrev pub At : ℕ → Node Loc → Type 0
  At k node = slice_get nodes k ≡ Some node

  -- from one node to another moves lead, of these places into those registers, as far as they go
  pub data Moves : (from : ℕ) → (places registers : List Loc) → (to : ℕ) → Type 0 where
    no_place : {k : ℕ} {rs : List Loc} → Moves k [] rs k
    no_register : {k : ℕ} {p : Loc} {ps : List Loc} → Moves k (p ∷ ps) [] k
    moves :
        {k l n : ℕ} {p r : Loc} {ps rs : List Loc}
        → At k (op Move (p ∷ []) r l)
        → Moves l ps rs n
        → Moves k (p ∷ ps) (r ∷ rs) n

  -- the arguments are moved into their registers
  abbrev pub Passes : (from : ℕ) → List ℕ → (to : ℕ) → Type 0
  Passes k ins n = Moves k (places_of plan ins) argument_registers n

  -- what is made of node i is at its head. Where an operation or a load has a result that isn't live there is a Nop
  pub data IsMadeNode (i : ℕ) : Node ℕ → Type 0 where
    nops : {n : ℕ} → At (plan.head i) (nop (plan.head n)) → IsMadeNode i (nop n)
    ops :
        {o : Op} {ins : List ℕ} {r n : ℕ}
        → plan.live n r ≡ true
        → At (plan.head i) (op o (places_of plan ins) (plan.place r) (plan.head n))
        → IsMadeNode i (op o ins r n)
    ops_dropped :
        {o : Op} {ins : List ℕ} {r n : ℕ}
        → plan.live n r ≡ false
        → At (plan.head i) (nop (plan.head n))
        → IsMadeNode i (op o ins r n)
    loads :
        {m : Mode} {ins : List ℕ} {r n : ℕ}
        → plan.live n r ≡ true
        → At (plan.head i) (load m (places_of plan ins) (plan.place r) (plan.head n))
        → IsMadeNode i (load m ins r n)
    loads_dropped :
        {m : Mode} {ins : List ℕ} {r n : ℕ}
        → plan.live n r ≡ false
        → At (plan.head i) (nop (plan.head n))
        → IsMadeNode i (load m ins r n)
    stores :
        {m : Mode} {ins : List ℕ} {r n : ℕ}
        → At (plan.head i) (store m (places_of plan ins) (plan.place r) (plan.head n))
        → IsMadeNode i (store m ins r n)
    calls :
        {f : NameBytes} {ins : List ℕ} {r n k l : ℕ}
        → plan.live n r ≡ true
        → Passes (plan.head i) ins k
        → At k (call f (passed plan ins) (Some result_register) l)
        → At l (op Move (result_register ∷ []) (plan.place r) (plan.head n))
        → IsMadeNode i (call f ins (Some r) n)
    -- the call stays where its result isn't live, and only the move after it goes
    calls_dropped :
        {f : NameBytes} {ins : List ℕ} {r n k : ℕ}
        → plan.live n r ≡ false
        → Passes (plan.head i) ins k
        → At k (call f (passed plan ins) (Some result_register) (plan.head n))
        → IsMadeNode i (call f ins (Some r) n)
    calls_nothing :
        {f : NameBytes} {ins : List ℕ} {n k : ℕ}
        → Passes (plan.head i) ins k
        → At k (call f (passed plan ins) None (plan.head n))
        → IsMadeNode i (call f ins None n)
    tails :
        {f : NameBytes} {ins : List ℕ} {k : ℕ}
        → Passes (plan.head i) ins k
        → At k (tail f (passed plan ins))
        → IsMadeNode i (tail f ins)
    tests :
        {c : Cond} {ins : List ℕ} {n m : ℕ}
        → At (plan.head i) (test c (places_of plan ins) (plan.head n) (plan.head m))
        → IsMadeNode i (test c ins n m)
    returns_nothing : At (plan.head i) (return_ None) → IsMadeNode i (return_ None)
    returns :
        {r k : ℕ}
        → At (plan.head i) (op Move (plan.place r ∷ []) result_register k)
        → At k (return_ (Some result_register))
        → IsMadeNode i (return_ (Some r))
    locks : {name : NameBytes} {n : ℕ} → At (plan.head i) (lock name (plan.head n)) → IsMadeNode i (lock name n)
    unlocks : {name : NameBytes} {n : ℕ} → At (plan.head i) (unlock name (plan.head n)) → IsMadeNode i (unlock name n)
    outs : {r n : ℕ} → At (plan.head i) (out (plan.place r) (plan.head n)) → IsMadeNode i (out r n)

  -- the moves of live parameters from their registers to their places, the last first
  pub data EntryMoves (live : ℕ → Bool) : (from : ℕ) → List ℕ → (registers : List Loc) → (to : ℕ) → Type 0 where
    all_moved : {k : ℕ} {rs : List Loc} → EntryMoves live k [] rs k
    on_stack : {k p : ℕ} {ps : List ℕ} → EntryMoves live k (p ∷ ps) [] k
    unused :
        {k l p : ℕ} {r : Loc} {ps : List ℕ} {rs : List Loc}
        → live p ≡ false
        → EntryMoves live k ps rs l
        → EntryMoves live k (p ∷ ps) (r ∷ rs) l
    moved :
        {k l n p : ℕ} {r : Loc} {ps : List ℕ} {rs : List Loc}
        → live p ≡ true
        → EntryMoves live k ps rs l
        → At l (op Move (r ∷ []) (plan.place p) n)
        → EntryMoves live k (p ∷ ps) (r ∷ rs) n

-- the entry is this node, or a node leads to it
pub data IsPoint (g : Graph ℕ) : ℕ → Type 0 where
  enters : IsPoint g g.entry
  follows :
      {n : ℕ} (i : ℕ) (node : Node ℕ)
      → slice_get g.nodes i ≡ Some node
      → IsAmong (successors node) n
      → IsPoint g n

-- What is asked of an assignment: no place is one that nodes lose, each is there, and no two that are live at one point
-- share one. Where the table of liveness is larger than the least, more is asked
pub record IsAssignment (plan : Plan) (slots : ℕ) (g : Graph ℕ) : Type 0 where
  pub kept : (r : ℕ) → locations.scratched (plan.place r) ≡ false
  pub there : (r : ℕ) → nat_lt r g.names ≡ true → locations.has slots (plan.place r) ≡ true
  pub apart :
      (n r d : ℕ) → IsPoint g n → plan.live n r ≡ true → plan.live n d ≡ true → plan.place r ≡ plan.place d → r ≡ d

-- the first node of a graph
pub record Begins (g : Graph ℕ) : Type 0 where
  pub node : Node ℕ
  pub there : slice_get g.nodes g.entry ≡ Some node

-- what is made of a function by a plan
pub record IsMadeBy (plan : Plan) (f : Graph Loc) (g : Graph ℕ) : Type 0 where
  pub assigned : IsAssignment plan f.names g
  pub solved : IsSolution g.nodes plan.live
  pub nodes : (i : ℕ) (node : Node ℕ) → slice_get g.nodes i ≡ Some node → IsMadeNode plan f.nodes i node
  pub parameters : f.parameters ≡ comes_in plan (plan.live g.entry) argument_registers g.parameters
  pub entry :
      EntryMoves plan f.nodes (plan.live g.entry) f.entry g.parameters argument_registers (plan.head g.entry)
  pub begins : Begins g

-- what is made of a function
pub record IsAllocated (f : Graph Loc) (g : Graph ℕ) : Type 0 where
  pub name : f.name ≡ g.name
  pub blocks : f.blocks ≡ g.blocks
  pub names : f.names ≤ g.names
  pub plan : Plan
  pub made : IsMadeBy plan f g
