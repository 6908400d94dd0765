-- Graphs with other numbers. Each successor n of a node becomes `to n`, at which the node n itself is, or the one that
-- Nops lead to from n. What can't be reached may be left out.
--
--     g:   3 ──► Nop ──► Nop ──► 7               f:   3 ──► to 7
--
-- Renumber takes the nodes themselves and gives them other numbers; Tunneling leaves the numbers as they are, and takes
-- the last node of each chain of Nops.
use Rattle.std.specs.Prelude.{◌≡◌, ℕ, List, Some, slice_get}
use Rattle.cas_rtl.specs.Graph.{Node, nop, Graph}
use Rattle.cas_graphs.specs.Successors.{redirected, IsReached}

module _ {R : Type 0} where
  -- Nops lead from the node of one number to that of another
  pub data NopsLead (nodes : List (Node R)) : (from to : ℕ) → Type 0 where
    is_there : {n : ℕ} → NopsLead nodes n n
    further : {n m k : ℕ} → slice_get nodes n ≡ Some (nop m) → NopsLead nodes m k → NopsLead nodes n k

  -- at `to n` these nodes have the one that Nops lead to from node n of the graph, with other successors
  pub record IsFoundAt (to : ℕ → ℕ) (nodes : List (Node R)) (g : Graph R) (n : ℕ) : Type 0 where
    pub last : ℕ
    pub leads : NopsLead g.nodes n last
    pub same : (node : Node R) → slice_get g.nodes last ≡ Some node → slice_get nodes (to n) ≡ Some (redirected to node)

  -- the graph with other nodes and another entry
  abbrev pub with_nodes : Graph R → (entry : ℕ) → List (Node R) → Graph R
  with_nodes g entry nodes = record g { entry = entry; nodes = nodes }

  -- f is g with such other numbers
  pub record IsShortcut (f g : Graph R) : Type 0 where
    pub to : ℕ → ℕ
    pub found : (n : ℕ) → IsReached g n → IsFoundAt to f.nodes g n
    pub rest : f ≡ with_nodes g (to g.entry) f.nodes
