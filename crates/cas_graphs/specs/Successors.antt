-- The successors of nodes, and the nodes that a run of a graph can come to.
use Rattle.std.specs.Prelude.{◌≡◌, ◌⊎◌, ℕ, List, [], ◌∷◌, Some, slice_get}
use Rattle.cas_rtl.specs.Graph.{Node, nop, op, load, store, call, tail, test, return_, lock, unlock, out, Graph}

-- the list has it
abbrev pub IsAmong : {A : Type 0} → List A → A → Type 0
IsAmong [] x = ⊥
IsAmong (y ∷ ys) x = (y ≡ x) ⊎ IsAmong ys x

module _ {R : Type 0} where
  -- the numbers of the nodes that may follow
  abbrev pub successors : Node R → List ℕ
  successors (nop n) = n ∷ []
  successors (op o ins r n) = n ∷ []
  successors (load m ins r n) = n ∷ []
  successors (store m ins r n) = n ∷ []
  successors (call f ins r n) = n ∷ []
  successors (tail f ins) = []
  successors (test c ins n m) = n ∷ m ∷ []
  successors (return_ r) = []
  successors (lock name n) = n ∷ []
  successors (unlock name n) = n ∷ []
  successors (out r n) = n ∷ []

  -- the node with other successors
  abbrev pub redirected : (ℕ → ℕ) → Node R → Node R
  redirected to (nop n) = nop (to n)
  redirected to (op o ins r n) = op o ins r (to n)
  redirected to (load m ins r n) = load m ins r (to n)
  redirected to (store m ins r n) = store m ins r (to n)
  redirected to (call f ins r n) = call f ins r (to n)
  redirected to (tail f ins) = tail f ins
  redirected to (test c ins n m) = test c ins (to n) (to m)
  redirected to (return_ r) = return_ r
  redirected to (lock name n) = lock name (to n)
  redirected to (unlock name n) = unlock name (to n)
  redirected to (out r n) = out r (to n)

  -- the node of this number can be reached: from the entry successors lead to it
  pub data IsReached (g : Graph R) : ℕ → Type 0 where
    is_entry : IsReached g g.entry
    follows :
        {i n : ℕ} (node : Node R)
        → IsReached g i
        → slice_get g.nodes i ≡ Some node
        → IsAmong (successors node) n
        → IsReached g n
