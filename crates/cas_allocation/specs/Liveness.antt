-- Which pseudo-registers are live where.
use Rattle.std.specs.Prelude.{◌≡◌, ℕ, Bool, true, List, [], ◌∷◌, Option, Some, None, slice_get}
use Rattle.cas_rtl.specs.Graph.{Node, op, load, store, call, tail, test, return_, out}
use Rattle.cas_sel.specs.declared.tree.Op.{Op}
use Rattle.cas_sel.specs.declared.tree.Mode.{Mode}
use Rattle.cas_graphs.specs.Successors.{IsAmong, successors}

-- what the node uses, whatever is live
abbrev pub uses : Node ℕ → List ℕ
uses (store m ins r n) = r ∷ ins
uses (call f ins r n) = ins
uses (tail f ins) = ins
uses (test c ins n m) = ins
uses (return_ (Some r)) = r ∷ []
uses (out r n) = r ∷ []
uses _ = []

-- the node only gives a pseudo-register a value, from these
pub data Computes : Node ℕ → (operands : List ℕ) → (result next : ℕ) → Type 0 where
  by_op : {o : Op} {ins : List ℕ} {r n : ℕ} → Computes (op o ins r n) ins r n
  by_load : {m : Mode} {ins : List ℕ} {r n : ℕ} → Computes (load m ins r n) ins r n

-- the pseudo-register that the node sets
abbrev pub set_by : Node ℕ → Option ℕ
set_by (op o ins r n) = Some r
set_by (load m ins r n) = Some r
set_by (call f ins r n) = r
set_by _ = None

-- The pseudo-register is live where node i is next: some way from there uses it before setting it, and what computes a
-- value that isn't live uses nothing. This is the least such relation
pub data IsLive (nodes : List (Node ℕ)) : (i r : ℕ) → Type 0 where
  used : {i r : ℕ} (node : Node ℕ) → slice_get nodes i ≡ Some node → IsAmong (uses node) r → IsLive nodes i r
  used_for :
      {i r d n : ℕ} {ins : List ℕ} (node : Node ℕ)
      → slice_get nodes i ≡ Some node
      → Computes node ins d n
      → IsAmong ins r
      → IsLive nodes n d
      → IsLive nodes i r
  passes :
      {i r n : ℕ} (node : Node ℕ)
      → slice_get nodes i ≡ Some node
      → IsAmong (successors node) n
      → (set_by node ≡ Some r → ⊥)
      → IsLive nodes n r
      → IsLive nodes i r

-- a table that meets the inequalities of liveness, the least or not
pub record IsSolution (nodes : List (Node ℕ)) (live : ℕ → ℕ → Bool) : Type 0 where
  pub used : (i r : ℕ) (node : Node ℕ) → slice_get nodes i ≡ Some node → IsAmong (uses node) r → live i r ≡ true
  pub used_for :
      (i r d n : ℕ) (ins : List ℕ) (node : Node ℕ)
      → slice_get nodes i ≡ Some node
      → Computes node ins d n
      → IsAmong ins r
      → live n d ≡ true
      → live i r ≡ true
  pub passes :
      (i r n : ℕ) (node : Node ℕ)
      → slice_get nodes i ≡ Some node
      → IsAmong (successors node) n
      → (set_by node ≡ Some r → ⊥)
      → live n r ≡ true
      → live i r ≡ true
