-- The rooms of functions of graphs: no later form of a function takes more words of stack than its room. Each
-- pseudo-register takes a word, and so does each argument of a call.
use Rattle.std.specs.Prelude.{ℕ, ◌+◌, List, [], ◌∷◌, length}
use Rattle.cas_runs.specs.Bounds.{total}
use Rattle.cas_mid.specs.Rooms.{fixed_room}
use Rattle.cas_rtl.specs.Graph.{Node, call, tail, Graph}

module _ {R : Type 0} where
  -- the arguments of a node
  abbrev pub passed_at : Node R → ℕ
  passed_at (call f ins r n) = length ins
  passed_at (tail f ins) = length ins
  passed_at _ = 0

  -- those of all nodes
  abbrev pub passed : List (Node R) → ℕ
  passed [] = 0
  passed (node ∷ nodes) = passed_at node + passed nodes

  abbrev pub room_of : Graph R → ℕ
  room_of g = total g.blocks + g.names + passed g.nodes + fixed_room
