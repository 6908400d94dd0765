-- What the code's nodes and functions hold.
use Rattle.std.specs.Prelude.{map}
use Rattle.cas_runs.specs.Calls.{Activations, one_block}
use Rattle.cas_ltl.specs.declared.tree.LtlFun.{LtlFun}
use Rattle.cas_ltl.specs.declared.tree.LtlNode.{LtlNode}
use Rattle.cas_ltl.specs.declared.tree.LtlNode.TheVariants as code
use Rattle.cas_rtl.specs.Graph.{Node, nop, op, load, store, call, tail, test, return_, lock, unlock, out, Graph}
use Rattle.cas_ltl.specs.declared.tree.Loc.{Loc}
use Rattle.cas_ltl.specs.Ltl as language
use Rattle.cas_ltl.specs.Ltl.{LtlPoint}

abbrev pub node_of : LtlNode → Node Loc
node_of (code.Nop n) = nop n
node_of (code.Op o ins r n) = op o ins r n
node_of (code.Load m ins r n) = load m ins r n
node_of (code.Store m ins r n) = store m ins r n
node_of (code.Call f ins r n) = call f ins r n
node_of (code.Tail f ins) = tail f ins
node_of (code.Test c ins n m) = test c ins n m
node_of (code.Return r) = return_ r
node_of (code.Lock name n) = lock name n
node_of (code.Unlock name n) = unlock name n
node_of (code.Out r n) = out r n

abbrev pub ltl_graph : LtlFun → Graph Loc
ltl_graph f = record {
  name = f.decl.name;
  parameters = f.params;
  blocks = one_block f.block;
  names = f.slots;
  entry = f.entry;
  nodes = map node_of f.nodes;
}

-- LTL, over the code's functions
abbrev pub ltl : Activations LtlFun LtlPoint
ltl = language.ltl ltl_graph
