-- What the code's nodes and functions hold.
use Rattle.std.specs.Prelude.{ℕ, map}
use Rattle.cas_runs.specs.Calls.{Activations, one_block}
use Rattle.cas_rtl.specs.declared.tree.RtlFun.{RtlFun}
use Rattle.cas_rtl.specs.declared.tree.RtlNode.{RtlNode}
use Rattle.cas_rtl.specs.declared.tree.RtlNode.TheVariants as code
use Rattle.cas_rtl.specs.Graph.{Node, nop, op, load, store, call, tail, test, return_, lock, unlock, out, Graph}
use Rattle.cas_rtl.specs.Rtl as language
use Rattle.cas_rtl.specs.Rtl.{RtlPoint}

abbrev pub node_of : RtlNode → Node ℕ
node_of (code.Nop n) = nop n
node_of (code.Op o ins r n) = op o ins r n
node_of (code.Load m ins r n) = load m ins r n
node_of (code.Store m ins r n) = store m ins r n
node_of (code.Call f ins r n) = call f ins r n
node_of (code.Tail f ins) = tail f ins
node_of (code.Test c ins n m) = test c ins n m
node_of (code.Return r) = return_ r
node_of (code.Lock name n) = lock name n
node_of (code.Unlock name n) = unlock name n
node_of (code.Out r n) = out r n

abbrev pub rtl_graph : RtlFun → Graph ℕ
rtl_graph f = record {
  name = f.decl.name;
  parameters = f.params;
  blocks = one_block f.block;
  names = f.regs;
  entry = f.entry;
  nodes = map node_of f.nodes;
}

-- RTL, over the code's functions
abbrev pub rtl : Activations RtlFun RtlPoint
rtl = language.rtl rtl_graph
