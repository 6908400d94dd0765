use Rattle.std.proofs.Common.{◌≡◌, map, take}
use Rattle.cas_rtl.specs.Code.{node_of, rtl_graph}
use Rattle.cas_tailcall.specs.Tailcall.{tail_node}
use Rattle.cas_tailcall.proofs.function.tail_nodes.Given as goal

abbrev pub invariant-loop-node : goal.invariant-loop-node
invariant-loop-node l =
    map node_of l.nodes.items ≡ map (tail_node (rtl_graph l.fn.fun)) (map node_of (take l.node-index l.fn.fun.nodes))
