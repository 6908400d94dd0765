-- What Tailcall makes of a function: the same declaration, and the graph with tail calls.
use Rattle.std.specs.Prelude.{◌≡◌, ◌≤◌}
use Rattle.cas_runs.specs.Bounds.{weight_of}
use Rattle.cas_rtl.specs.declared.tree.RtlFun.{RtlFun}
use Rattle.cas_rtl.specs.Code.{rtl, rtl_graph}
use Rattle.cas_rtl.specs.Rooms.{room_of}
use Rattle.cas_tailcall.specs.Tailcall.{tailed}

pub record IsMadeOf (f g : RtlFun) : Type 0 where
  pub decl : f.decl ≡ g.decl
  pub graph : rtl_graph f ≡ tailed (rtl_graph g)

-- the function weighs no more than the other, and has no greater room
pub record IsNoLarger (f g : RtlFun) : Type 0 where
  pub weight : weight_of rtl.tariff f ≤ weight_of rtl.tariff g
  pub room : room_of (rtl_graph f) ≤ room_of (rtl_graph g)
