-- What RTLgen makes of a unit: the same declarations and data, and a graph for each function.
use Rattle.std.specs.Prelude.{◌≡◌, ◌≤◌}
use Rattle.cas_base.specs.declared.decl.Unit.{Unit as UnitOf}
use Rattle.cas_runs.specs.Bounds.{weight_of}
use Rattle.cas_runs.specs.Label.{Both}
use Rattle.cas_sel.specs.declared.tree.SelFun.{SelFun}
use Rattle.cas_sel.specs.CminorSel.{cminorsel}
use Rattle.cas_sel.specs.Code.{sel_routine}
use Rattle.cas_sel.specs.Rooms as sel
use Rattle.cas_rtl.specs.declared.tree.RtlFun.{RtlFun}
use Rattle.cas_rtl.specs.Code.{rtl, rtl_graph}
use Rattle.cas_rtl.specs.Rooms.{room_of}
use Rattle.cas_rtlgen.specs.Making.{made_graph}

-- the function is declared as the other, and its graph is made of it
pub record IsMadeOf (f : RtlFun) (g : SelFun) : Type 0 where
  pub decl : f.decl ≡ g.decl
  pub graph : rtl_graph f ≡ made_graph (sel_routine g)

-- the unit has the other's declarations and data, and functions that are made of its functions
pub record IsMadeUnit (unit : UnitOf RtlFun) (source : UnitOf SelFun) : Type 0 where
  pub decls : unit.decls ≡ source.decls
  pub globals : unit.globals ≡ source.globals
  pub functions : Both IsMadeOf unit.funs source.funs

-- the function weighs no more than the other, and has no greater room
pub record IsNoLarger (f : RtlFun) (g : SelFun) : Type 0 where
  pub weight : weight_of rtl.tariff f ≤ weight_of cminorsel.tariff g
  pub room : room_of (rtl_graph f) ≤ sel.room_of (sel_routine g)
