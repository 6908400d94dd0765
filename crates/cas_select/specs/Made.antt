-- What Selection makes of a unit: the same declarations and data, and a function for each.
use Rattle.std.specs.Prelude.{◌≡◌, ◌≤◌}
use Rattle.cas_base.specs.declared.decl.Unit.{Unit as UnitOf}
use Rattle.cas_runs.specs.Bounds.{weight_of}
use Rattle.cas_runs.specs.Label.{Both}
use Rattle.cas_mid.specs.declared.tree.CminorFun.{CminorFun}
use Rattle.cas_mid.specs.Cminor.{cminor}
use Rattle.cas_mid.specs.Code.{cminor_routine}
use Rattle.cas_sel.specs.declared.tree.SelFun.{SelFun}
use Rattle.cas_sel.specs.CminorSel.{cminorsel}
use Rattle.cas_sel.specs.Code.{sel_routine}
use Rattle.cas_select.specs.Makes.{made_routine}

-- the function is declared as the other, and made of it
pub record IsMadeOf (f : SelFun) (g : CminorFun) : Type 0 where
  pub decl : f.decl ≡ g.decl
  pub routine : sel_routine f ≡ made_routine (cminor_routine g)

-- the unit has the other's declarations and data, and functions that are made of its functions
pub record IsMadeUnit (unit : UnitOf SelFun) (source : UnitOf CminorFun) : Type 0 where
  pub decls : unit.decls ≡ source.decls
  pub globals : unit.globals ≡ source.globals
  pub functions : Both IsMadeOf unit.funs source.funs

-- the function weighs no more than the other
abbrev pub IsNoHeavier : SelFun → CminorFun → Type 0
IsNoHeavier f g = weight_of cminorsel.tariff f ≤ weight_of cminor.tariff g
