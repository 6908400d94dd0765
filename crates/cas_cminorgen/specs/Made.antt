-- What Cminorgen makes of a unit: the same declarations and data, and a function for each.
use Rattle.std.specs.Prelude.{◌≡◌, ◌≤◌, List}
use Rattle.cas_base.specs.declared.decl.Unit.{Unit as UnitOf}
use Rattle.cas_mid.specs.declared.tree.CsharpFun.{CsharpFun}
use Rattle.cas_mid.specs.declared.tree.CminorFun.{CminorFun}
use Rattle.cas_mid.specs.Code.{csharp_routine, cminor_routine}
use Rattle.cas_mid.specs.Csharpminor.{csharpminor}
use Rattle.cas_mid.specs.Cminor.{cminor}
use Rattle.cas_mid.specs.Rooms.{room_of}
use Rattle.cas_runs.specs.Bounds.{weight_of}
use Rattle.cas_runs.specs.Label.{Each, Both}
use Rattle.cas_cminorgen.specs.Makes.{made_routine}
use Rattle.cas_cminorgen.specs.Match.{HasVariables}

-- the function is declared as the other, and made of it
pub record IsMadeOf (f : CminorFun) (g : CsharpFun) : Type 0 where
  pub decl : f.decl ≡ g.decl
  pub routine : cminor_routine f ≡ made_routine (csharp_routine g)

-- the unit has the other's declarations and data, and functions that are made of its functions
pub record IsMadeUnit (unit : UnitOf CminorFun) (source : UnitOf CsharpFun) : Type 0 where
  pub decls : unit.decls ≡ source.decls
  pub globals : unit.globals ≡ source.globals
  pub functions : Both IsMadeOf unit.funs source.funs

-- each function has its variables
abbrev pub HaveVariables : List CsharpFun → Type 0
HaveVariables = Each (λ g. HasVariables (csharp_routine g))

-- the function weighs no more than the other, and has no greater room
pub record IsNoLarger (f : CminorFun) (g : CsharpFun) : Type 0 where
  pub weight : weight_of cminor.tariff f ≤ weight_of csharpminor.tariff g
  pub room : room_of (cminor_routine f) ≤ room_of (csharp_routine g)
