-- What is made of the functions of a unit.
use Rattle.std.proofs.Common.{List, [], ◌∷◌}
use Rattle.cas_base.specs.declared.decl.Decl.{Decl}
use Rattle.cas_base.specs.declared.decl.Unit.{Unit as UnitOf}
use Rattle.cas_runs.specs.Calls.{language}
use Rattle.cas_runs.specs.Label.{Both}
use Rattle.cas_runs.specs.Placing.{moved_blocks}
use Rattle.cas_runs.specs.Unit.{AreDefined, UnitRefines}
use Rattle.cas_runs.proofs.Matched.{units_pass}
use Rattle.cas_runs.proofs.Bringing.{moved_is}
use Rattle.cas_mid.specs.declared.tree.CsharpFun.{CsharpFun}
use Rattle.cas_mid.specs.declared.tree.CminorFun.{CminorFun}
use Rattle.cas_mid.specs.Code.{csharp_routine}
use Rattle.cas_mid.specs.Csharpminor.{csharpminor}
use Rattle.cas_mid.specs.Cminor.{cminor}
use Rattle.cas_cminorgen.specs.Match.{HasVariables, IsMade, cminorgen}
use Rattle.cas_cminorgen.specs.Made.{IsMadeOf, IsMadeUnit, HaveVariables, IsNoLarger}
use Rattle.cas_cminorgen.proofs.Pass.{cminorgen_shown}
use Rattle.cas_cminorgen.proofs.Rooms.{weighs_no_more, room_no_greater}

each : {P : CminorFun → CsharpFun → Type 0} →
    ((f : CminorFun) (g : CsharpFun) → IsMadeOf f g → HasVariables (csharp_routine g) → P f g) →
    (fs : List CminorFun) (gs : List CsharpFun) → Both IsMadeOf fs gs → HaveVariables gs → Both P fs gs
each h [] [] all variables = tt
each h [] (g ∷ gs) all variables = absurd all
each h (f ∷ fs) [] all variables = absurd all
each h (f ∷ fs) (g ∷ gs) all variables = (h f g all.0 variables.0, each h fs gs all.1 variables.1)

pub is_made : (decls : List Decl) (f : CminorFun) (g : CsharpFun) → IsMadeOf f g → HasVariables (csharp_routine g) →
    IsMade decls f g
is_made decls f g made variables = record { routine = made.routine; variables = variables }

no_larger : (f : CminorFun) (g : CsharpFun) → IsMadeOf f g → HasVariables (csharp_routine g) → IsNoLarger f g
no_larger f g made variables = record {
  weight = weighs_no_more f g made.routine (is_made [] f g made variables);
  room = room_no_greater f g made.routine;
}

pub none_larger : (t : UnitOf CminorFun) (s : UnitOf CsharpFun) → IsMadeUnit t s → HaveVariables s.funs →
    Both IsNoLarger t.funs s.funs
none_larger t s made variables = each no_larger t.funs s.funs made.functions variables

pub unit_refines : (t : UnitOf CminorFun) (s : UnitOf CsharpFun) → IsMadeUnit t s → HaveVariables s.funs →
    AreDefined (language csharpminor) s.decls s.funs → UnitRefines (language cminor) (language csharpminor) t s
unit_refines t s made variables defined =
    units_pass (moved_blocks cminorgen) (moved_is cminorgen cminorgen_shown) t s made.decls made.globals defined
    (each (is_made s.decls) t.funs s.funs made.functions variables)
