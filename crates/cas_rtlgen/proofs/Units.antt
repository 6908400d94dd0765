-- What is made of the functions of a unit.
use Rattle.std.proofs.Common.{◌≡◌, ℕ, ◌+◌, ◌<◌, List, [], ◌∷◌, ◌++◌, length, take, get_or, ap, sym, subst, ◌∙◌, arith, add-one}
use Rattle.std.proofs.Math.Seq.{take-suc}
use Rattle.cas_base.specs.declared.decl.Decl.{Decl}
use Rattle.cas_base.specs.declared.decl.Unit.{Unit as UnitOf}
use Rattle.cas_runs.specs.Calls.{language}
use Rattle.cas_runs.specs.Label.{Both}
use Rattle.cas_runs.specs.Unit.{AreDefined, UnitRefines}
use Rattle.cas_runs.specs.Unmoved.{unmoved}
use Rattle.cas_runs.proofs.Matched.{units_pass}
use Rattle.cas_runs.proofs.Unmoved.{unmoved_is}
use Rattle.cas_sel.specs.declared.tree.SelFun.{SelFun}
use Rattle.cas_sel.specs.CminorSel.{cminorsel}
use Rattle.cas_sel.specs.Code.{sel_routine}
use Rattle.cas_rtl.specs.declared.tree.RtlFun.{RtlFun}
use Rattle.cas_rtl.specs.Code.{rtl, rtl_graph}
use Rattle.cas_rtl.specs.Graph.{Graph}
use Rattle.cas_rtl.specs.Rooms.{room_of}
use Rattle.cas_rtlgen.specs.Made.{IsMadeOf, IsMadeUnit, IsNoLarger}
use Rattle.cas_rtlgen.specs.Makes.{IsMadeGraph}
use Rattle.cas_rtlgen.specs.Match.{IsMade}
use Rattle.cas_rtlgen.proofs.Making.{graph_is}
use Rattle.cas_rtlgen.proofs.Pass.{rtlgen_shown}
use Rattle.cas_rtlgen.proofs.Queries.{rtlgen}
use Rattle.cas_rtlgen.proofs.Rooms.{same_room}
use Rattle.cas_rtlgen.proofs.Weighing.{graph_weighs}

pub is_made : (decls : List Decl) (f : RtlFun) (g : SelFun) → IsMadeOf f g → IsMade decls f g
is_made decls f g made = subst (λ (v : Graph ℕ). IsMadeGraph v (sel_routine g)) (sym made.graph)
    (graph_is (sel_routine g))

no_larger : (f : RtlFun) (g : SelFun) → IsMadeOf f g → IsNoLarger f g
no_larger f g made = record {
  weight = graph_weighs rtl_graph f g made.graph;
  room = let same = ap room_of made.graph ∙ same_room g in omega (arith, same);
}

each : {P Q : RtlFun → SelFun → Type 0} → ((f : RtlFun) (g : SelFun) → P f g → Q f g) →
    (fs : List RtlFun) (gs : List SelFun) → Both P fs gs → Both Q fs gs
each h [] [] all = tt
each h [] (g ∷ gs) all = absurd all
each h (f ∷ fs) [] all = absurd all
each h (f ∷ fs) (g ∷ gs) all = (h f g all.0, each h fs gs all.1)

pub none_larger : (unit : UnitOf RtlFun) (source : UnitOf SelFun) → IsMadeUnit unit source →
    Both IsNoLarger unit.funs source.funs
none_larger unit source made = each no_larger unit.funs source.funs made.functions

pub unit_refines : (unit : UnitOf RtlFun) (source : UnitOf SelFun) → IsMadeUnit unit source →
    AreDefined (language cminorsel) source.decls source.funs
    → UnitRefines (language rtl) (language cminorsel) unit source
unit_refines unit source made defined =
    units_pass (unmoved (rtlgen rtl_graph)) (unmoved_is (rtlgen rtl_graph) (rtlgen_shown rtl_graph)) unit source
    made.decls made.globals defined (each (is_made source.decls) unit.funs source.funs made.functions)

-- one function more
both_more : (fs : List RtlFun) (gs : List SelFun) (f : RtlFun) (g : SelFun) → Both IsMadeOf fs gs → IsMadeOf f g →
    Both IsMadeOf (fs ++ f ∷ []) (gs ++ g ∷ [])
both_more [] [] f g all one = (one, tt)
both_more [] (y ∷ gs) f g all one = absurd all
both_more (x ∷ fs) [] f g all one = absurd all
both_more (x ∷ fs) (y ∷ gs) f g all one = (all.0, both_more fs gs f g all.1 one)

pub both_one : (fs : List RtlFun) (gs : List SelFun) (k : ℕ) (f : RtlFun) (g : SelFun) → k < length gs →
    g ≡ get_or gs k g → Both IsMadeOf fs (take k gs) → IsMadeOf f g → Both IsMadeOf (fs ++ f ∷ []) (take (k + 1) gs)
both_one fs gs k f g lt is all one =
    let more = ap (λ n. take n gs) (add-one k) ∙ take-suc gs k g lt ∙ ap (λ x. take k gs ++ x ∷ []) (sym is) in
    subst (λ (xs : List SelFun). Both IsMadeOf (fs ++ f ∷ []) xs) (sym more) (both_more fs (take k gs) f g all one)
