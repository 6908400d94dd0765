-- What is made of a function.
use Rattle.std.proofs.Common.{◌≡◌, ℕ, List, true, sym, ap, subst, ◌∙◌, arith}
use Rattle.cas_base.specs.declared.decl.Decl.{Decl}
use Rattle.cas_runs.specs.Calls.{language}
use Rattle.cas_runs.specs.Unit.{FunctionRefines, defines}
use Rattle.cas_runs.specs.Unmoved.{unmoved}
use Rattle.cas_runs.proofs.Matched.{functions_pass}
use Rattle.cas_runs.proofs.Unmoved.{unmoved_is}
use Rattle.cas_rtl.specs.declared.tree.RtlFun.{RtlFun}
use Rattle.cas_rtl.specs.Code.{rtl, rtl_graph}
use Rattle.cas_rtl.specs.Graph.{Graph}
use Rattle.cas_rtl.specs.Rooms.{room_of}
use Rattle.cas_tailcall.specs.Made.{IsMadeOf, IsNoLarger}
use Rattle.cas_tailcall.specs.Match.{tailcall}
use Rattle.cas_tailcall.specs.Tailcall.{HasTailCalls}
use Rattle.cas_tailcall.proofs.Making.{none_left, same_weight, same_room}
use Rattle.cas_tailcall.proofs.Simulation.{tailcall_shown}

pub function_refines : (f g : RtlFun) → IsMadeOf f g → (decls : List Decl) → defines decls g.decl.name ≡ true →
    FunctionRefines (language rtl) (language rtl) decls g.decl.name f g
function_refines f g made decls defined =
    functions_pass (unmoved (tailcall rtl_graph)) (unmoved_is (tailcall rtl_graph) (tailcall_shown rtl_graph))
    decls f g defined made.graph

pub has_tail_calls : (f g : RtlFun) → IsMadeOf f g → HasTailCalls (rtl_graph f)
has_tail_calls f g made = subst (λ (v : Graph ℕ). HasTailCalls v) (sym made.graph) (none_left (rtl_graph g))

pub no_larger : (f g : RtlFun) → IsMadeOf f g → IsNoLarger f g
no_larger f g made = record {
  weight = let same = same_weight rtl_graph f g made.graph in omega (arith, same);
  room = let same = ap room_of made.graph ∙ same_room (rtl_graph g) in omega (arith, same);
}
