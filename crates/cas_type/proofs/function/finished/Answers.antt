use Rattle.std.proofs.Common.{◌≡◌, ◌++◌, Ok, length, refl, ap, sym, subst, ◌∙◌}
use Rattle.cas_syntax.specs.Tree.{fun_tree}
use Rattle.cas_typed.specs.Counts.{local_types}
use Rattle.cas_typed.specs.Faults.{unless}
use Rattle.cas_typed.specs.Modules.{locals_in}
use Rattle.cas_typed.specs.Numbered.{AreRows}
use Rattle.cas_typed.specs.Resolved.{TypedFunTree}
use Rattle.cas_type.proofs.function.finished.Goals as goal

pub returns : goal.returns
returns c bs rows size =
    let f = fun_tree c.args.fun.now in
    let r : TypedFunTree = record { item = c.args.item; locals = locals_in bs 0 0 (local_types f); body = bs } in
    let there = c.as_slice-2.ensures in
    let tys : c.deref-2.result.now ≡ local_types f =
    c.deref-2.ensures.value ∙ c.in_ok-tys.ensures
    ∙ (λ i. c.parameter_types.ensures i ++ (c.as_slice.ensures ∙ c.requires) i) in
    let locals = c.in_ok-locals.ensures bs c.args.walked.body
    (subst (λ rs. AreRows rs 0 bs c.args.walked.body) (sym there) rows)
    (ap length there ∙ size) ∙ ap (locals_in bs 0 0) tys in (
      r,
      ap (λ o. unless o (Ok r)) c.in_ok-check_sizes.ensures.counts,
      record { item = refl; locals = locals; rows = rows; size = size },
    )
