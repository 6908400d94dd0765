use Rattle.std.proofs.Common.{◌≡◌, length, ap, ◌∙◌}
use Rattle.std.proofs.lemmas.Result.{IfOk-weaker}
use Rattle.cas_type.specs.Parts.{marks_of, marked_locals, pointers_of_rows}
use Rattle.cas_type.proofs.Marks_lemmas.{locals_marked}
use Rattle.cas_type.proofs.Pointer_laws.{pointers_law}
use Rattle.cas_typed.specs.Modules.{locals_in}
use Rattle.cas_type.proofs.function.locals_of.Goals as goal

pub returns : goal.returns
returns c bs ns rows size =
    let tys = c.args.tys.now in
    let same : marked_locals c.deref-2.result.now 0 tys ≡ locals_in bs 0 0 tys =
    ap (λ ms. marked_locals ms 0 tys)
    (c.deref-2.ensures.value ∙ c.in_ok-marks.ensures ∙ ap (λ ks. marks_of ks 0 (length tys))
    (c.deref.ensures.value ∙ c.in_ok-numbers.ensures))
    ∙ locals_marked bs (pointers_of_rows c.args.rows.now) 0 0 tys (λ j. pointers_law j c.args.rows.now bs ns rows size)
    in
    IfOk-weaker c.locals.result _ _ (λ locals h. h ∙ same) c.locals.ensures
