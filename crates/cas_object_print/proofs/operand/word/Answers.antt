use mir.Syntax.{w32}
use mir.Val.{to_z, of_z}
use Rattle.std.proofs.Common.{◌≡◌, ap, ◌∙◌}
use Rattle.std.specs.Prelude.{ℤ}
use Rattle.std.proofs.lemmas.Int.{to_z-of_z}
use Rattle.cas_base.proofs.WordLaws.{signed_fits}
use Rattle.cas_base.specs.Word.{signed}
use Rattle.cas_object_print.proofs.Written.{IfOk-map, same_integer}
use Rattle.cas_object_print.proofs.operand.word.Goals as goal

pub returns : goal.returns
returns c =
    let passed : to_z w32 (of_z w32 c.signed-value.result) ≡ signed c.args.word =
    ap (λ (x : ℤ). to_z w32 (of_z w32 x)) c.signed-value.ensures
    ∙ to_z-of_z w32 (signed c.args.word) (signed_fits c.args.word c.ranges.word.fits)
    in
    λ rest. IfOk-map c.integer.result _ _ (λ _ h. same_integer _ _ rest _ _ passed h) (c.integer.ensures rest)
