use Rattle.std.proofs.Common.{◌≡◌, ◌∙◌, ap, w32}
use Rattle.std.specs.Prelude.{unsigned_abs}
use Rattle.std.proofs.lemmas.Int.{to_z-of_z}
use Rattle.std.proofs.lemmas.Result.{IfOk-equal}
use Rattle.cas_print.specs.Page.{followed_by}
use Rattle.cas_print.proofs.Values.{below_zero, not_below_zero}
use Rattle.cas_print.proofs.item.integer.Goals as goal
use Rattle.cas_print.proofs.item.integer.Goals.{then-integer-lt0+in_ok-sign, else-integer-lt0}

pub returns : goal.returns
returns c rest =
    let same = to_z-of_z w32 c.args.integer c.ranges.integer in
    let abs : c.unsigned_abs.result ≡ unsigned_abs c.args.integer = rw same at c.unsigned_abs.ensures.value in
    IfOk-equal _ _ _ _ (c.plain_number.ensures rest)
    (elim c.if-integer-lt0.branch [
      | then-integer-lt0+in_ok-sign w ↦
          rw w.page-is (w.in_ok-sign.ensures _ ∙ ap (followed_by c.args.page.now)
          (below_zero c.args.integer c.unsigned_abs.result rest abs (rw same at w.if-integer-lt0.true)))
      | else-integer-lt0 w ↦
          rw w.page-is (ap (followed_by c.args.page.now)
          (not_below_zero c.args.integer c.unsigned_abs.result rest abs (rw same at w.if-integer-lt0.false)))
    ])
