use Rattle.std.proofs.Common.{ℕ, ap, w32}
use Rattle.std.proofs.Math.Facts.{of_z-to_z}
use Rattle.std.proofs.lemmas.Result.{IfOk-equal}
use Rattle.cas_base.specs.Word.{signed}
use Rattle.cas_print.specs.Page.{followed_by}
use Rattle.cas_print.specs.Items.{printed_integer}
use Rattle.cas_print.proofs.item.signed.Goals as goal

pub returns : goal.returns
returns c rest =
    IfOk-equal _ _ _ _ (c.integer.ensures rest)
    (rw c.cast_signed.ensures
    (ap (λ (n : ℕ). followed_by c.args.page.now (printed_integer (signed n) rest))
    (of_z-to_z {w = w32} {n = c.args.word} c.ranges.word)))
