use Rattle.std.proofs.Common.{◌∙◌, ap}
use Rattle.std.proofs.lemmas.Result.{IfOk-equal}
use Rattle.cas_print.specs.Page.{followed_by}
use Rattle.cas_print.proofs.Values.{printed_holds-some}
use Rattle.cas_print.proofs.item.held.Goals as goal

pub returns : goal.returns
returns c rest =
    IfOk-equal _ _ _ _ (c.sign-2.ensures rest)
    (c.in_ok-names.ensures _ ∙ c.in_ok-sign.ensures _ ∙ c.in_ok-word.ensures _
    ∙ ap (followed_by c.args.page.now) (printed_holds-some c.args.locks.now rest c.if-is_empty.ensures))
