use Rattle.std.proofs.Common.{◌∙◌}
use Rattle.std.proofs.lemmas.Result.{IfOk-equal}
use Rattle.cas_print.proofs.part.call.Goals as goal

pub returns : goal.returns
returns c rest =
    IfOk-equal _ _ _ _ (c.sign-2.ensures rest) (c.in_ok-exprs.ensures _ ∙ c.in_ok-sign.ensures _
    ∙ c.in_ok-name.ensures _)
