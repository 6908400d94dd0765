use Rattle.std.proofs.Common.{◌∙◌, sym}
use Rattle.cas_lex.proofs.Comments.{closing_len-step}
use Rattle.cas_lex.proofs.comment.closing_len.Goals as goal

pub loop-i-preserved : goal.loop-i-preserved
loop-i-preserved c =
    let text = c.args.text.now in
    let i = c.loop-i.i in
    sym (closing_len-step text i c.loop-i-test.true (sym c.starts_with.ensures.value ∙ c.if-starts_with.false))
    ∙ c.loop-i.invariant
