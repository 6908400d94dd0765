use Rattle.std.proofs.Common.{◌<◌, ◌++◌, ◌-◌, false, length, replicate, ap, ◌∙◌, arith}
use Rattle.std.proofs.lemmas.Grind.{common_steps}
use Rattle.cas_type.proofs.Marks_lemmas.{filled_step}
use Rattle.cas_type.proofs.marks.unmarked.Goals as goal

pub more-preserved : goal.more-preserved
more-preserved c =
    let few : length c.more.marks.items < c.args.count = grind (arith, common_steps) in
    ap (λ bs. bs ++ replicate (c.args.count - length bs) false) c.in_ok-push.ensures.items
    ∙ filled_step false c.more.marks.items c.args.count few
    ∙ c.more.invariant
