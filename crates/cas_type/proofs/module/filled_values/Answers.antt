use Rattle.std.proofs.Common.{◌<◌, ◌++◌, ◌-◌, length, replicate, ap, ◌∙◌, arith}
use Rattle.std.proofs.lemmas.Grind.{common_steps}
use Rattle.cas_type.proofs.Marks_lemmas.{filled_step}
use Rattle.cas_type.proofs.module.filled_values.Goals as goal

pub more-preserved : goal.more-preserved
more-preserved c =
    let few : length c.more.filled.items < c.args.elements = grind (arith, common_steps) in
    ap (λ bs. bs ++ replicate (c.args.elements - length bs) 0) c.in_ok-push.ensures.items
    ∙ filled_step 0 c.more.filled.items c.args.elements few
    ∙ c.more.invariant
