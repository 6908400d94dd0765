use Rattle.std.proofs.Common.{◌≡◌, take, suc, ◌+◌, ◌++◌, [], sym, ◌∙◌, subst, ap, arith}
use Rattle.std.proofs.Math.Seq.{take-suc}
use Rattle.cas_trial.specs.Lowering.Makes.{Makes, no_more}
use Rattle.cas_trial.proofs.lowering.Made.{made_more}
use Rattle.cas_trial.proofs.lowering.lower.Goals as goal

pub loop-instruction-init : goal.loop-instruction-init
loop-instruction-init c = subst (λ ts. Makes ts []) (sym c.new-made.ensures.items) no_more

pub loop-instruction-preserved : goal.loop-instruction-preserved
loop-instruction-preserved c =
    let e = c.in_ok-add_made.ensures in
    let items = c.as_slice-instruction-items.result.now in
    let index = c.loop-instruction.instruction-index in
    let next : index + 1 ≡ suc index = omega arith in
    subst (λ us. Makes us (take (index + 1) items)) (sym e.1)
    (subst (λ is. Makes (c.loop-instruction.made.items ++ e.0) is)
    (sym (ap (λ n. take n items) next ∙ take-suc items index _ c.loop-instruction-test.true))
    (made_more c.loop-instruction.invariant e.0 _ e.2))
