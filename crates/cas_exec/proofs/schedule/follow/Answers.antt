use Rattle.std.proofs.Common.{◌∙◌, List, replicate, subst, sym}
use Rattle.cas_exec.specs.Schedule.{Follows, unrolled}
use Rattle.cas_exec.specs.declared.schedule.Item.{Item}
use Rattle.cas_tso.specs.State.{Setup}
use Rattle.cas_exec.proofs.Following.{both}
use Rattle.cas_exec.proofs.schedule.follow.Goals as goal

pub items-preserved : goal.items-preserved
items-preserved c =
    let i = c.items.invariant in
    let m = c.items.machine in
    let p = c.args.machine.now.setup in
    let item = c.in-Some.item.now in
    let more = unrolled c.in-Some.others.now in
    let u = c.repeat.new.machine.state in
    let first = replicate item.count item.choice in
    let gone = subst (λ (q : Setup). Follows q first m.state u) i.setup c.repeat.ensures.followed in
    record {
      setup = c.repeat.ensures.setup ∙ i.setup;
      left = λ t k. i.left t (subst (λ (items : List Item). Follows p (unrolled items) m.state t)
          (sym c.in-Some.ensures.cases.0) (both p first more m.state u t gone k));
    }
