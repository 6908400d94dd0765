use Rattle.std.proofs.Common.{ℕ, ◌==◌, ◌++◌, ◌∷◌, ap, ◌∙◌, count_by, arith}
use Rattle.cas_link.specs.Parts.{is_run}
use Rattle.cas_link.specs.Code.{labels_from}
use Rattle.cas_link.proofs.Finding.{found-step}
use Rattle.cas_link.proofs.code.add_labels.Goals as goal

pub lines-preserved-in_ok-add-in-Label : goal.lines-preserved-in_ok-add-in-Label
lines-preserved-in_ok-add-in-Label c =
    let others = c.in-Some.others.now in
    let rest = c.in-Some.ensures.cases.0 ∙ ap (λ line. line ∷ others) c.in-Label.is in
    record {
      found = found-step (λ (a b : ℕ). a == b) c.lines.labels c.add.new.self
          (labels_from c.lines.at others)
          (labels_from c.lines.at c.lines.rest.now)
          (c.args.labels.now ++ labels_from c.args.place c.args.lines.now)
          (c.in-Label.label, c.lines.at)
          c.in_ok-add-in-Label.ensures
          (ap (labels_from c.lines.at) rest)
          c.lines.invariant.found;
      counted = omega (arith, c.lines.invariant.counted, ap (count_by is_run) rest);
    }
