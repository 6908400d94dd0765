use Rattle.std.specs.List.{prefix_len}
use Rattle.std.proofs.Common.{◌∙◌, take, drop, ap, ℕ}
use Rattle.cas_pieces.specs.Lines.{is_inner}
use Rattle.cas_pieces.proofs.Cutting.{lines-last, lines-more, joined-more}
use Rattle.cas_pieces.proofs.cut.cut_line.Goals as goal

pub returns-in-Some-clause-lines : goal.returns-in-Some-clause-lines
returns-in-Some-clause-lines c =
    let text = c.args.text.now in
    lines-more text _ _ _ _ (c.split_at.ensures.front ∙ ap (λ (n : ℕ). take n text) c.line_len.ensures.value)
    (c.split_at.ensures.back ∙ ap (λ (n : ℕ). drop n text) c.line_len.ensures.value) c.in-Some.ensures.cases.0

pub returns-in-Some-clause-joined : goal.returns-in-Some-clause-joined
returns-in-Some-clause-joined c =
    let text = c.args.text.now in
    joined-more text _ _ _ _ (c.split_at.ensures.front ∙ ap (λ (n : ℕ). take n text) c.line_len.ensures.value)
    (c.split_at.ensures.back ∙ ap (λ (n : ℕ). drop n text) c.line_len.ensures.value) c.in-Some.ensures.cases.0

pub returns-in-None-clause-lines : goal.returns-in-None-clause-lines
returns-in-None-clause-lines c =
    let text = c.args.text.now in
    lines-last text _ _ (c.split_at.ensures.front ∙ ap (λ (n : ℕ). take n text) c.line_len.ensures.value)
    (c.split_at.ensures.back ∙ ap (λ (n : ℕ). drop n text) c.line_len.ensures.value) c.in-None.ensures.cases
