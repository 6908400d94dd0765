use Rattle.std.proofs.Common.{ap, ◌∙◌, Err}
use Rattle.cas_top.proofs.Taking.{next_line, cut_line}
use Rattle.cas_top.proofs.answer.put_lines.Goals as goal

-- src/answer.rt:95:5
pub loop-line-preserved : goal.loop-line-preserved
loop-line-preserved g c = (
  next_line _ _ _ _ _ _ _ _ c.loop-line.invariant.0 c.in-Some.ensures.cases.0
      (c.as_bytes.ensures.value ∙ c.as_str.ensures) c.in-Ok.ensures.ok,
  c.in-Ok.ensures.counted
      ∙ c.loop-line.invariant.1,
)

-- src/answer.rt:98:39
pub returns-in-Err-Failed-clause-put : goal.returns-in-Err-Failed-clause-put
returns-in-Err-Failed-clause-put g c =
    let failed = c.in-Err-Failed.ensures.failed (ap (λ f. Err f) c.in-Err-Failed.field-0-is) in
    cut_line _ _ _ _ _ _ _ _ c.loop-line.invariant.0 c.in-Some.ensures.cases.0
    (c.as_bytes.ensures.value ∙ c.as_str.ensures) failed
