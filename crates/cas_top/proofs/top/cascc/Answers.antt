use Rattle.std.proofs.Common.{sym, refl, inr}
use Rattle.cas_top.proofs.Ends.{unwritten_command, untold_usage}
use Rattle.cas_top.proofs.top.cascc.Goals as goal

pub returns-in-Err-perform-clause-unwritten : goal.returns-in-Err-perform-clause-unwritten
returns-in-Err-perform-clause-unwritten g c = λ four.
    let given = rw c.in-Ok-Some.field-0-is at c.in-Ok-Some.ensures.given in
    rw (sym given)
    (unwritten_command _ _ _ _ _ _ _ _ c.in-Err-perform.refusal _ _ _ _ _ c.in-Err-perform.ensures.end
    c.in-Err-perform.ensures.counted c.refuse.ensures four)

pub returns-in-Ok-None-clause-unwritten : goal.returns-in-Ok-None-clause-unwritten
returns-in-Ok-None-clause-unwritten g c = λ four.
    let given = rw c.in-Ok-None.field-0-is at c.in-Ok-None.ensures.given in
    rw (sym given) (inr (refl, refl, untold_usage _ _ _ _ _ _ _ _ c.refuse-in-Ok-None.ensures four))
