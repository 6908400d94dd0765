use Rattle.std.proofs.Common.{reverse, ◌∷◌, ap, ◌∙◌}
use Rattle.cas_thread.proofs.First_statement.{no_for, none_part, some_part}
use Rattle.cas_thread.proofs.first.first_number.Goals as goal

pub returns-in_err-next_part-in-Next-clause-none : goal.returns-in_err-next_part-in-Next-clause-none
returns-in_err-next_part-in-Next-clause-none c =
    let some = c.in_ok-number.ensures.some in
    let first = some.1 ∙ ap (λ it. it ∷ some.0) c.in-Next.is in
    no_for c.args.rows.now c.in-Next.number (reverse c.args.cont.now)
    some.0 first c.from_residual-in_err-next_part-in-Next.result c.in_err-next_part-in-Next.ensures.none

pub returns-in_ok-next_part-in-Next-clause-some : goal.returns-in_ok-next_part-in-Next-clause-some
returns-in_ok-next_part-in-Next-clause-some c =
    let some = c.in_ok-number.ensures.some in
    let first = some.1 ∙ ap (λ it. it ∷ some.0) c.in-Next.is in
    let part = c.in_ok-next_part-in-Next in
    some_part c.args.rows.now c.in-Next.number (reverse c.args.cont.now) some.0 first part.field-0 part.ensures.some

pub returns-in_ok-next_part-in-Next-clause-none : goal.returns-in_ok-next_part-in-Next-clause-none
returns-in_ok-next_part-in-Next-clause-none c =
    let some = c.in_ok-number.ensures.some in
    let first = some.1 ∙ ap (λ it. it ∷ some.0) c.in-Next.is in
    let part = c.in_ok-next_part-in-Next in
    none_part c.args.rows.now c.in-Next.number (reverse c.args.cont.now) some.0 first part.field-0 part.ensures.some
