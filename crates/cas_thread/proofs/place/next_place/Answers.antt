use Rattle.std.proofs.Common.{ℕ, Option, subst, ◌∙◌}
use Rattle.cas_thread.specs.Continuations.{IsPart}
use Rattle.cas_thread.proofs.Placing.{next_is, none_next}
use Rattle.cas_thread.proofs.place.next_place.Goals as goal

pub returns-in-Some : goal.returns-in-Some
returns-in-Some c = λ closing rest it shows.
    let rows = c.args.rows.now in
    c.place_at.ensures ∙ next_is rows c.args.number closing rest c.in-Some.next
    (λ p u at. subst (λ (o : Option ℕ). IsPart rows u o) c.in-Some.is (c.in_ok-next.ensures.some p u at)) it shows

pub returns-in-None : goal.returns-in-None
returns-in-None c = λ closing rest it shows.
    let rows = c.args.rows.now in
    c.place_at-in-None.ensures ∙ none_next rows c.args.number closing rest
    (λ p u at. subst (λ (o : Option ℕ). IsPart rows u o) c.in-None.is (c.in_ok-next.ensures.some p u at)) it shows
