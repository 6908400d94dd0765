use Rattle.std.proofs.Common.{sym, ap, ◌∙◌, to_z, of_z, w64}
use Rattle.cas_step.specs.Operators.{place_below}
use Rattle.cas_eval.specs.Answer.{eval_state}
use Rattle.cas_eval.proofs.Answering.{ok_then, stopped, place_found, place_missing, no_place}
use Rattle.cas_eval.proofs.Numbers.{passed}
use Rattle.cas_eval.proofs.context.EvalContext.element_place.Goals as goal

pub returns-in_err-word_in : goal.returns-in_err-word_in
returns-in_err-word_in c = stopped _ _ (eval_state c.args.self.now) _ _ c.from_residual.ensures.1
    (c.in_err-word_in.ensures (eval_state c.args.self.now))

pub returns-in-None : goal.returns-in-None
returns-in-None c =
    ok_then (eval_state c.args.self.now) _ _ _ _ (c.in_ok-word_in.ensures (eval_state c.args.self.now))
    (no_place (eval_state c.args.self.now) _ _ (sym c.length.ensures ∙ c.in-None.is))

pub returns-in-Some-place_below : goal.returns-in-Some-place_below
returns-in-Some-place_below c =
    let n = c.number_of-number in
    ok_then (eval_state c.args.self.now) _ _ _ _ (c.in_ok-word_in.ensures (eval_state c.args.self.now))
    (place_found (eval_state c.args.self.now) _ _ c.in-Some.length _ (sym c.length.ensures ∙ c.in-Some.is)
    (sym c.in-Some-place_below.is ∙ c.place_below.ensures
    ∙ ap (λ k. place_below k (to_z w64 (of_z w64 n.result))) c.from.ensures
    ∙ ap (place_below c.in-Some.length) (passed n.result n.ensures.low n.ensures.high ∙ n.ensures.number)))

pub returns-in-None-place_below : goal.returns-in-None-place_below
returns-in-None-place_below c =
    let n = c.number_of-number in
    ok_then (eval_state c.args.self.now) _ _ _ _ (c.in_ok-word_in.ensures (eval_state c.args.self.now))
    (place_missing (eval_state c.args.self.now) _ _ c.in-Some.length (sym c.length.ensures ∙ c.in-Some.is)
    (sym c.in-None-place_below.is ∙ c.place_below.ensures
    ∙ ap (λ k. place_below k (to_z w64 (of_z w64 n.result))) c.from.ensures
    ∙ ap (place_below c.in-Some.length) (passed n.result n.ensures.low n.ensures.high ∙ n.ensures.number)))
