-- The values of arguments, one after another.
use Rattle.std.proofs.Common.{arith, ◌≡◌, List, [], ◌∷◌, ◌++◌, length, append_assoc, append-nil, Result, Ok, Err, refl, sym, ap, ◌∙◌}
use Rattle.std.specs.Result.{IsErrAnd}
use Rattle.std.proofs.lemmas.Result.{err_from_is_err_and}
use Rattle.cas_step.specs.Asks.{Value, gives, and_then}
use Rattle.cas_step.specs.Evaluate.{values_of}
use Rattle.cas_step.specs.Evaluate as e
use Rattle.cas_step.specs.Step.{Object}
use Rattle.cas_typed.specs.Resolved.{TypedExprTree}
use Rattle.cas_eval.specs.Answer.{EvalState, answer, eval_context, map_answer}
use Rattle.cas_eval.specs.Arguments.{nothing}
use Rattle.cas_eval.proofs.Answering.{given, answer_then, then_, ok_then, err_then}
use Rattle.cas_eval.specs.declared.values.NoResult.{NoResult}

-- what is made of an answer
told_then : {A B : Type 0} (r : EvalState) (f : A → B) (o : Result A NoResult) →
    then_ o (λ a. answer r (gives (f a))) ≡ map_answer f o
told_then r f (Ok a) = given r (f a)
told_then r f (Err e) = refl

module _ (r : EvalState) (a : TypedExprTree) (args : List TypedExprTree) where
  more_values : (v : Value Object) → Ok v ≡ answer r (e.value_of (eval_context r) a) →
      answer r (values_of (eval_context r) (a ∷ args)) ≡ map_answer (λ vs. v ∷ vs)
      (answer r (values_of (eval_context r) args))
  more_values v is =
      sym (ok_then r (e.value_of (eval_context r) a) (λ u. and_then (values_of (eval_context r) args)
      (λ vs. gives (u ∷ vs))) v _ is
      (sym (answer_then r (values_of (eval_context r) args) (λ vs. gives (v ∷ vs))
      ∙ told_then r (λ vs. v ∷ vs) (answer r (values_of (eval_context r) args)))))

  pub no_values : (why : NoResult) → Err why ≡ answer r (e.value_of (eval_context r) a) →
      answer r (values_of (eval_context r) (a ∷ args)) ≡ Err why
  no_values why is =
      sym (err_then r (e.value_of (eval_context r) a) (λ u. and_then (values_of (eval_context r) args)
      (λ vs. gives (u ∷ vs))) why is)

told_more : (xs ys : List (Value Object)) (v : Value Object) (o : Result (List (Value Object)) NoResult) →
    ys ≡ xs ++ v ∷ [] → map_answer (λ vs. xs ++ vs) (map_answer (λ vs. v ∷ vs) o) ≡ map_answer (λ vs. ys ++ vs) o
told_more xs ys v (Ok vs) are = ap Ok (sym (ap (λ l. l ++ vs) are ∙ append_assoc xs (v ∷ []) vs))
told_more xs ys v (Err why) are = refl

-- with the value of one more
pub values_added : (r : EvalState) (a : TypedExprTree) (args : List TypedExprTree) (xs ys : List (Value Object))
    (v : Value Object) →
    Ok v ≡ answer r (e.value_of (eval_context r) a) → ys ≡ xs ++ v ∷ [] →
    map_answer (λ vs. xs ++ vs) (answer r (values_of (eval_context r) (a ∷ args))) ≡ map_answer (λ vs. ys ++ vs)
    (answer r (values_of (eval_context r) args))
values_added r a args xs ys v is are = ap (map_answer (λ vs. xs ++ vs)) (more_values r a args v is)
    ∙ told_more xs ys v (answer r (values_of (eval_context r) args)) are

-- none is left
pub all_values : (r : EvalState) (xs : List (Value Object)) →
    map_answer (λ vs. xs ++ vs) (answer r (values_of (eval_context r) [])) ≡ Ok xs
all_values r xs = ap (map_answer (λ vs. xs ++ vs)) (given r []) ∙ ap Ok (append-nil xs)

told_nothing : (v : Value Object) (o : Result (List (Value Object)) NoResult) →
    map_answer nothing (map_answer (λ vs. v ∷ vs) o) ≡ map_answer nothing o
told_nothing v (Ok vs) = refl
told_nothing v (Err why) = refl

pub value_checked : (r : EvalState) (a : TypedExprTree) (args : List TypedExprTree) (v : Value Object) →
    Ok v ≡ answer r (e.value_of (eval_context r) a) →
    map_answer nothing (answer r (values_of (eval_context r) (a ∷ args))) ≡ map_answer nothing
    (answer r (values_of (eval_context r) args))
value_checked r a args v is = ap (map_answer nothing) (more_values r a args v is)
    ∙ told_nothing v (answer r (values_of (eval_context r) args))

pub none_unchecked : (r : EvalState) → map_answer nothing (answer r (values_of (eval_context r) [])) ≡ Ok tt
none_unchecked r = ap (map_answer nothing) (given r [])

pub is_empty : {X : Type 0} (xs : List X) → length xs ≡ 0 → xs ≡ []
is_empty [] none = refl
is_empty (x ∷ xs) none = absurd (omega (arith, none))

-- the first that gives nothing ends it, and the code passes that on
pub unchecked : (o : Result (Unit {0}) NoResult) (why : NoResult) (r : EvalState) (a : TypedExprTree)
    (args : List TypedExprTree) → IsErrAnd o (λ f. f ≡ why) → Err why ≡ answer r (e.value_of (eval_context r) a) →
    o ≡ map_answer nothing (answer r (values_of (eval_context r) (a ∷ args)))
unchecked o why r a args passed is =
    let p = err_from_is_err_and o passed in
    p.1 ∙ ap Err p.2 ∙ sym (ap (map_answer nothing) (no_values r a args why is))
