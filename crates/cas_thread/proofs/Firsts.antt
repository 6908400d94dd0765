-- What comes first in statements that evaluate, by their rows.
use Rattle.std.proofs.Common.{◌≡◌, ℕ, Bool, true, List, [], ◌∷◌, Option, Some, None, Result, Ok, Err, sym, ap, subst, ◌∙◌}
use Rattle.cas_base.specs.declared.place.Place.{Place}
use Rattle.cas_step.specs.Asks.{and_then, gives, word_in}
use Rattle.cas_step.specs.Evaluate.{either, target_of, value_of}
use Rattle.cas_step.specs.Continuation as items
use Rattle.cas_base.specs.declared.kind.Ty.{Ty}
use Rattle.cas_step.specs.Continuation.{begin, begun, loop, chooses, effect_of, continues, into, next, prints, returned, statement_effect}
use Rattle.cas_step.specs.Step.{Object}
use Rattle.cas_typed.specs.declared.rows.StmtRow.{StmtRow}
use Rattle.cas_typed.specs.declared.rows.StmtRowForm.TheVariants as row
use Rattle.cas_typed.specs.declared.tree.TypedExpr.{TypedExpr}
use Rattle.cas_typed.specs.declared.tree.TypedTarget.{TypedTarget}
use Rattle.cas_typed.specs.Numbered.{At, IsRow, optional_expr_tree}
use Rattle.cas_typed.specs.Resolved.{TypedExprTree, TypedStmtTree, TypedStmtOption, absent, present, assign, return_, print, typed_expr_tree, typed_target_tree}
use Rattle.cas_eval.specs.Answer.{EvalState, answer, eval_context, map_answer}
use Rattle.cas_thread.specs.Control.{after, after_statement}
use Rattle.cas_thread.specs.Effects.{FirstStatementIs, IsCall, IsFirst, IsJump, effect_with}
use Rattle.cas_thread.specs.declared.effect.Effect.{Effect}
use Rattle.cas_thread.specs.Continuations.{IsAt, IsBegunRow, IsLoopRow, IsNextRow, IsPart, IsContinuation}
use Rattle.cas_thread.specs.declared.continuation.ContItem as code
use Rattle.cas_thread.specs.declared.continuation.ContItem.TheVariants.{Begin, Begun, Loop, Next}
use Rattle.cas_thread.specs.declared.effect.Effect.TheVariants.{Continues}
use Rattle.cas_thread.specs.declared.effect.First.{First}
use Rattle.cas_thread.specs.declared.effect.First.TheVariants.{Does}
use Rattle.cas_eval.proofs.Answering.{answer_gives}
use Rattle.cas_eval.specs.declared.values.NoResult.{NoResult}

-- an effect comes first
pub does_first : (answer : Result (items.Effect Object) NoResult) (left : Bool → List items.ContItem)
    (calls jumps : Type 0) (d : Result Effect NoResult) → map_answer (effect_with left) d ≡ answer →
    IsFirst answer left calls jumps (map_answer Does d)
does_first answer left calls jumps (Ok d) is = sym is
does_first answer left calls jumps (Err e) is = sym is

-- what comes first in a statement, by its row
abbrev pub FirstOf : EvalState → TypedStmtTree → List items.ContItem → Result Effect NoResult → Type 0
FirstOf r a cont d = IsFirst (answer r (statement_effect (eval_context r) a cont)) (λ is. after_statement is a cont)
    (IsCall a) (IsJump a) (map_answer Does d)

module _ (r : EvalState) (rows : List StmtRow) (n : ℕ) (p : Place) (d : Result Effect NoResult) where
  pub assign_first : (t : TypedTarget) (x : TypedExpr) →
      ((cont : List items.ContItem) → map_answer (effect_with (λ _. cont)) d ≡ answer r
      (and_then (target_of (eval_context r) (typed_target_tree t))
      (λ c. and_then (value_of (eval_context r) (typed_expr_tree x)) (λ v. into c v cont)))) →
      (a : TypedStmtTree) (cont : List items.ContItem) → IsRow rows n a p (row.Assign t x) → FirstOf r a cont d
  assign_first t x is (assign q target y) cont h =
      does_first (answer r (statement_effect (eval_context r) (assign q target y) cont)) (λ _. cont) ⊥ ⊥ d
      (is cont ∙ ap
      (λ z. answer r (and_then (target_of (eval_context r) z)
      (λ c. and_then (value_of (eval_context r) (typed_expr_tree x)) (λ v. into c v cont)))) h.1
      ∙ ap (λ z. answer r (and_then (target_of (eval_context r) target)
      (λ c. and_then (value_of (eval_context r) z) (λ v. into c v cont)))) h.2)
  assign_first t x is _ cont h = absurd h

  pub return_first : (x : Option TypedExpr) →
      ((cont : List items.ContItem) → map_answer (effect_with (λ _. cont)) d ≡ answer r
      (returned (eval_context r) (optional_expr_tree x))) →
      (a : TypedStmtTree) (cont : List items.ContItem) → IsRow rows n a p (row.Return x) → FirstOf r a cont d
  return_first x is (return_ q y) cont h =
      does_first (answer r (statement_effect (eval_context r) (return_ q y) cont)) (λ _. cont) ⊥ ⊥ d
      (is cont ∙ ap (λ z. answer r (returned (eval_context r) z)) h.1)
  return_first x is _ cont h = absurd h

  pub print_first : (x : TypedExpr) →
      ((cont : List items.ContItem) → map_answer (effect_with (λ _. cont)) d ≡ answer r
      (and_then (value_of (eval_context r) (typed_expr_tree x))
      (λ v. and_then (word_in v) (λ m. gives (prints m cont))))) →
      (a : TypedStmtTree) (cont : List items.ContItem) → IsRow rows n a p (row.Print x) → FirstOf r a cont d
  print_first x is (print q y) cont h =
      does_first (answer r (statement_effect (eval_context r) (print q y) cont)) (λ _. cont) ⊥ ⊥ d
      (is cont ∙ ap
      (λ z. answer r (and_then (value_of (eval_context r) z)
      (λ v. and_then (word_in v) (λ m. gives (prints m cont))))) h.1)
  print_first x is _ cont h = absurd h

-- what comes first in what a `for` does after a turn
module _ (r : EvalState) (rows : List StmtRow) (p : Place) (ret : Ty) where
  abbrev pub NextOf : TypedStmtOption → List items.ContItem → Result First NoResult → Type 0
  NextOf u cont first = IsFirst (answer r (effect_of (eval_context r) ret (next p u ∷ cont)))
      (λ is. after is (next p u ∷ cont)) (FirstStatementIs IsCall (next p u ∷ cont))
      (FirstStatementIs IsJump (next p u ∷ cont)) first

  pub next_present : (i : ℕ) (first : Result First NoResult) →
      ((a : TypedStmtTree) (cont : List items.ContItem) → IsAt rows i a →
      IsFirst (answer r (statement_effect (eval_context r) a cont)) (λ is. after_statement is a cont) (IsCall a)
      (IsJump a) first) →
      (u : TypedStmtOption) (cont : List items.ContItem) → IsPart rows u (Some i) → NextOf u cont first
  next_present i first is absent cont part = absurd part
  next_present i first is (present a) cont part = is a cont part

  pub next_absent : (u : TypedStmtOption) (cont : List items.ContItem) → IsPart rows u None →
      NextOf u cont (Ok (Does (Continues true)))
  next_absent absent cont part = sym (answer_gives r (continues cont))
  next_absent (present a) cont part = absurd part

-- what comes first where these items are left, of which the first is known
module _ (r : EvalState) (rows : List StmtRow) (ret : Ty) (n : ℕ) (rest : List code.ContItem) where
  abbrev pub StepOf : List items.ContItem → Result First NoResult → Type 0
  StepOf it first = IsFirst (answer r (effect_of (eval_context r) ret it)) (λ is. after is it)
      (FirstStatementIs IsCall it) (FirstStatementIs IsJump it) first

  begin_first : (first : Result First NoResult) →
      ((a : TypedStmtTree) (cont : List items.ContItem) → IsAt rows n a →
      IsFirst (answer r (statement_effect (eval_context r) a cont)) (λ is. after_statement is a cont) (IsCall a)
      (IsJump a) first) →
      (it : List items.ContItem) → IsContinuation rows (Begin n ∷ rest) it → StepOf it first
  begin_first first is [] shows = absurd shows
  begin_first first is (begin a ∷ cont) shows = is a cont shows.0
  begin_first first is (_ ∷ cont) shows = absurd shows

  begun_first : (d : Result Effect NoResult) →
      ((p : Place) (c : TypedExprTree) (a : TypedStmtTree) (some others : List items.ContItem) →
      At rows n (IsBegunRow rows p c a) → map_answer (effect_with (either some others)) d ≡ answer r
      (chooses (eval_context r) (Some c) some others)) →
      (it : List items.ContItem) → IsContinuation rows (Begun n ∷ rest) it → StepOf it (map_answer Does d)
  begun_first d is [] shows = absurd shows
  begun_first d is (begun p c a ∷ cont) shows =
      does_first (answer r (effect_of (eval_context r) ret (begun p c a ∷ cont)))
      (either (begin a ∷ begun p c a ∷ cont) cont) ⊥ ⊥ d (is p c a (begin a ∷ begun p c a ∷ cont) cont shows.0)
  begun_first d is (_ ∷ cont) shows = absurd shows

  loop_first : (d : Result Effect NoResult) →
      ((p : Place) (c : Option TypedExprTree) (u : TypedStmtOption) (a : TypedStmtTree)
      (some others : List items.ContItem) → At rows n (IsLoopRow rows p c u a) →
      map_answer (effect_with (either some others)) d ≡ answer r (chooses (eval_context r) c some others)) →
      (it : List items.ContItem) → IsContinuation rows (Loop n ∷ rest) it → StepOf it (map_answer Does d)
  loop_first d is [] shows = absurd shows
  loop_first d is (loop p c u a ∷ cont) shows =
      does_first (answer r (effect_of (eval_context r) ret (loop p c u a ∷ cont)))
      (either (begin a ∷ next p u ∷ loop p c u a ∷ cont) cont) ⊥ ⊥ d
      (is p c u a (begin a ∷ next p u ∷ loop p c u a ∷ cont) cont shows.0)
  loop_first d is (_ ∷ cont) shows = absurd shows

  next_first : (first : Result First NoResult) →
      ((p : Place) (u : TypedStmtOption) (cont : List items.ContItem) (ret : Ty) → At rows n (IsNextRow rows p u) →
      NextOf r rows p ret u cont first) →
      (it : List items.ContItem) → IsContinuation rows (Next n ∷ rest) it → StepOf it first
  next_first first is [] shows = absurd shows
  next_first first is (next p u ∷ cont) shows = is p u cont ret shows.0
  next_first first is (_ ∷ cont) shows = absurd shows

  -- the same of the code's items

  pub begin_step : (xs : List code.ContItem) (first : Result First NoResult) → xs ≡ Begin n ∷ rest →
      ((a : TypedStmtTree) (cont : List items.ContItem) → IsAt rows n a →
      IsFirst (answer r (statement_effect (eval_context r) a cont)) (λ is. after_statement is a cont) (IsCall a)
      (IsJump a) first) →
      (it : List items.ContItem) → IsContinuation rows xs it → StepOf it first
  begin_step xs first begins is it shows = begin_first first is it
      (subst (λ ys. IsContinuation rows ys it) begins shows)

  pub begun_step : (xs : List code.ContItem) (d : Result Effect NoResult) → xs ≡ Begun n ∷ rest →
      ((p : Place) (c : TypedExprTree) (a : TypedStmtTree) (some others : List items.ContItem) →
      At rows n (IsBegunRow rows p c a) → map_answer (effect_with (either some others)) d ≡ answer r
      (chooses (eval_context r) (Some c) some others)) →
      (it : List items.ContItem) → IsContinuation rows xs it → StepOf it (map_answer Does d)
  begun_step xs d begins is it shows = begun_first d is it (subst (λ ys. IsContinuation rows ys it) begins shows)

  pub loop_step : (xs : List code.ContItem) (d : Result Effect NoResult) → xs ≡ Loop n ∷ rest →
      ((p : Place) (c : Option TypedExprTree) (u : TypedStmtOption) (a : TypedStmtTree)
      (some others : List items.ContItem) → At rows n (IsLoopRow rows p c u a) →
      map_answer (effect_with (either some others)) d ≡ answer r (chooses (eval_context r) c some others)) →
      (it : List items.ContItem) → IsContinuation rows xs it → StepOf it (map_answer Does d)
  loop_step xs d begins is it shows = loop_first d is it (subst (λ ys. IsContinuation rows ys it) begins shows)

  pub next_step : (xs : List code.ContItem) (first : Result First NoResult) → xs ≡ Next n ∷ rest →
      ((p : Place) (u : TypedStmtOption) (cont : List items.ContItem) (ret : Ty) → At rows n (IsNextRow rows p u) →
      NextOf r rows p ret u cont first) →
      (it : List items.ContItem) → IsContinuation rows xs it → StepOf it first
  next_step xs first begins is it shows = next_first first is it (subst (λ ys. IsContinuation rows ys it) begins shows)
