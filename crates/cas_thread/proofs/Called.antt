-- What evaluating a call answers.
use Rattle.std.proofs.Common.{◌≡◌, ℕ, true, List, [], ◌∷◌, map, Option, Some, None, Result, Ok, Err, refl, sym, ap, subst, ◌∙◌}
use Rattle.cas_base.specs.declared.kind.Ty.{Ty}
use Rattle.cas_typed.specs.declared.tree.Destination.{Destination}
use Rattle.cas_typed.specs.Resolved.{TypedExprTree, TypedStmtTree, call, absent, present, typed_expr_tree}
use Rattle.cas_step.specs.Asks.{Asks, Value, and_then, gives}
use Rattle.cas_step.specs.Evaluate.{EvalContext, values_of}
use Rattle.cas_step.specs.Continuation.{ContItem, Effect, begin, begun, loop, next, calls, effect_of, statement_effect}
use Rattle.cas_step.specs.Step.{Object}
use Rattle.cas_eval.specs.Answer.{EvalState, answer, eval_context}
use Rattle.cas_eval.specs.declared.values.NoResult.{NoResult}
use Rattle.cas_eval.proofs.Answering.{answer_then, answer_gives, then_}
use Rattle.cas_eval.specs.Arguments.{AreArguments}
use Rattle.cas_eval.specs.declared.args.NoArguments.{NoArguments}
use Rattle.cas_eval.specs.declared.args.NoArguments.TheVariants.{Memory, OfValue}
use Rattle.cas_thread.specs.Calls.{IsCallOf, IsReady}
use Rattle.cas_thread.specs.Control.{after}
use Rattle.cas_thread.specs.Effects.{FirstStatementIs, IsCall}
use Rattle.cas_thread.specs.Continuations.{IsContinuation}
use Rattle.cas_thread.specs.declared.continuation.ContItem as code
use Rattle.cas_typed.specs.Numbered.{IsRow}
use Rattle.cas_typed.specs.declared.rows.StmtRow.{StmtRow}
use Rattle.std.specs.Prelude.{IfNone, IfSome, IsErrAnd}
use Rattle.cas_thread.proofs.First_statement.{begins_not, begins_so}
use Rattle.cas_thread.specs.declared.call.Called.{Called}
use Rattle.cas_thread.specs.declared.call.Ready.{Ready}

module _ (s : EvalContext Object) (c : Called) where
  -- the arguments, and then the call
  abbrev pub CallOf : List ContItem → Asks Object (Effect Object)
  CallOf left = and_then (values_of s (map typed_expr_tree c.args.now)) (λ vs. gives (calls c.item vs c.kept left))

  statement_is : (a : TypedStmtTree) (cont : List ContItem) → IsCallOf c a → statement_effect s a cont ≡ CallOf cont
  statement_is (call p kept g at args) cont h =
      sym (ap (λ (k : Option Destination). and_then (values_of s (map typed_expr_tree c.args.now))
      (λ vs. gives (calls c.item vs k cont))) h.0
      ∙ ap (λ (n : ℕ). and_then (values_of s (map typed_expr_tree c.args.now)) (λ vs. gives (calls n vs kept cont))) h.1
      ∙ ap (λ (xs : List TypedExprTree). and_then (values_of s xs) (λ vs. gives (calls g vs kept cont))) h.2)
  statement_is _ cont h = absurd h

  after_call : (a : TypedStmtTree) (cont : List ContItem) → IsCallOf c a → after true (begin a ∷ cont) ≡ cont
  after_call (call p kept g at args) cont h = refl
  after_call _ cont h = absurd h

  pub call_is : (ret : Ty) (cont : List ContItem) → FirstStatementIs (IsCallOf c) cont →
      effect_of s ret cont ≡ CallOf (after true cont)
  call_is ret [] h = absurd h
  call_is ret (begin a ∷ cont) h = statement_is a cont h ∙ ap CallOf (sym (after_call a cont h))
  call_is ret (begun p t a ∷ cont) h = absurd h
  call_is ret (loop p t u a ∷ cont) h = absurd h
  call_is ret (next p absent ∷ cont) h = absurd h
  call_is ret (next p (present a) ∷ cont) h = statement_is a cont h ∙ ap CallOf (sym (after_call a cont h))

module _ (r : EvalState) (c : Called) (ret : Ty) (cont : List ContItem) (begins : FirstStatementIs (IsCallOf c) cont)
  where
    pub call_ready : (vs : List (Value Object)) → answer r (values_of (eval_context r) (map typed_expr_tree c.args.now))
        ≡ Ok vs →
        answer r (effect_of (eval_context r) ret cont) ≡ Ok (calls c.item vs c.kept (after true cont))
    call_ready vs is =
        let next : List (Value Object) → Asks Object (Effect Object) =
        λ us. gives (calls c.item us c.kept (after true cont)) in
        ap (answer r) (call_is (eval_context r) c ret cont begins)
        ∙ answer_then r (values_of (eval_context r) (map typed_expr_tree c.args.now)) next
        ∙ ap (λ o. then_ o (λ us. answer r (next us))) is
        ∙ sym (answer_gives r (calls c.item vs c.kept (after true cont)))

    pub call_fails : (e : NoResult) → answer r (values_of (eval_context r) (map typed_expr_tree c.args.now)) ≡ Err e →
        answer r (effect_of (eval_context r) ret cont) ≡ Err e
    call_fails e is =
        let next : List (Value Object) → Asks Object (Effect Object) =
        λ us. gives (calls c.item us c.kept (after true cont)) in
        ap (answer r) (call_is (eval_context r) c ret cont begins)
        ∙ answer_then r (values_of (eval_context r) (map typed_expr_tree c.args.now)) next
        ∙ ap (λ o. then_ o (λ us. answer r (next us))) is

-- the first item's call, by the row of its statement
module _ (rows : List StmtRow) (r : StmtRow) (xs : List code.ContItem)
    (shown : (it : List ContItem) → IsContinuation rows xs it →
    FirstStatementIs (λ a. (n : ℕ) × IsRow rows n a r.place r.form) it) where
  pub first_some : (o : Option Called) → IfSome o (λ c. (others : List StmtRow) (n : ℕ) (a : TypedStmtTree) →
      IsRow others n a r.place r.form → IsCallOf c a) →
      IfSome o (λ c. (it : List ContItem) → IsContinuation rows xs it → FirstStatementIs (IsCallOf c) it)
  first_some None is = tt
  first_some (Some c) is = λ it shows. begins_so (λ a. (n : ℕ) × IsRow rows n a r.place r.form) (IsCallOf c)
      (λ a row. is rows row.0 a row.1) it (shown it shows)

  pub first_none : (o : Option Called) → IfNone o ((others : List StmtRow) (n : ℕ) (a : TypedStmtTree) →
      IsRow others n a r.place r.form → ¬ (IsCall a)) →
      IfNone o ((it : List ContItem) → IsContinuation rows xs it → ¬ (FirstStatementIs IsCall it))
  first_none None is = λ it shows. begins_not (λ a. (n : ℕ) × IsRow rows n a r.place r.form) IsCall
      (λ a row. is rows row.0 a row.1) it (shown it shows)
  first_none (Some c) is = tt

-- arguments that fail
pub fails_ready : (r : EvalState) (c : Called) (ret : Ty) (cont : List ContItem) → FirstStatementIs (IsCallOf c) cont →
    (why : NoArguments) →
    AreArguments (Err why) (answer r (values_of (eval_context r) (map typed_expr_tree c.args.now))) →
    IsReady (answer r (effect_of (eval_context r) ret cont)) (after true cont) (Err why)
fails_ready r c ret cont begins Memory is = tt
fails_ready r c ret cont begins (OfValue e) is = call_fails r c ret cont begins e is

pub fails_told : (r : EvalState) (c : Called) (ret : Ty) (cont : List ContItem) → FirstStatementIs (IsCallOf c) cont →
    (why : NoArguments) →
    AreArguments (Err why) (answer r (values_of (eval_context r) (map typed_expr_tree c.args.now))) →
    (result : Result Ready NoArguments) → IsErrAnd result (λ e. e ≡ why) →
    IsReady (answer r (effect_of (eval_context r) ret cont)) (after true cont) result
fails_told r c ret cont begins why is (Ok ready) map_answer = absurd map_answer
fails_told r c ret cont begins why is (Err e) map_answer =
    fails_ready r c ret cont begins e
    (subst (λ x. AreArguments (Err x) (answer r (values_of (eval_context r) (map typed_expr_tree c.args.now))))
    (sym map_answer) is)
