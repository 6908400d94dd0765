-- What a row stands for that was read at its number.
use Rattle.std.proofs.Common.{◌≡◌, ℕ, Bool, List, ◌∷◌, Option, Some, None, subst}
use Rattle.std.specs.Prelude.{IfNone, slice_get}
use Rattle.cas_base.specs.declared.place.Place.{Place}
use Rattle.cas_typed.specs.declared.rows.StmtRow.{StmtRow}
use Rattle.cas_typed.specs.declared.rows.StmtRowForm.{StmtRowForm}
use Rattle.cas_typed.specs.declared.rows.StmtRowForm.TheVariants as row
use Rattle.cas_typed.specs.Numbered.{At}
use Rattle.cas_typed.specs.Resolved.{TypedExprTree, TypedStmtTree, TypedStmtOption, absent, present}
use Rattle.cas_step.specs.Continuation.{ContItem, next}
use Rattle.cas_thread.specs.Control.{after}
use Rattle.cas_thread.specs.Continuations.{IsLoopRow, IsNextRow, IsPart, IsContinuation}
use Rattle.cas_thread.specs.declared.continuation.ContItem as code

pub at_this : (rows : List StmtRow) (n : ℕ) (r : StmtRow) (P : Place → StmtRowForm → Type 0) →
    slice_get rows n ≡ Some r → At rows n P → P r.place r.form
at_this rows n r P found at = let same : at.0 ≡ r = cc (found, at.1) in subst (λ x. P x.place x.form) same at.2

-- the row of a `for` with these parts has this to do after a turn
next_form : (rows : List StmtRow) (p : Place) (c : Option TypedExprTree) (u : TypedStmtOption) (a : TypedStmtTree)
    (q : Place) (form : StmtRowForm) → IsLoopRow rows p c u a q form → IsNextRow rows p u q form
next_form rows p c u a q (row.For h t j k) is = (is.0, is.2)
next_form rows p c u a q _ is = absurd is

pub loop_next : (rows : List StmtRow) (n : ℕ) (p : Place) (c : Option TypedExprTree) (u : TypedStmtOption)
    (a : TypedStmtTree) → At rows n (IsLoopRow rows p c u a) → At rows n (IsNextRow rows p u)
loop_next rows n p c u a at = (at.0, at.1, next_form rows p c u a at.0.place at.0.form at.2)

-- nothing is done after a turn where there is nothing to do
pub next_none : (rows : List StmtRow) (xs : List code.ContItem) (p : Place) (u : TypedStmtOption) (o : Option ℕ)
    (is : Bool) (it : List ContItem) → o ≡ None → IsPart rows u o → IsContinuation rows xs it →
    IsContinuation rows xs (after is (next p u ∷ it))
next_none rows xs p absent o is it none part shows = shows
next_none rows xs p (present a) None is it none part shows = absurd part
next_none rows xs p (present a) (Some i) is it none part shows = absurd (cc none)

-- what holds in any case holds where there is nothing
pub if_none : {X : Type 0} (o : Option X) (T : Type 0) → T → IfNone o T
if_none None T holds = holds
if_none (Some x) T holds = tt
