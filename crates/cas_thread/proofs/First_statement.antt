-- What holds of the first item's statement.
use Rattle.std.proofs.Common.{◌≡◌, ℕ, List, [], ◌∷◌, Option, Some, None, subst}
use Rattle.std.specs.Prelude.{⊤, IfNone, IfSome}
use Rattle.cas_base.specs.declared.place.Place.{Place}
use Rattle.cas_step.specs.Continuation.{ContItem, begin, begun, loop, next}
use Rattle.cas_typed.specs.Numbered.{At, IsRow}
use Rattle.cas_typed.specs.Resolved.{TypedStmtTree, TypedStmtOption, absent, present}
use Rattle.cas_typed.specs.declared.rows.StmtRow.{StmtRow}
use Rattle.cas_thread.specs.Effects.{FirstStatementIs, first_lock, lock_in}
use Rattle.cas_thread.specs.Continuations.{IsAt, IsNextRow, IsPart, IsContinuation}
use Rattle.cas_thread.specs.declared.continuation.ContItem as code
use Rattle.cas_thread.specs.declared.continuation.ContItem.TheVariants.{Next}

-- another property follows of it, or can't be
module _ (P Q : TypedStmtTree → Type 0) where
  pub begins_so : ((a : TypedStmtTree) → P a → Q a) → (it : List ContItem) → FirstStatementIs P it →
      FirstStatementIs Q it
  begins_so so [] is = absurd is
  begins_so so (begin a ∷ cont) is = so a is
  begins_so so (begun p c a ∷ cont) is = absurd is
  begins_so so (loop p c u a ∷ cont) is = absurd is
  begins_so so (next p absent ∷ cont) is = absurd is
  begins_so so (next p (present a) ∷ cont) is = so a is

  pub begins_not : ((a : TypedStmtTree) → P a → ¬ (Q a)) → (it : List ContItem) → FirstStatementIs P it →
      ¬ (FirstStatementIs Q it)
  begins_not not [] is so = absurd is
  begins_not not (begin a ∷ cont) is so = not a is so
  begins_not not (begun p c a ∷ cont) is so = absurd is
  begins_not not (loop p c u a ∷ cont) is so = absurd is
  begins_not not (next p absent ∷ cont) is so = absurd is
  begins_not not (next p (present a) ∷ cont) is so = not a is so

-- the lock that it takes
begins_lock : (o : Option ℕ) (it : List ContItem) → FirstStatementIs (λ a. o ≡ lock_in a) it → o ≡ first_lock it
begins_lock o [] is = absurd is
begins_lock o (begin a ∷ cont) is = is
begins_lock o (begun p c a ∷ cont) is = absurd is
begins_lock o (loop p c u a ∷ cont) is = absurd is
begins_lock o (next p absent ∷ cont) is = absurd is
begins_lock o (next p (present a) ∷ cont) is = is

pub row_locks : (rows : List StmtRow) (r : StmtRow) (o : Option ℕ) →
    ((others : List StmtRow) (n : ℕ) (a : TypedStmtTree) → IsRow others n a r.place r.form → o ≡ lock_in a) →
    (it : List ContItem) → FirstStatementIs (λ a. (n : ℕ) × IsRow rows n a r.place r.form) it → o ≡ first_lock it
row_locks rows r o is it begins =
    begins_lock o it (begins_so (λ a. (n : ℕ) × IsRow rows n a r.place r.form) (λ a. o ≡ lock_in a)
    (λ a row. is rows row.0 a row.1) it begins)

-- what a `for` does after a turn
module _ (rows : List StmtRow) (n : ℕ) (xs rest : List code.ContItem) (first : xs ≡ Next n ∷ rest) where
  some_shown : (i : ℕ) → ((p : Place) (u : TypedStmtOption) → At rows n (IsNextRow rows p u) → IsPart rows u (Some i)) →
      (it : List ContItem) → IsContinuation rows (Next n ∷ rest) it → FirstStatementIs (IsAt rows i) it
  some_shown i part [] shows = absurd shows
  some_shown i part (next p absent ∷ cont) shows = absurd (part p absent shows.0)
  some_shown i part (next p (present a) ∷ cont) shows = part p (present a) shows.0
  some_shown i part (_ ∷ cont) shows = absurd shows

  none_shown : ((p : Place) (u : TypedStmtOption) → At rows n (IsNextRow rows p u) → IsPart rows u None) →
      (it : List ContItem) → IsContinuation rows (Next n ∷ rest) it → ¬ (FirstStatementIs (λ _. ⊤) it)
  none_shown part [] shows begins = absurd shows
  none_shown part (next p absent ∷ cont) shows begins = absurd begins
  none_shown part (next p (present a) ∷ cont) shows begins = absurd (part p (present a) shows.0)
  none_shown part (_ ∷ cont) shows begins = absurd shows

  pub some_part : (o : Option ℕ) → ((p : Place) (u : TypedStmtOption) → At rows n (IsNextRow rows p u) →
      IsPart rows u o) → IfSome o (λ i. (it : List ContItem) → IsContinuation rows xs it →
      FirstStatementIs (IsAt rows i) it)
  some_part None part = tt
  some_part (Some i) part = λ it shows. some_shown i part it (subst (λ ys. IsContinuation rows ys it) first shows)

  pub none_part : (o : Option ℕ) → ((p : Place) (u : TypedStmtOption) → At rows n (IsNextRow rows p u) →
      IsPart rows u o) → IfNone o ((it : List ContItem) → IsContinuation rows xs it → ¬ (FirstStatementIs (λ _. ⊤) it))
  none_part None part = λ it shows. none_shown part it (subst (λ ys. IsContinuation rows ys it) first shows)
  none_part (Some i) part = tt

  never_shown : ((p : Place) (u : TypedStmtOption) → ¬ (At rows n (IsNextRow rows p u))) → (it : List ContItem) →
      IsContinuation rows (Next n ∷ rest) it → ⊥
  never_shown never [] shows = shows
  never_shown never (next p u ∷ cont) shows = never p u shows.0
  never_shown never (_ ∷ cont) shows = shows

  pub no_for : (o : Option ℕ) → ((p : Place) (u : TypedStmtOption) → ¬ (At rows n (IsNextRow rows p u))) →
      IfNone o ((it : List ContItem) → IsContinuation rows xs it → ¬ (FirstStatementIs (λ _. ⊤) it))
  no_for None never = λ it shows. absurd (never_shown never it (subst (λ ys. IsContinuation rows ys it) first shows))
  no_for (Some i) never = tt
