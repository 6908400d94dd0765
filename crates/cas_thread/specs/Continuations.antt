-- Continuations of the code, whose items have the numbers of rows, and the continuations that they stand for.
use Rattle.std.specs.Prelude.{◌≡◌, ⊤, ℕ, List, [], ◌∷◌, Option, Some, None}
use Rattle.cas_base.specs.declared.place.Place.{Place}
use Rattle.cas_step.specs.Continuation as items
use Rattle.cas_step.specs.Continuation.{begin, begun, loop, next}
use Rattle.cas_thread.specs.declared.continuation.ContItem.{ContItem}
use Rattle.cas_thread.specs.declared.continuation.ContItem.TheVariants.{Begin, Begun, Loop, Next}
use Rattle.cas_typed.specs.declared.rows.StmtRow.{StmtRow}
use Rattle.cas_typed.specs.declared.rows.StmtRowForm.{StmtRowForm}
use Rattle.cas_typed.specs.declared.rows.StmtRowForm.TheVariants as row
use Rattle.cas_typed.specs.Numbered.{At, IsRow, optional_expr_tree}
use Rattle.cas_typed.specs.Resolved.{TypedExprTree, typed_expr_tree, TypedStmtTree, TypedStmtOption, absent, present, TypedStmtList, no_more, one_more}

-- the row with this number stands for the statement
abbrev pub IsAt : List StmtRow → (number : ℕ) → TypedStmtTree → Type 0
IsAt rows n a = At rows n (IsRow rows n a)

-- a part that may be missing is the row with this number
abbrev pub IsPart : List StmtRow → TypedStmtOption → Option ℕ → Type 0
IsPart rows absent None = ⊤
IsPart rows (present a) (Some i) = IsAt rows i a
IsPart rows _ _ = ⊥

-- the rows with these numbers stand for statements one after another
abbrev pub AreAt : List StmtRow → TypedStmtList → List ℕ → Type 0
AreAt rows no_more [] = ⊤
AreAt rows (one_more a bs) (i ∷ is) = IsAt rows i a × AreAt rows bs is
AreAt rows _ _ = ⊥

-- a row of a `while` or `do` at this place, with this condition and body
abbrev pub IsBegunRow : List StmtRow → Place → TypedExprTree → TypedStmtTree → Place → StmtRowForm → Type 0
IsBegunRow rows p c a q (row.While c' i) = (q ≡ p) × (typed_expr_tree c' ≡ c) × IsAt rows i a
IsBegunRow rows p c a q (row.Do i c') = (q ≡ p) × (typed_expr_tree c' ≡ c) × IsAt rows i a
IsBegunRow rows p c a q _ = ⊥

-- a row of a `for` at this place, with this condition, last part and body
abbrev pub IsLoopRow : List StmtRow → Place → Option TypedExprTree → TypedStmtOption → TypedStmtTree → Place →
    StmtRowForm → Type 0
IsLoopRow rows p c u a q (row.For h c' j k) = (q ≡ p) × (optional_expr_tree c' ≡ c) × IsPart rows u j × IsAt rows k a
IsLoopRow rows p c u a q _ = ⊥

-- a row of a `for` at this place, with this last part
abbrev pub IsNextRow : List StmtRow → Place → TypedStmtOption → Place → StmtRowForm → Type 0
IsNextRow rows p u q (row.For h c' j k) = (q ≡ p) × IsPart rows u j
IsNextRow rows p u q _ = ⊥

-- these items of the code, the first one first, are this continuation
abbrev pub IsContinuation : List StmtRow → List ContItem → List items.ContItem → Type 0
IsContinuation rows [] [] = ⊤
IsContinuation rows (Begin n ∷ xs) (begin a ∷ cont) = IsAt rows n a × IsContinuation rows xs cont
IsContinuation rows (Begun n ∷ xs) (begun p c a ∷ cont) =
    At rows n (IsBegunRow rows p c a) × IsContinuation rows xs cont
IsContinuation rows (Loop n ∷ xs) (loop p c u a ∷ cont) =
    At rows n (IsLoopRow rows p c u a) × IsContinuation rows xs cont
IsContinuation rows (Next n ∷ xs) (next p u ∷ cont) = At rows n (IsNextRow rows p u) × IsContinuation rows xs cont
IsContinuation rows _ _ = ⊥
