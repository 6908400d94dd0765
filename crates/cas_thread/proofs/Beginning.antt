-- Statements of a block, as numbers of rows, put before items one by one from the last.
use Rattle.std.proofs.Common.{arith, ◌≡◌, ℕ, Bool, ◌+◌, ◌<◌, List, [], ◌∷◌, ◌++◌, length, reverse, drop, get_or, sym, ap, subst, ◌∙◌}
use Rattle.std.proofs.lemmas.List.{at_drop_more, drop_all, reverse-append}
use Rattle.cas_step.specs.Continuation as items
use Rattle.cas_step.specs.Continuation.{begin_all}
use Rattle.cas_thread.specs.Continuations.{AreAt, IsContinuation}
use Rattle.cas_thread.specs.declared.continuation.ContItem.{ContItem}
use Rattle.cas_thread.specs.declared.continuation.ContItem.TheVariants.{Begin}
use Rattle.cas_typed.specs.declared.rows.StmtRow.{StmtRow}
use Rattle.cas_base.specs.declared.place.Place.{Place}
use Rattle.cas_typed.specs.declared.rows.StmtRowForm.TheVariants as row
use Rattle.cas_typed.specs.Numbered.{IsRow, AreRows, size_of}
use Rattle.cas_typed.specs.Resolved.{TypedStmtTree, block, TypedStmtList, no_more, one_more}
use Rattle.cas_thread.specs.Control.{after_statement}

-- these statements by number, put before the items that are shown here, are shown there
abbrev pub Puts : List StmtRow → List ContItem → List ContItem → List ℕ → Type 0
Puts rows start xs is = (bs : TypedStmtList) (it : List items.ContItem) → AreAt rows bs is →
    IsContinuation rows start it → IsContinuation rows xs (begin_all bs it)

pub puts_none : (rows : List StmtRow) (start : List ContItem) → Puts rows start start []
puts_none rows start no_more it at shows = shows
puts_none rows start (one_more a bs) it at shows = absurd at

pub puts_more : (rows : List StmtRow) (start xs : List ContItem) (i : ℕ) (is : List ℕ) → Puts rows start xs is →
    Puts rows start (Begin i ∷ xs) (i ∷ is)
puts_more rows start xs i is puts no_more it at shows = absurd at
puts_more rows start xs i is puts (one_more a bs) it at shows = (at.0, puts bs it at.1 shows)

-- nothing is left before the first
pub puts_start : (rows : List StmtRow) (start : List ContItem) (is : List ℕ) →
    Puts rows start start (drop (length is) is)
puts_start rows start is = subst (Puts rows start start) (sym (drop_all (length is) is (omega arith)))
    (puts_none rows start)

-- one more before those that are put
pub puts_push : (rows : List StmtRow) (start xs ys : List ContItem) (is : List ℕ) (n m : ℕ) → m + 1 ≡ n →
    m < length is → ys ≡ xs ++ Begin (get_or is m 0) ∷ [] →
    Puts rows start (reverse xs) (drop n is) → Puts rows start (reverse ys) (drop m is)
puts_push rows start xs ys is n m next less pushed puts =
    let shown : reverse ys ≡ Begin (get_or is m 0) ∷ reverse xs = ap reverse pushed
    ∙ reverse-append xs (Begin (get_or is m 0) ∷ []) in
    let numbers : drop m is ≡ get_or is m 0 ∷ drop n is = at_drop_more (λ zs. zs) is m 0 less
    ∙ ap (λ k. get_or is m 0 ∷ drop k is) next in
    subst (λ zs. Puts rows start zs (drop m is)) (sym shown)
    (subst (λ zs. Puts rows start (Begin (get_or is m 0) ∷ reverse xs) zs) (sym numbers)
    (puts_more rows start (reverse xs) (get_or is m 0) (drop n is) puts))

pub rows_at : (rows : List StmtRow) (n : ℕ) (bs : TypedStmtList) (is : List ℕ) → AreRows rows n bs is → AreAt rows bs is
rows_at rows n no_more [] h = h
rows_at rows n no_more (i ∷ is) h = h
rows_at rows n (one_more a bs) [] h = h
rows_at rows n (one_more a bs) (i ∷ is) h = (h.1, rows_at rows (n + size_of a) bs is h.2)

pub block_shows : (rows : List StmtRow) (start xs : List ContItem) (n : ℕ) (p : Place) (is : List ℕ) (truth : Bool) →
    Puts rows start xs is →
    (a : TypedStmtTree) (it : List items.ContItem) → IsRow rows n a p (row.Block is) → IsContinuation rows start it →
    IsContinuation rows xs (after_statement truth a it)
block_shows rows start xs n p is truth puts (block q bs) it h shows = puts bs it (rows_at rows (n + 1) bs is h.1) shows
block_shows rows start xs n p is truth puts _ it h shows = absurd h
