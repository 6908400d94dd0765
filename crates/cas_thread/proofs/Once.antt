-- A thread of the code is one thread.
use Rattle.std.proofs.Common.{◌≡◌, ℕ, ◌+◌, List, [], ◌∷◌, reverse, Option, Some, None, refl, sym, ap, ◌∙◌}
use Rattle.cas_base.specs.declared.place.Place.{Place}
use Rattle.cas_step.specs.Continuation as items
use Rattle.cas_step.specs.Continuation.{begin, begun, loop, next}
use Rattle.cas_step.specs.Step.{Activation, Config}
use Rattle.cas_typed.specs.declared.rows.StmtRow.{StmtRow}
use Rattle.cas_typed.specs.declared.rows.StmtRowForm.{StmtRowForm}
use Rattle.cas_typed.specs.declared.rows.StmtRowForm.TheVariants as row
use Rattle.cas_typed.specs.declared.typed.Typed.{Typed}
use Rattle.cas_typed.specs.Numbered.{IsRow, AreRows, IsPartRow, size_of, size_of_option}
use Rattle.cas_typed.specs.Resolved.{TypedExprTree, TypedStmtTree, skip, assign, call, block, if_, while_, do_, for_, break_, continue_, return_, lock, unlock, print, TypedStmtOption, absent, present, TypedStmtList, no_more, one_more}
use Rattle.cas_whole.specs.declared.program.Program.{Program}
use Rattle.cas_thread.specs.Frames.{AreFrames, IsFrame, rows_at}
use Rattle.cas_thread.specs.Thread.{IsThread}
use Rattle.cas_thread.specs.Continuations.{IsAt, IsBegunRow, IsLoopRow, IsNextRow, IsPart, IsContinuation}
use Rattle.cas_thread.specs.declared.config.Config as code
use Rattle.cas_thread.specs.declared.config.Frame.{Frame}
use Rattle.cas_thread.specs.declared.continuation.ContItem.{ContItem}
use Rattle.cas_thread.specs.declared.continuation.ContItem.TheVariants.{Begin, Begun, Loop, Next}
use Rattle.cas_thread.proofs.Reading.{at_this}

-- a row stands for one statement

alike : (rows : List StmtRow) (i : ℕ) (a b : TypedStmtTree) →
    ((q : Place) (form : StmtRowForm) → IsRow rows i a q form → IsRow rows i b q form → a ≡ b) → IsAt rows i a →
    IsAt rows i b → a ≡ b
alike rows i a b once h k = once h.0.place h.0.form h.2 (at_this rows i h.0 (IsRow rows i b) h.1 k)

mutual
  row_once : (rows : List StmtRow) (n : ℕ) (a b : TypedStmtTree) (q : Place) (form : StmtRowForm) →
      IsRow rows n a q form → IsRow rows n b q form → a ≡ b
  row_once rows n (skip p) (skip p') q row.Skip h k = cc (h, k)
  row_once rows n (skip p) _ q row.Skip h k = absurd k
  row_once rows n (skip p) b q _ h k = absurd h
  row_once rows n (assign p t a) (assign p' t' a') q (row.Assign x y) h k = cc (h.0, h.1, h.2, k.0, k.1, k.2)
  row_once rows n (assign p t a) _ q (row.Assign x y) h k = absurd k
  row_once rows n (assign p t a) b q _ h k = absurd h
  row_once rows n (call p t g at as_) (call p' t' g' at' as') q (row.Call x y z w) h k =
      cc (h.0, h.1, h.2, h.3, h.4, k.0, k.1, k.2, k.3, k.4)
  row_once rows n (call p t g at as_) _ q (row.Call x y z w) h k = absurd k
  row_once rows n (call p t g at as_) b q _ h k = absurd h
  row_once rows n (block p bs) (block p' bs') q (row.Block ns) h k =
      cc (h.0, k.0, rows_once rows (n + 1) (n + 1) bs bs' ns h.1 k.1)
  row_once rows n (block p bs) _ q (row.Block ns) h k = absurd k
  row_once rows n (block p bs) b q _ h k = absurd h
  row_once rows n (if_ p c a o) (if_ p' c' a' o') q (row.If x i j) h k =
      let same : a ≡ a' = alike rows i a a' (row_once rows i a a') h.3 k.3 in
      cc (h.0, h.1, k.0, k.1, same, part_once rows (n + 1 + size_of a) (n + 1 + size_of a') o o' j h.4 k.4)
  row_once rows n (if_ p c a o) _ q (row.If x i j) h k = absurd k
  row_once rows n (if_ p c a o) b q _ h k = absurd h
  row_once rows n (while_ p c a) (while_ p' c' a') q (row.While x i) h k =
      cc (h.0, h.1, k.0, k.1, alike rows i a a' (row_once rows i a a') h.3 k.3)
  row_once rows n (while_ p c a) _ q (row.While x i) h k = absurd k
  row_once rows n (while_ p c a) b q _ h k = absurd h
  row_once rows n (do_ p a c) (do_ p' a' c') q (row.Do i x) h k =
      cc (h.0, h.3, k.0, k.3, alike rows i a a' (row_once rows i a a') h.2 k.2)
  row_once rows n (do_ p a c) _ q (row.Do i x) h k = absurd k
  row_once rows n (do_ p a c) b q _ h k = absurd h
  row_once rows n (for_ p f c u a) (for_ p' f' c' u' a') q (row.For x y j i) h k =
      cc (
        h.0,
        h.2,
        k.0,
        k.2,
        part_once rows (n + 1) (n + 1) f f' x h.1 k.1,
        part_once rows (n + 1 + size_of_option f) (n + 1 + size_of_option f') u u' j h.3 k.3,
        alike rows i a a' (row_once rows i a a') h.5 k.5,
      )
  row_once rows n (for_ p f c u a) _ q (row.For x y j i) h k = absurd k
  row_once rows n (for_ p f c u a) b q _ h k = absurd h
  row_once rows n (break_ p) (break_ p') q row.Break h k = cc (h, k)
  row_once rows n (break_ p) _ q row.Break h k = absurd k
  row_once rows n (break_ p) b q _ h k = absurd h
  row_once rows n (continue_ p) (continue_ p') q row.Continue h k = cc (h, k)
  row_once rows n (continue_ p) _ q row.Continue h k = absurd k
  row_once rows n (continue_ p) b q _ h k = absurd h
  row_once rows n (return_ p a) (return_ p' a') q (row.Return x) h k = cc (h.0, h.1, k.0, k.1)
  row_once rows n (return_ p a) _ q (row.Return x) h k = absurd k
  row_once rows n (return_ p a) b q _ h k = absurd h
  row_once rows n (lock p g) (lock p' g') q (row.Lock x) h k = cc (h.0, h.1, k.0, k.1)
  row_once rows n (lock p g) _ q (row.Lock x) h k = absurd k
  row_once rows n (lock p g) b q _ h k = absurd h
  row_once rows n (unlock p g) (unlock p' g') q (row.Unlock x) h k = cc (h.0, h.1, k.0, k.1)
  row_once rows n (unlock p g) _ q (row.Unlock x) h k = absurd k
  row_once rows n (unlock p g) b q _ h k = absurd h
  row_once rows n (print p a) (print p' a') q (row.Print x) h k = cc (h.0, h.1, k.0, k.1)
  row_once rows n (print p a) _ q (row.Print x) h k = absurd k
  row_once rows n (print p a) b q _ h k = absurd h

  part_once : (rows : List StmtRow) (n m : ℕ) (o u : TypedStmtOption) (j : Option ℕ) → IsPartRow rows n o j →
      IsPartRow rows m u j → o ≡ u
  part_once rows n m absent absent None h k = refl
  part_once rows n m absent (present b) None h k = absurd k
  part_once rows n m absent u (Some i) h k = absurd h
  part_once rows n m (present a) u None h k = absurd h
  part_once rows n m (present a) absent (Some i) h k = absurd k
  part_once rows n m (present a) (present b) (Some i) h k = ap present (alike rows i a b (row_once rows i a b) h.1 k.1)

  rows_once : (rows : List StmtRow) (n m : ℕ) (as_ bs : TypedStmtList) (ns : List ℕ) → AreRows rows n as_ ns →
      AreRows rows m bs ns → as_ ≡ bs
  rows_once rows n m no_more no_more [] h k = refl
  rows_once rows n m no_more (one_more b bs) [] h k = absurd k
  rows_once rows n m no_more bs (i ∷ is) h k = absurd h
  rows_once rows n m (one_more a as_) bs [] h k = absurd h
  rows_once rows n m (one_more a as_) no_more (i ∷ is) h k = absurd k
  rows_once rows n m (one_more a as_) (one_more b bs) (i ∷ is) h k =
      cc (
        alike rows i a b (row_once rows i a b) h.1 k.1,
        rows_once rows (n + size_of a) (m + size_of b)
            as_ bs is h.2 k.2,
      )

at_once : (rows : List StmtRow) (i : ℕ) (a b : TypedStmtTree) → IsAt rows i a → IsAt rows i b → a ≡ b
at_once rows i a b h k = alike rows i a b (row_once rows i a b) h k

-- items by number are those of one list

part_is_one : (rows : List StmtRow) (o u : TypedStmtOption) (j : Option ℕ) → IsPart rows o j → IsPart rows u j → o ≡ u
part_is_one rows absent absent None h k = refl
part_is_one rows absent (present b) None h k = absurd k
part_is_one rows absent u (Some i) h k = absurd h
part_is_one rows (present a) u None h k = absurd h
part_is_one rows (present a) absent (Some i) h k = absurd k
part_is_one rows (present a) (present b) (Some i) h k = ap present (at_once rows i a b h k)

begun_once : (rows : List StmtRow) (p p' : Place) (c c' : TypedExprTree) (a a' : TypedStmtTree) (q : Place)
    (form : StmtRowForm) →
    IsBegunRow rows p c a q form → IsBegunRow rows p' c' a' q form → begun p c a ≡ begun p' c' a'
begun_once rows p p' c c' a a' q (row.While x i) h k = cc (h.0, h.1, k.0, k.1, at_once rows i a a' h.2 k.2)
begun_once rows p p' c c' a a' q (row.Do i x) h k = cc (h.0, h.1, k.0, k.1, at_once rows i a a' h.2 k.2)
begun_once rows p p' c c' a a' q _ h k = absurd h

loop_once : (rows : List StmtRow) (p p' : Place) (c c' : Option TypedExprTree) (u u' : TypedStmtOption)
    (a a' : TypedStmtTree) (q : Place) (form : StmtRowForm) →
    IsLoopRow rows p c u a q form → IsLoopRow rows p' c' u' a' q form → loop p c u a ≡ loop p' c' u' a'
loop_once rows p p' c c' u u' a a' q (row.For f x j i) h k =
    cc (h.0, h.1, k.0, k.1, part_is_one rows u u' j h.2 k.2, at_once rows i a a' h.3 k.3)
loop_once rows p p' c c' u u' a a' q _ h k = absurd h

next_once : (rows : List StmtRow) (p p' : Place) (u u' : TypedStmtOption) (q : Place) (form : StmtRowForm) →
    IsNextRow rows p u q form → IsNextRow rows p' u' q form → next p u ≡ next p' u'
next_once rows p p' u u' q (row.For f x j i) h k = cc (h.0, k.0, part_is_one rows u u' j h.1 k.1)
next_once rows p p' u u' q _ h k = absurd h

shown_once : (rows : List StmtRow) (xs : List ContItem) (cont others : List items.ContItem) →
    IsContinuation rows xs cont → IsContinuation rows xs others → cont ≡ others
shown_once rows [] [] [] h k = refl
shown_once rows [] [] (it ∷ its) h k = absurd k
shown_once rows [] (it ∷ its) others h k = absurd h
shown_once rows (Begin n ∷ xs) (begin a ∷ cont) (begin b ∷ others) h k =
    cc (at_once rows n a b h.0 k.0, shown_once rows xs cont others h.1 k.1)
shown_once rows (Begin n ∷ xs) (begin a ∷ cont) _ h k = absurd k
shown_once rows (Begin n ∷ xs) _ others h k = absurd h
shown_once rows (Begun n ∷ xs) (begun p c a ∷ cont) (begun p' c' a' ∷ others) h k =
    cc (
      begun_once rows p p' c c' a a' h.0.0.place h.0.0.form h.0.2
          (at_this rows n h.0.0 (IsBegunRow rows p' c' a') h.0.1 k.0),
      shown_once rows xs cont others h.1 k.1,
    )
shown_once rows (Begun n ∷ xs) (begun p c a ∷ cont) _ h k = absurd k
shown_once rows (Begun n ∷ xs) _ others h k = absurd h
shown_once rows (Loop n ∷ xs) (loop p c u a ∷ cont) (loop p' c' u' a' ∷ others) h k =
    cc (
      loop_once rows p p' c c' u u' a a' h.0.0.place h.0.0.form h.0.2
          (at_this rows n h.0.0 (IsLoopRow rows p' c' u' a') h.0.1 k.0),
      shown_once rows xs cont others h.1 k.1,
    )
shown_once rows (Loop n ∷ xs) (loop p c u a ∷ cont) _ h k = absurd k
shown_once rows (Loop n ∷ xs) _ others h k = absurd h
shown_once rows (Next n ∷ xs) (next p u ∷ cont) (next p' u' ∷ others) h k =
    cc (
      next_once rows p p' u u' h.0.0.place h.0.0.form h.0.2 (at_this rows n h.0.0 (IsNextRow rows p' u') h.0.1 k.0),
      shown_once rows xs cont others h.1 k.1,
    )
shown_once rows (Next n ∷ xs) (next p u ∷ cont) _ h k = absurd k
shown_once rows (Next n ∷ xs) _ others h k = absurd h

-- frames are those of one list of activations, and the thread of one

frame_once : (ts : List Typed) (f : Frame) (a b : Activation) → IsFrame ts f a → IsFrame ts f b → a ≡ b
frame_once ts f a b h k =
    let cont : a.cont ≡ b.cont = shown_once (rows_at ts f.unit f.place) (reverse f.cont.items)
    a.cont b.cont h.cont k.cont in
    ap (λ n. record { serial = n; function = a.function; target = a.target; cont = a.cont }) (h.serial ∙ sym k.serial)
    ∙ ap (λ g. record { serial = b.serial; function = g; target = a.target; cont = a.cont })
    (h.function ∙ sym k.function)
    ∙ ap (λ t. record { serial = b.serial; function = b.function; target = t; cont = a.cont }) (h.target ∙ sym k.target)
    ∙ ap (λ its. record { serial = b.serial; function = b.function; target = b.target; cont = its }) cont

frames_once : (ts : List Typed) (fs : List Frame) (all others : List Activation) → AreFrames ts fs all →
    AreFrames ts fs others → all ≡ others
frames_once ts [] [] [] h k = refl
frames_once ts [] [] (b ∷ bs) h k = absurd k
frames_once ts [] (a ∷ older) others h k = absurd h
frames_once ts (f ∷ fs) [] others h k = absurd h
frames_once ts (f ∷ fs) (a ∷ older) [] h k = absurd k
frames_once ts (f ∷ fs) (a ∷ older) (b ∷ bs) h k = cc (frame_once ts f a b h.0 k.0, frames_once ts fs older bs h.1 k.1)

pub thread_once : (p : Program) (k : code.Config) (c d : Config) → IsThread p k c → IsThread p k d → c ≡ d
thread_once p k c d h i =
    let all = frames_once p.modules (reverse k.frames.items) c.activations d.activations h.frames_are i.frames_are in
    ap (λ as_. record { activations = as_; memory = c.memory; fresh = c.fresh }) all
    ∙ ap (λ m. record { activations = d.activations; memory = m; fresh = c.fresh }) (h.memory_is ∙ sym i.memory_is)
    ∙ ap (λ n. record { activations = d.activations; memory = d.memory; fresh = n }) (h.fresh_is ∙ sym i.fresh_is)
