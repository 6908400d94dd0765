-- Rows that stay stand for the same statements as before.
use Rattle.std.proofs.Common.{◌≡◌, ◌<◌, ◌≤◌, ℕ, ◌+◌, List, [], ◌∷◌, Option, Some, None, ◌∙◌, arith}
use Rattle.std.specs.List.{slice_get}
use Rattle.cas_base.specs.declared.place.Place.{Place}
use Rattle.cas_typed.specs.declared.rows.StmtRow.{StmtRow}
use Rattle.cas_typed.specs.declared.rows.StmtRowForm.{StmtRowForm}
use Rattle.cas_typed.specs.declared.rows.StmtRowForm.TheVariants as row
use Rattle.cas_typed.specs.Numbered.{size_of, size_of_option, size_of_list, At, IsRow, IsPartRow, AreRows}
use Rattle.cas_typed.specs.Resolved.{TypedStmtTree, skip, assign, call, block, if_, while_, do_, for_, break_, continue_, return_, lock, unlock, print, TypedStmtOption, absent, present, TypedStmtList, no_more, one_more}

-- rows with these numbers, from one on to below another, are the same
abbrev pub Same : (old new : List StmtRow) → (first end : ℕ) → Type 0
Same old new first end = (i : ℕ) → first ≤ i → i < end → slice_get new i ≡ slice_get old i

pub Same-within : (old new : List StmtRow) (first end m n : ℕ) → first ≤ m → n ≤ end → Same old new first end →
    Same old new m n
Same-within old new first end m n low high s i above below = s i (omega arith) (omega arith)

-- a statement has a row
pub size-positive : (a : TypedStmtTree) → 0 < size_of a
size-positive (skip p) = omega arith
size-positive (assign p target a) = omega arith
size-positive (call p kept g at args) = omega arith
size-positive (block p bs) = omega arith
size-positive (if_ p c a o) = omega arith
size-positive (while_ p c a) = omega arith
size-positive (do_ p a c) = omega arith
size-positive (for_ p i c u a) = omega arith
size-positive (break_ p) = omega arith
size-positive (continue_ p) = omega arith
size-positive (return_ p a) = omega arith
size-positive (lock p g) = omega arith
size-positive (unlock p g) = omega arith
size-positive (print p a) = omega arith

-- a row that stays, whose form stands for the same statement
At-kept : (old new : List StmtRow) (n : ℕ) (a : TypedStmtTree) → Same old new n (n + size_of a)
    → ((q : Place) (f : StmtRowForm) → Same old new (n + 1) (n + size_of a) → IsRow old n a q f → IsRow new n a q f)
    → At old n (IsRow old n a) → At new n (IsRow new n a)
At-kept old new n a s kept h =
    let positive : 0 < size_of a = size-positive a in (
      h.0,
      s n (omega arith) (omega arith) ∙ h.1,
      kept h.0.place h.0.form
          (Same-within old new n (n + size_of a) (n + 1) (n + size_of a) (omega arith) (omega arith) s) h.2,
    )

mutual
  pub IsRow-kept : (old new : List StmtRow) (n : ℕ) (a : TypedStmtTree) (q : Place) (f : StmtRowForm) →
      Same old new (n + 1) (n + size_of a) → IsRow old n a q f → IsRow new n a q f
  IsRow-kept old new n (skip p) q row.Skip s h = h
  IsRow-kept old new n (assign p target a) q (row.Assign target' a') s h = h
  IsRow-kept old new n (call p kept g at args) q (row.Call kept' g' at' args') s h = h
  IsRow-kept old new n (block p bs) q (row.Block ns) s h = (
    h.0,
    AreRows-kept old new (n + 1) bs ns (Same-within old new (n + 1) (n + size_of (block p bs)) (n + 1)
        (n + 1 + size_of_list bs) (omega arith) (omega arith) s) h.1,
  )
  IsRow-kept old new n (if_ p c a o) q (row.If c' i j) s h =
      let e : i ≡ n + 1 = h.2 in (
        h.0,
        h.1,
        h.2,
        At-kept old new i a (Same-within old new (n + 1) (n + size_of (if_ p c a o)) i (i + size_of a) (omega arith)
            (omega arith) s) (IsRow-kept old new i a) h.3,
        IsPartRow-kept old new (n + 1 + size_of a) o j
            (Same-within old new (n + 1) (n + size_of (if_ p c a o)) (n + 1 + size_of a)
            (n + 1 + size_of a + size_of_option o) (omega arith) (omega arith) s) h.4,
      )
  IsRow-kept old new n (while_ p c a) q (row.While c' i) s h =
      let e : i ≡ n + 1 = h.2 in (
        h.0,
        h.1,
        h.2,
        At-kept old new i a (Same-within old new (n + 1) (n + size_of (while_ p c a)) i (i + size_of a)
            (omega arith) (omega arith) s) (IsRow-kept old new i a) h.3,
      )
  IsRow-kept old new n (do_ p a c) q (row.Do i c') s h =
      let e : i ≡ n + 1 = h.1 in (
        h.0,
        h.1,
        At-kept old new i a (Same-within old new (n + 1) (n + size_of (do_ p a c)) i (i + size_of a)
            (omega arith) (omega arith) s) (IsRow-kept old new i a) h.2,
        h.3,
      )
  IsRow-kept old new n (for_ p i c u a) q (row.For x c' y k) s h =
      let e : k ≡ n + 1 + size_of_option i + size_of_option u = h.4 in (
        h.0,
        IsPartRow-kept old new (n + 1) i x
            (Same-within old new (n + 1) (n + size_of (for_ p i c u a)) (n + 1) (n + 1 + size_of_option i) (omega arith)
            (omega arith) s) h.1,
        h.2,
        IsPartRow-kept old new (n + 1 + size_of_option i) u y
            (Same-within old new (n + 1) (n + size_of (for_ p i c u a)) (n + 1 + size_of_option i)
            (n + 1 + size_of_option i + size_of_option u) (omega arith) (omega arith) s) h.3,
        h.4,
        At-kept old new k a (Same-within old new (n + 1) (n + size_of (for_ p i c u a)) k (k + size_of a) (omega arith)
            (omega arith) s) (IsRow-kept old new k a) h.5,
      )
  IsRow-kept old new n (break_ p) q row.Break s h = h
  IsRow-kept old new n (continue_ p) q row.Continue s h = h
  IsRow-kept old new n (return_ p a) q (row.Return a') s h = h
  IsRow-kept old new n (lock p g) q (row.Lock g') s h = h
  IsRow-kept old new n (unlock p g) q (row.Unlock g') s h = h
  IsRow-kept old new n (print p a) q (row.Print a') s h = h
  IsRow-kept old new n _ q _ s h = absurd h

  pub IsPartRow-kept : (old new : List StmtRow) (n : ℕ) (o : TypedStmtOption) (j : Option ℕ) →
      Same old new n (n + size_of_option o) → IsPartRow old n o j → IsPartRow new n o j
  IsPartRow-kept old new n absent None s h = h
  IsPartRow-kept old new n (present a) (Some i) s h =
      let e : i ≡ n = h.0 in (
        h.0,
        At-kept old new i a (Same-within old new n (n + size_of_option (present a)) i (i + size_of a) (omega arith)
            (omega arith) s) (IsRow-kept old new i a) h.1,
      )
  IsPartRow-kept old new n absent (Some i) s h = absurd h
  IsPartRow-kept old new n (present a) None s h = absurd h

  pub AreRows-kept : (old new : List StmtRow) (n : ℕ) (bs : TypedStmtList) (ns : List ℕ) →
      Same old new n (n + size_of_list bs) → AreRows old n bs ns → AreRows new n bs ns
  AreRows-kept old new n no_more [] s h = h
  AreRows-kept old new n (one_more a bs) (i ∷ is) s h =
      let e : i ≡ n = h.0 in (
        h.0,
        At-kept old new i a (Same-within old new n (n + size_of_list (one_more a bs)) i (i + size_of a) (omega arith)
            (omega arith) s) (IsRow-kept old new i a) h.1,
        AreRows-kept old new (n + size_of a) bs is
            (Same-within old new n (n + size_of_list (one_more a bs)) (n + size_of a) (n + size_of a + size_of_list bs)
            (omega arith) (omega arith) s) h.2,
      )
  AreRows-kept old new n no_more (i ∷ is) s h = absurd h
  AreRows-kept old new n (one_more a bs) [] s h = absurd h
