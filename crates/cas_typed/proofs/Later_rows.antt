-- Each row of a function stands for a statement, so its parts have greater numbers.
use Rattle.std.proofs.Common.{◌≡◌, ◌<◌, ℕ, zero, suc, ◌+◌, List, [], ◌∷◌, length, Option, Some, None, subst, arith}
use Rattle.std.specs.Prelude.{slice_get, All, ⊤}
use Rattle.std.proofs.lemmas.Option.{slice_get_within}
use Rattle.cas_base.specs.declared.place.Place.{Place}
use Rattle.cas_typed.specs.declared.rows.StmtRow.{StmtRow}
use Rattle.cas_typed.specs.declared.rows.StmtRowForm.{StmtRowForm}
use Rattle.cas_typed.specs.declared.rows.StmtRowForm.TheVariants as row
use Rattle.cas_typed.specs.declared.rows.TypedFun.{TypedFun}
use Rattle.cas_typed.specs.Numbered.{size_of, size_of_option, size_of_list, At, IsRow, IsPartRow, AreRows, IsFunctionOf, parts_of}
use Rattle.cas_typed.specs.Resolved.{TypedStmtTree, skip, assign, call, block, if_, while_, do_, for_, break_, continue_, return_, lock, unlock, print, TypedStmtOption, absent, present, TypedStmtList, no_more, one_more, TypedFunTree}
use Rattle.cas_typed.proofs.Later.{IsRow-later}

-- the row with this number, if there is one, has parts with greater numbers
abbrev HasLater : List StmtRow → ℕ → Type 0
HasLater rows n = (r : StmtRow) → slice_get rows n ≡ Some r → All (λ i. n < i) (parts_of r.form)

-- so have so many rows, from this one on
abbrev HaveLater : List StmtRow → (first count : ℕ) → Type 0
HaveLater rows i zero = ⊤
HaveLater rows i (suc k) = HasLater rows i × HaveLater rows (i + 1) k

have_more : (rows : List StmtRow) (i j k : ℕ) → HaveLater rows i j → HaveLater rows (i + j) k → HaveLater rows i (j + k)
have_more rows i zero k h later =
    let here : i + 0 ≡ i = omega arith in
    let none : k ≡ 0 + k = omega arith in
    subst (λ (c : ℕ). HaveLater rows i c) none (subst (λ (c : ℕ). HaveLater rows c k) here later)
have_more rows i (suc j) k h later =
    let more : suc (j + k) ≡ suc j + k = omega arith in
    let there : i + suc j ≡ i + 1 + j = omega arith in
    subst (λ (c : ℕ). HaveLater rows i c) more (
      h.0,
      have_more rows (i + 1) j k h.1
          (subst (λ (c : ℕ). HaveLater rows c k) there later),
    )

one_of : (rows : List StmtRow) (i k j : ℕ) → j < k → HaveLater rows i k → HasLater rows (i + j)
one_of rows i zero j less h = absurd (omega arith)
one_of rows i (suc k) zero less h = let here : i ≡ i + 0 = omega arith in subst (λ (c : ℕ). HasLater rows c) here h.0
one_of rows i (suc k) (suc j) less h = let there : i + 1 + j ≡ i + suc j =
    omega arith in subst (λ (c : ℕ). HasLater rows c) there (one_of rows (i + 1) k j (omega arith) h.1)

-- the rows of a statement after its first
abbrev inner_of : TypedStmtTree → ℕ
inner_of (block p bs) = size_of_list bs
inner_of (if_ p c a o) = size_of a + size_of_option o
inner_of (while_ p c a) = size_of a
inner_of (do_ p a c) = size_of a
inner_of (for_ p i c u a) = size_of_option i + (size_of_option u + size_of a)
inner_of _ = 0

size_inner : (a : TypedStmtTree) → suc (inner_of a) ≡ size_of a
size_inner (skip p) = omega arith
size_inner (assign p target a) = omega arith
size_inner (call p kept g at args) = omega arith
size_inner (block p bs) = omega arith
size_inner (if_ p c a o) = omega arith
size_inner (while_ p c a) = omega arith
size_inner (do_ p a c) = omega arith
size_inner (for_ p i c u a) = omega arith
size_inner (break_ p) = omega arith
size_inner (continue_ p) = omega arith
size_inner (return_ p a) = omega arith
size_inner (lock p g) = omega arith
size_inner (unlock p g) = omega arith
size_inner (print p a) = omega arith

same_row : (rows : List StmtRow) (i : ℕ) (r s : StmtRow) → slice_get rows i ≡ Some r → slice_get rows i ≡ Some s → r ≡ s
same_row rows i r s h k = cc

-- a statement whose row stands there, once the rows of its parts are known
from_row : (rows : List StmtRow) (i : ℕ) (a : TypedStmtTree) (h : At rows i (IsRow rows i a)) →
    HaveLater rows (i + 1) (inner_of a) → HaveLater rows i (size_of a)
from_row rows i a h behind =
    subst (λ (c : ℕ). HaveLater rows i c) (size_inner a) (
      (λ r is. subst (λ (s : StmtRow). All (λ j. i < j) (parts_of s.form)) (same_row rows i h.0 r h.1 is)
          (IsRow-later rows i a h.0.place h.0.form h.2)),
      behind,
    )

moved : (rows : List StmtRow) (j i k : ℕ) → j ≡ i → HaveLater rows j k → HaveLater rows i k
moved rows j i k h later = subst (λ (c : ℕ). HaveLater rows c k) h later

mutual
  inner_later : (rows : List StmtRow) (i : ℕ) (a : TypedStmtTree) (q : Place) (f : StmtRowForm) → IsRow rows i a q f →
      HaveLater rows (i + 1) (inner_of a)
  inner_later rows i (skip p) q row.Skip h = tt
  inner_later rows i (assign p target a) q (row.Assign target' a') h = tt
  inner_later rows i (call p kept g at args) q (row.Call kept' g' at' args') h = tt
  inner_later rows i (block p bs) q (row.Block ns) h = list_later rows (i + 1) bs ns h.1
  inner_later rows i (if_ p c a o) q (row.If c' j k) h =
      have_more rows (i + 1) (size_of a) (size_of_option o)
      (moved rows j (i + 1) (size_of a) h.2 (from_row rows j a h.3 (inner_later rows j a h.3.0.place h.3.0.form h.3.2)))
      (part_later rows (i + 1 + size_of a) o k h.4)
  inner_later rows i (while_ p c a) q (row.While c' j) h =
      moved rows j (i + 1) (size_of a) h.2 (from_row rows j a h.3 (inner_later rows j a h.3.0.place h.3.0.form h.3.2))
  inner_later rows i (do_ p a c) q (row.Do j c') h = moved rows j (i + 1) (size_of a) h.1
      (from_row rows j a h.2 (inner_later rows j a h.2.0.place h.2.0.form h.2.2))
  inner_later rows i (for_ p first c u a) q (row.For j c' k b) h =
      have_more rows (i + 1) (size_of_option first) (size_of_option u + size_of a)
      (part_later rows (i + 1) first j h.1)
      (have_more rows (i + 1 + size_of_option first) (size_of_option u) (size_of a)
      (part_later rows (i + 1 + size_of_option first) u k h.3)
      (moved rows b (i + 1 + size_of_option first + size_of_option u) (size_of a) h.4
      (from_row rows b a h.5 (inner_later rows b a h.5.0.place h.5.0.form h.5.2))))
  inner_later rows i (break_ p) q row.Break h = tt
  inner_later rows i (continue_ p) q row.Continue h = tt
  inner_later rows i (return_ p a) q (row.Return a') h = tt
  inner_later rows i (lock p g) q (row.Lock g') h = tt
  inner_later rows i (unlock p g) q (row.Unlock g') h = tt
  inner_later rows i (print p a) q (row.Print a') h = tt
  inner_later rows i _ q _ h = absurd h

  part_later : (rows : List StmtRow) (i : ℕ) (o : TypedStmtOption) (j : Option ℕ) → IsPartRow rows i o j →
      HaveLater rows i (size_of_option o)
  part_later rows i absent None h = tt
  part_later rows i (present a) (Some j) h = moved rows j i (size_of a) h.0
      (from_row rows j a h.1 (inner_later rows j a h.1.0.place h.1.0.form h.1.2))
  part_later rows i absent (Some j) h = absurd h
  part_later rows i (present a) None h = absurd h

  list_later : (rows : List StmtRow) (i : ℕ) (bs : TypedStmtList) (ns : List ℕ) → AreRows rows i bs ns →
      HaveLater rows i (size_of_list bs)
  list_later rows i no_more [] h = tt
  list_later rows i (one_more a bs) (j ∷ js) h =
      have_more rows i (size_of a) (size_of_list bs)
      (moved rows j i (size_of a) h.0 (from_row rows j a h.1 (inner_later rows j a h.1.0.place h.1.0.form h.1.2)))
      (list_later rows (i + size_of a) bs js h.2)
  list_later rows i no_more (j ∷ js) h = absurd h
  list_later rows i (one_more a bs) [] h = absurd h

-- the parts of each row of a function have greater numbers
pub rows_are_later : (r : TypedFunTree) (f : TypedFun) (n : ℕ) (s : StmtRow) → IsFunctionOf r f →
    slice_get f.rows n ≡ Some s → All (λ i. n < i) (parts_of s.form)
rows_are_later r f n s h is =
    let within : n < length f.rows = slice_get_within f.rows n s is in
    let here : 0 + n ≡ n = omega arith in
    subst (λ (c : ℕ). HasLater f.rows c) here
    (one_of f.rows 0 (size_of_list r.body) n (subst (λ (k : ℕ). n < k) h.size within)
    (list_later f.rows 0 r.body f.body h.rows)) s is
