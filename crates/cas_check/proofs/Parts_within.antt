-- The parts of each row of a function have greater numbers, and are there.
use Rattle.std.proofs.Common.{◌≡◌, ◌<◌, ◌≤◌, ℕ, zero, suc, ◌+◌, List, [], ◌∷◌, length, Option, Some, None, subst, arith}
use Rattle.std.specs.Prelude.{slice_get, ⊤}
use Rattle.std.specs.List.{All, AllByRecursion}
use Rattle.std.proofs.lemmas.List.Elements.{All-from_recursion, recursion_from_All}
use Rattle.std.proofs.lemmas.Option.{slice_get_within}
use Rattle.cas_base.specs.declared.place.Place.{Place}
use Rattle.cas_check.specs.View.{IsTable, IsPartWithin, PartsAreWithin}
use Rattle.cas_typed.specs.declared.rows.StmtRow.{StmtRow}
use Rattle.cas_typed.specs.declared.rows.StmtRowForm.{StmtRowForm}
use Rattle.cas_typed.specs.declared.rows.StmtRowForm.TheVariants as row
use Rattle.cas_typed.specs.declared.rows.TypedFun.{TypedFun}
use Rattle.cas_typed.specs.Numbered.{size_of, size_of_option, size_of_list, At, IsRow, IsPartRow, AreRows, IsFunctionOf, one_part, parts_of}
use Rattle.cas_typed.specs.Resolved.{TypedStmtTree, skip, assign, call, block, if_, while_, do_, for_, break_, continue_, return_, lock, unlock, print, TypedStmtOption, absent, present, TypedStmtList, no_more, one_more, TypedFunTree}

-- these numbers are greater, and are there
abbrev AreWithin : (n end : ℕ) → List ℕ → Type 0
AreWithin n end ns = AllByRecursion (λ i. (n < i) × (i < end)) ns

there : (rows : List StmtRow) (i : ℕ) (a : TypedStmtTree) → At rows i (IsRow rows i a) → i < length rows
there rows i a h = slice_get_within rows i h.0 h.1

part_within : (rows : List StmtRow) (n m : ℕ) (o : TypedStmtOption) (j : Option ℕ) (rest : List ℕ) → n < m →
    IsPartRow rows m o j
    → AreWithin n (length rows) rest → AreWithin n (length rows) (one_part j rest)
part_within rows n m absent None rest less h more = more
part_within rows n m (present a) (Some i) rest less h more =
    ((let e : i ≡ m = h.0 in omega arith, there rows i a h.1), more)
part_within rows n m absent (Some i) rest less h more = absurd h
part_within rows n m (present a) None rest less h more = absurd h

rows_within : (rows : List StmtRow) (n m : ℕ) (bs : TypedStmtList) (ns : List ℕ) → n < m → AreRows rows m bs ns →
    AreWithin n (length rows) ns
rows_within rows n m no_more [] less h = tt
rows_within rows n m (one_more a bs) (i ∷ is) less h = (
  (let e : i ≡ m = h.0 in omega arith, there rows i a h.1),
  rows_within rows n (m + size_of a) bs is
      (omega arith) h.2,
)
rows_within rows n m no_more (i ∷ is) less h = absurd h
rows_within rows n m (one_more a bs) [] less h = absurd h

parts_within : (rows : List StmtRow) (n : ℕ) (a : TypedStmtTree) (q : Place) (f : StmtRowForm) → IsRow rows n a q f →
    AreWithin n (length rows) (parts_of f)
parts_within rows n (skip p) q row.Skip h = tt
parts_within rows n (assign p target a) q (row.Assign target' a') h = tt
parts_within rows n (call p kept g at args) q (row.Call kept' g' at' args') h = tt
parts_within rows n (block p bs) q (row.Block ns) h = rows_within rows n (n + 1) bs ns (omega arith) h.1
parts_within rows n (if_ p c a o) q (row.If c' i j) h = (
  (let e : i ≡ n + 1 = h.2 in omega arith, there rows i a h.3),
  part_within rows n (n + 1 + size_of a) o j []
      (omega arith) h.4 tt,
)
parts_within rows n (while_ p c a) q (row.While c' i) h =
    ((let e : i ≡ n + 1 = h.2 in omega arith, there rows i a h.3), tt)
parts_within rows n (do_ p a c) q (row.Do i c') h = ((let e : i ≡ n + 1 = h.1 in omega arith, there rows i a h.2), tt)
parts_within rows n (for_ p i c u a) q (row.For k c' j b) h =
    part_within rows n (n + 1) i k (one_part j (b ∷ [])) (omega arith) h.1
    (part_within rows n (n + 1 + size_of_option i) u j (b ∷ []) (omega arith) h.3
    ((let e : b ≡ n + 1 + size_of_option i + size_of_option u = h.4 in omega arith, there rows b a h.5), tt))
parts_within rows n (break_ p) q row.Break h = tt
parts_within rows n (continue_ p) q row.Continue h = tt
parts_within rows n (return_ p a) q (row.Return a') h = tt
parts_within rows n (lock p g) q (row.Lock g') h = tt
parts_within rows n (unlock p g) q (row.Unlock g') h = tt
parts_within rows n (print p a) q (row.Print a') h = tt
parts_within rows n _ q _ h = absurd h

-- the row with this number, if there is one, has such parts
abbrev HasParts : List StmtRow → ℕ → Type 0
HasParts rows n = (r : StmtRow) → slice_get rows n ≡ Some r → AreWithin n (length rows) (parts_of r.form)

-- so have so many rows, from this one on
abbrev HaveParts : List StmtRow → (first count : ℕ) → Type 0
HaveParts rows i zero = ⊤
HaveParts rows i (suc k) = HasParts rows i × HaveParts rows (i + 1) k

have_more : (rows : List StmtRow) (i j k : ℕ) → HaveParts rows i j → HaveParts rows (i + j) k → HaveParts rows i (j + k)
have_more rows i zero k h more =
    let here : i + 0 ≡ i = omega arith in
    let none : k ≡ 0 + k = omega arith in
    subst (λ (c : ℕ). HaveParts rows i c) none (subst (λ (c : ℕ). HaveParts rows c k) here more)
have_more rows i (suc j) k h more =
    let count : suc (j + k) ≡ suc j + k = omega arith in
    let next : i + suc j ≡ i + 1 + j = omega arith in
    subst (λ (c : ℕ). HaveParts rows i c) count (
      h.0,
      have_more rows (i + 1) j k h.1
          (subst (λ (c : ℕ). HaveParts rows c k) next more),
    )

one_of : (rows : List StmtRow) (i k j : ℕ) → j < k → HaveParts rows i k → HasParts rows (i + j)
one_of rows i zero j less h = absurd (omega arith)
one_of rows i (suc k) zero less h = let here : i ≡ i + 0 = omega arith in subst (λ (c : ℕ). HasParts rows c) here h.0
one_of rows i (suc k) (suc j) less h = let next : i + 1 + j ≡ i + suc j =
    omega arith in subst (λ (c : ℕ). HasParts rows c) next (one_of rows (i + 1) k j (omega arith) h.1)

-- the rows of a statement after its first
abbrev inner_of : TypedStmtTree → ℕ
inner_of (block p bs) = size_of_list bs
inner_of (if_ p c a o) = size_of a + size_of_option o
inner_of (while_ p c a) = size_of a
inner_of (do_ p a c) = size_of a
inner_of (for_ p i c u a) = size_of_option i + (size_of_option u + size_of a)
inner_of _ = 0

size_inner : (a : TypedStmtTree) → suc (inner_of a) ≡ size_of a
size_inner (skip p) = omega arith
size_inner (assign p target a) = omega arith
size_inner (call p kept g at args) = omega arith
size_inner (block p bs) = omega arith
size_inner (if_ p c a o) = omega arith
size_inner (while_ p c a) = omega arith
size_inner (do_ p a c) = omega arith
size_inner (for_ p i c u a) = omega arith
size_inner (break_ p) = omega arith
size_inner (continue_ p) = omega arith
size_inner (return_ p a) = omega arith
size_inner (lock p g) = omega arith
size_inner (unlock p g) = omega arith
size_inner (print p a) = omega arith

same_row : (rows : List StmtRow) (i : ℕ) (r s : StmtRow) → slice_get rows i ≡ Some r → slice_get rows i ≡ Some s → r ≡ s
same_row rows i r s h k = cc

-- a statement whose row stands there, once the rows of its parts are known
from_row : (rows : List StmtRow) (i : ℕ) (a : TypedStmtTree) (h : At rows i (IsRow rows i a)) →
    HaveParts rows (i + 1) (inner_of a) → HaveParts rows i (size_of a)
from_row rows i a h behind =
    subst (λ (c : ℕ). HaveParts rows i c) (size_inner a) (
      (λ r is. subst (λ (s : StmtRow). AreWithin i (length rows) (parts_of s.form)) (same_row rows i h.0 r h.1 is)
          (parts_within rows i a h.0.place h.0.form h.2)),
      behind,
    )

moved : (rows : List StmtRow) (j i k : ℕ) → j ≡ i → HaveParts rows j k → HaveParts rows i k
moved rows j i k h more = subst (λ (c : ℕ). HaveParts rows c k) h more

mutual
  inner_parts : (rows : List StmtRow) (i : ℕ) (a : TypedStmtTree) (q : Place) (f : StmtRowForm) → IsRow rows i a q f →
      HaveParts rows (i + 1) (inner_of a)
  inner_parts rows i (skip p) q row.Skip h = tt
  inner_parts rows i (assign p target a) q (row.Assign target' a') h = tt
  inner_parts rows i (call p kept g at args) q (row.Call kept' g' at' args') h = tt
  inner_parts rows i (block p bs) q (row.Block ns) h = list_parts rows (i + 1) bs ns h.1
  inner_parts rows i (if_ p c a o) q (row.If c' j k) h =
      have_more rows (i + 1) (size_of a) (size_of_option o)
      (moved rows j (i + 1) (size_of a) h.2 (from_row rows j a h.3 (inner_parts rows j a h.3.0.place h.3.0.form h.3.2)))
      (part_parts rows (i + 1 + size_of a) o k h.4)
  inner_parts rows i (while_ p c a) q (row.While c' j) h =
      moved rows j (i + 1) (size_of a) h.2 (from_row rows j a h.3 (inner_parts rows j a h.3.0.place h.3.0.form h.3.2))
  inner_parts rows i (do_ p a c) q (row.Do j c') h = moved rows j (i + 1) (size_of a) h.1
      (from_row rows j a h.2 (inner_parts rows j a h.2.0.place h.2.0.form h.2.2))
  inner_parts rows i (for_ p first c u a) q (row.For j c' k b) h =
      have_more rows (i + 1) (size_of_option first) (size_of_option u + size_of a)
      (part_parts rows (i + 1) first j h.1)
      (have_more rows (i + 1 + size_of_option first) (size_of_option u) (size_of a)
      (part_parts rows (i + 1 + size_of_option first) u k h.3)
      (moved rows b (i + 1 + size_of_option first + size_of_option u) (size_of a) h.4
      (from_row rows b a h.5 (inner_parts rows b a h.5.0.place h.5.0.form h.5.2))))
  inner_parts rows i (break_ p) q row.Break h = tt
  inner_parts rows i (continue_ p) q row.Continue h = tt
  inner_parts rows i (return_ p a) q (row.Return a') h = tt
  inner_parts rows i (lock p g) q (row.Lock g') h = tt
  inner_parts rows i (unlock p g) q (row.Unlock g') h = tt
  inner_parts rows i (print p a) q (row.Print a') h = tt
  inner_parts rows i _ q _ h = absurd h

  part_parts : (rows : List StmtRow) (i : ℕ) (o : TypedStmtOption) (j : Option ℕ) → IsPartRow rows i o j →
      HaveParts rows i (size_of_option o)
  part_parts rows i absent None h = tt
  part_parts rows i (present a) (Some j) h = moved rows j i (size_of a) h.0
      (from_row rows j a h.1 (inner_parts rows j a h.1.0.place h.1.0.form h.1.2))
  part_parts rows i absent (Some j) h = absurd h
  part_parts rows i (present a) None h = absurd h

  list_parts : (rows : List StmtRow) (i : ℕ) (bs : TypedStmtList) (ns : List ℕ) → AreRows rows i bs ns →
      HaveParts rows i (size_of_list bs)
  list_parts rows i no_more [] h = tt
  list_parts rows i (one_more a bs) (j ∷ js) h =
      have_more rows i (size_of a) (size_of_list bs)
      (moved rows j i (size_of a) h.0 (from_row rows j a h.1 (inner_parts rows j a h.1.0.place h.1.0.form h.1.2)))
      (list_parts rows (i + size_of a) bs js h.2)
  list_parts rows i no_more (j ∷ js) h = absurd h
  list_parts rows i (one_more a bs) [] h = absurd h

-- the rows of a function are a table
pub rows_are_table : (r : TypedFunTree) (f : TypedFun) → IsFunctionOf r f → IsTable f.rows
rows_are_table r f h n s is =
    let within : n < length f.rows = slice_get_within f.rows n s is in
    let here : 0 + n ≡ n = omega arith in
    All-from_recursion (λ i. (n < i) × (i < length f.rows)) (parts_of s.form)
    (subst (λ (c : ℕ). HasParts f.rows c) here
    (one_of f.rows 0 (size_of_list r.body) n (subst (λ (k : ℕ). n < k) h.size within)
    (list_parts f.rows 0 r.body f.body h.rows)) s is)

-- the statements of a body have rows
bodies_within : (rows : List StmtRow) (m : ℕ) (bs : TypedStmtList) (ns : List ℕ) → AreRows rows m bs ns →
    AllByRecursion (λ i. (0 ≤ i) × (i < length rows)) ns
bodies_within rows m no_more [] h = tt
bodies_within rows m (one_more a bs) (i ∷ is) h =
    ((omega arith, there rows i a h.1), bodies_within rows (m + size_of a) bs is h.2)
bodies_within rows m no_more (i ∷ is) h = absurd h
bodies_within rows m (one_more a bs) [] h = absurd h

pub bodies_have_rows : (r : TypedFunTree) (f : TypedFun) → IsFunctionOf r f →
    All (λ i. (0 ≤ i) × (i < length f.rows)) f.body
bodies_have_rows r f h = All-from_recursion (λ i. (0 ≤ i) × (i < length f.rows)) f.body
    (bodies_within f.rows 0 r.body f.body h.rows)

-- the parts of one row, by its form

optional_part : (n end : ℕ) (j : Option ℕ) (rest : List ℕ) → AreWithin n end (one_part j rest) → IsPartWithin n end j
    × AreWithin n end rest
optional_part n end None rest h = (tt, h)
optional_part n end (Some i) rest h = (h.0, h.1)

behind : (n end : ℕ) (ns : List ℕ) → AreWithin n end ns → AllByRecursion (λ i. (n + 1 ≤ i) × (i < end)) ns
behind n end [] h = tt
behind n end (i ∷ is) h = ((let less : n < i = h.0.0 in omega arith, h.0.1), behind n end is h.1)

by_form : (n end : ℕ) (form : StmtRowForm) → AreWithin n end (parts_of form) → PartsAreWithin n end form
by_form n end row.Skip h = tt
by_form n end (row.Assign target a) h = tt
by_form n end (row.Call kept g at args) h = tt
by_form n end (row.Block ns) h = All-from_recursion (λ i. (n + 1 ≤ i) × (i < end)) ns (behind n end ns h)
by_form n end (row.If c i j) h = (h.0.0, h.0.1, (optional_part n end j [] h.1).0)
by_form n end (row.While c i) h = h.0
by_form n end (row.Do i c) h = h.0
by_form n end (row.For i c j k) h =
    let first = optional_part n end i (one_part j (k ∷ [])) h in
    let after = optional_part n end j (k ∷ []) first.1 in
    (first.0, after.0, after.1.0.0, after.1.0.1)
by_form n end row.Break h = tt
by_form n end row.Continue h = tt
by_form n end (row.Return a) h = tt
by_form n end (row.Lock g) h = tt
by_form n end (row.Unlock g) h = tt
by_form n end (row.Print a) h = tt

-- the parts of a row of a table
pub row_within : (rows : List StmtRow) (n : ℕ) (r : StmtRow) → IsTable rows → slice_get rows n ≡ Some r →
    PartsAreWithin n (length rows) r.form
row_within rows n r table is = by_form n (length rows) r.form
    (recursion_from_All (λ i. (n < i) × (i < length rows)) (parts_of r.form) (table n r is))
