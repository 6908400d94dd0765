-- The rows of a function make exactly the pointers that its body makes.
use Rattle.std.proofs.Common.{◌≡◌, ℕ, zero, suc, ◌+◌, ◌==◌, Bool, true, false, ◌||◌, List, [], ◌∷◌, ◌++◌, map, length, Option, Some, None, refl, ap, sym, ◌∙◌, arith, append_assoc, length-append}
use Rattle.std.specs.Prelude.{slice_get}
use Rattle.std.specs.List.{list_any}
use Rattle.std.proofs.lemmas.List.Folds.{list_any-append}
use Rattle.cas_base.specs.declared.place.Place.{Place}
use Rattle.cas_typed.specs.declared.rows.StmtRow.{StmtRow}
use Rattle.cas_typed.specs.declared.rows.StmtRowForm.{StmtRowForm}
use Rattle.cas_typed.specs.declared.rows.StmtRowForm.TheVariants as row
use Rattle.cas_typed.specs.declared.tree.TypedExpr.{TypedExpr}
use Rattle.cas_typed.specs.declared.tree.TypedTarget.{TypedTarget}
use Rattle.cas_type.specs.Parts.{pointers_of, pointers_of_target, pointers_of_optional, pointers_of_exprs, pointers_of_row, pointers_of_rows}
use Rattle.cas_typed.specs.Numbered.{size_of, size_of_option, size_of_list, IsRow, IsPartRow, AreRows, optional_expr_tree}
use Rattle.cas_typed.specs.Resolved as t
use Rattle.cas_typed.specs.Resolved.{TypedExprTree, TypedTargetTree, typed_expr_tree, typed_target_tree, TypedStmtTree, skip, assign, call, block, if_, while_, do_, for_, break_, continue_, return_, lock, unlock, print, TypedStmtOption, absent, present, TypedStmtList, no_more, one_more, makes_pointer, target_makes_pointer, option_makes_pointer, stmt_makes_pointer, part_makes_pointer, list_makes_pointer}

-- Bool's laws

or_false : (a : Bool) → (a || false) ≡ a
or_false true = refl
or_false false = refl

or_comm : (a b : Bool) → (a || b) ≡ (b || a)
or_comm true true = refl
or_comm true false = refl
or_comm false true = refl
or_comm false false = refl

or_assoc : (a b c : Bool) → ((a || b) || c) ≡ (a || (b || c))
or_assoc true b c = refl
or_assoc false b c = refl

or_past : (a b c : Bool) → (a || (b || c)) ≡ (b || (a || c))
or_past a b c = sym (or_assoc a b c) ∙ ap (λ x. x || c) (or_comm a b) ∙ or_assoc b a c

both : {a a' b b' : Bool} → a ≡ a' → b ≡ b' → (a || b) ≡ (a' || b')
both h k = λ i. h i || k i

-- whether a local is among these
abbrev pub among : ℕ → List ℕ → Bool
among n ms = list_any (λ m. m == n) ms

among-append : (n : ℕ) (ms ks : List ℕ) → among n (ms ++ ks) ≡ (among n ms || among n ks)
among-append n ms ks = list_any-append (λ m. m == n) ms ks

-- expressions

two : (n : ℕ) (a b : Bool) (ms ks : List ℕ) → a ≡ among n ms → b ≡ among n ks → (a || b) ≡ among n (ms ++ ks)
two n a b ms ks h k = both h k ∙ sym (among-append n ms ks)

expr_law : (n : ℕ) (a : TypedExprTree) → makes_pointer n a ≡ among n (pointers_of a)
expr_law n (t.literal w) = refl
expr_law n t.null = refl
expr_law n (t.local m) = refl
expr_law n (t.global g at) = refl
expr_law n (t.element g at s a) = expr_law n a
expr_law n (t.place_of m) = sym (or_false (m == n))
expr_law n (t.behind k a) = expr_law n a
expr_law n (t.pointer_plus s a b) = two n _ _ (pointers_of a) (pointers_of b) (expr_law n a) (expr_law n b)
expr_law n (t.plus_pointer s a b) = two n _ _ (pointers_of a) (pointers_of b) (expr_law n a) (expr_law n b)
expr_law n (t.pointer_minus s a b) = two n _ _ (pointers_of a) (pointers_of b) (expr_law n a) (expr_law n b)
expr_law n (t.pointer_difference a b) = two n _ _ (pointers_of a) (pointers_of b) (expr_law n a) (expr_law n b)
expr_law n (t.compare op a b) = two n _ _ (pointers_of a) (pointers_of b) (expr_law n a) (expr_law n b)
expr_law n (t.unary op a) = expr_law n a
expr_law n (t.binary op s a b) = two n _ _ (pointers_of a) (pointers_of b) (expr_law n a) (expr_law n b)
expr_law n (t.narrow k a) = expr_law n a
expr_law n (t.and_also a b) = two n _ _ (pointers_of a) (pointers_of b) (expr_law n a) (expr_law n b)
expr_law n (t.or_else a b) = two n _ _ (pointers_of a) (pointers_of b) (expr_law n a) (expr_law n b)
expr_law n (t.choose c a b) =
    two n _ _ (pointers_of c) (pointers_of a ++ pointers_of b) (expr_law n c)
    (two n _ _ (pointers_of a) (pointers_of b) (expr_law n a) (expr_law n b))

target_law : (n : ℕ) (a : TypedTargetTree) → target_makes_pointer n a ≡ among n (pointers_of_target a)
target_law n (t.to_local m) = refl
target_law n (t.to_global g at) = refl
target_law n (t.to_element g at s a) = expr_law n a
target_law n (t.to_behind k a) = expr_law n a

-- what the code's rows hold

expr_at : (n : ℕ) (a : TypedExprTree) (a' : TypedExpr) → typed_expr_tree a' ≡ a →
    makes_pointer n a ≡ among n (pointers_of (typed_expr_tree a'))
expr_at n a a' h = sym (ap (makes_pointer n) h) ∙ expr_law n (typed_expr_tree a')

target_at : (n : ℕ) (a : TypedTargetTree) (a' : TypedTarget) → typed_target_tree a' ≡ a →
    target_makes_pointer n a ≡ among n (pointers_of_target (typed_target_tree a'))
target_at n a a' h = sym (ap (target_makes_pointer n) h) ∙ target_law n (typed_target_tree a')

optional_law : (n : ℕ) (a' : Option TypedExpr) → option_makes_pointer n (optional_expr_tree a') ≡ among n
    (pointers_of_optional a')
optional_law n None = refl
optional_law n (Some a) = expr_law n (typed_expr_tree a)

optional_at : (n : ℕ) (a : Option TypedExprTree) (a' : Option TypedExpr) → optional_expr_tree a' ≡ a →
    option_makes_pointer n a ≡ among n (pointers_of_optional a')
optional_at n a a' h = sym (ap (option_makes_pointer n) h) ∙ optional_law n a'

exprs_law : (n : ℕ) (args : List TypedExpr) → list_any (makes_pointer n) (map typed_expr_tree args) ≡ among n
    (pointers_of_exprs args)
exprs_law n [] = refl
exprs_law n (a ∷ args) = two n _ _ (pointers_of (typed_expr_tree a)) (pointers_of_exprs args)
    (expr_law n (typed_expr_tree a)) (exprs_law n args)

exprs_at : (n : ℕ) (args : List TypedExprTree) (args' : List TypedExpr) → map typed_expr_tree args' ≡ args →
    list_any (makes_pointer n) args ≡ among n (pointers_of_exprs args')
exprs_at n args args' h = sym (ap (list_any (makes_pointer n)) h) ∙ exprs_law n args'

-- rows one after another

abbrev made_at : ℕ → Option StmtRow → Bool
made_at n None = false
made_at n (Some r) = among n (pointers_of_row r.form)

-- whether one of so many rows, from this one on, makes a pointer to the local
abbrev made_in : ℕ → List StmtRow → (first count : ℕ) → Bool
made_in n rows i zero = false
made_in n rows i (suc k) = made_at n (slice_get rows i) || made_in n rows (i + 1) k

made_in-add : (n : ℕ) (rows : List StmtRow) (i j k : ℕ) →
    made_in n rows i (j + k) ≡ (made_in n rows i j || made_in n rows (i + j) k)
made_in-add n rows i zero k =
    let here : i + 0 ≡ i = omega arith in
    let none : 0 + k ≡ k = omega arith in
    ap (made_in n rows i) none ∙ sym (ap (λ x. made_in n rows x k) here)
made_in-add n rows i (suc j) k =
    let more : suc j + k ≡ suc (j + k) = omega arith in
    let there : i + 1 + j ≡ i + suc j = omega arith in
    ap (made_in n rows i) more
    ∙ ap (λ b. made_at n (slice_get rows i) || b) (made_in-add n rows (i + 1) j k
    ∙ ap (λ x. made_in n rows (i + 1) j || made_in n rows x k) there)
    ∙ sym (or_assoc (made_at n (slice_get rows i)) (made_in n rows (i + 1) j) (made_in n rows (i + suc j) k))

-- the rows of a statement after its first
abbrev inner_of : TypedStmtTree → ℕ
inner_of (skip p) = 0
inner_of (assign p target a) = 0
inner_of (call p kept g at args) = 0
inner_of (block p bs) = size_of_list bs
inner_of (if_ p c a o) = size_of a + size_of_option o
inner_of (while_ p c a) = size_of a
inner_of (do_ p a c) = size_of a
inner_of (for_ p i c u a) = size_of_option i + (size_of_option u + size_of a)
inner_of (break_ p) = 0
inner_of (continue_ p) = 0
inner_of (return_ p a) = 0
inner_of (lock p g) = 0
inner_of (unlock p g) = 0
inner_of (print p a) = 0

size_inner : (a : TypedStmtTree) → size_of a ≡ suc (inner_of a)
size_inner (skip p) = refl
size_inner (assign p target a) = refl
size_inner (call p kept g at args) = refl
size_inner (block p bs) = omega arith
size_inner (if_ p c a o) = omega arith
size_inner (while_ p c a) = omega arith
size_inner (do_ p a c) = omega arith
size_inner (for_ p i c u a) = omega arith
size_inner (break_ p) = refl
size_inner (continue_ p) = refl
size_inner (return_ p a) = refl
size_inner (lock p g) = refl
size_inner (unlock p g) = refl
size_inner (print p a) = refl

-- a statement whose row stands there, once its row and those of its parts are known
from_row : (n : ℕ) (rows : List StmtRow) (i : ℕ) (a : TypedStmtTree) (r : StmtRow) → slice_get rows i ≡ Some r
    → stmt_makes_pointer n a ≡ (among n (pointers_of_row r.form) || made_in n rows (i + 1) (inner_of a))
    → stmt_makes_pointer n a ≡ made_in n rows i (size_of a)
from_row n rows i a r there h =
    h ∙ ap (λ o. made_at n o || made_in n rows (i + 1) (inner_of a)) (sym there)
    ∙ sym (ap (made_in n rows i) (size_inner a))

plain : (a b : Bool) → a ≡ b → a ≡ (b || false)
plain a b h = h ∙ sym (or_false b)

mutual
  stmt_law : (n : ℕ) (rows : List StmtRow) (i : ℕ) (a : TypedStmtTree) (q : Place) (f : StmtRowForm) →
      IsRow rows i a q f
      → stmt_makes_pointer n a ≡ (among n (pointers_of_row f) || made_in n rows (i + 1) (inner_of a))
  stmt_law n rows i (skip p) q row.Skip h = refl
  stmt_law n rows i (assign p target a) q (row.Assign target' a') h =
      plain _ _ (two n _ _ (pointers_of_target (typed_target_tree target')) (pointers_of (typed_expr_tree a'))
      (target_at n target target' h.1) (expr_at n a a' h.2))
  stmt_law n rows i (call p kept g at args) q (row.Call kept' g' at' args') h = plain _ _ (exprs_at n args args' h.4)
  stmt_law n rows i (block p bs) q (row.Block ns) h = list_law n rows (i + 1) bs ns h.1
  stmt_law n rows i (if_ p c a o) q (row.If c' j k) h =
      both (expr_at n c c' h.1)
      (both (from_row n rows j a h.3.0 h.3.1 (stmt_law n rows j a h.3.0.place h.3.0.form h.3.2)
      ∙ ap (λ x. made_in n rows x (size_of a)) h.2) (part_law n rows (i + 1 + size_of a) o k h.4)
      ∙ sym (made_in-add n rows (i + 1) (size_of a) (size_of_option o)))
  stmt_law n rows i (while_ p c a) q (row.While c' j) h =
      both (expr_at n c c' h.1) (from_row n rows j a h.3.0 h.3.1 (stmt_law n rows j a h.3.0.place h.3.0.form h.3.2)
      ∙ ap (λ x. made_in n rows x (size_of a)) h.2)
  stmt_law n rows i (do_ p a c) q (row.Do j c') h =
      or_comm (stmt_makes_pointer n a) (makes_pointer n c)
      ∙ both (expr_at n c c' h.3) (from_row n rows j a h.2.0 h.2.1 (stmt_law n rows j a h.2.0.place h.2.0.form h.2.2)
      ∙ ap (λ x. made_in n rows x (size_of a)) h.1)
  stmt_law n rows i (for_ p first c u a) q (row.For j c' k b) h =
      or_past (part_makes_pointer n first) (option_makes_pointer n c) (part_makes_pointer n u || stmt_makes_pointer n a)
      ∙ both (optional_at n c c' h.2)
      (both (part_law n rows (i + 1) first j h.1)
      (both (part_law n rows (i + 1 + size_of_option first) u k h.3)
      (from_row n rows b a h.5.0 h.5.1 (stmt_law n rows b a h.5.0.place h.5.0.form h.5.2)
      ∙ ap (λ x. made_in n rows x (size_of a)) h.4)
      ∙ sym (made_in-add n rows (i + 1 + size_of_option first) (size_of_option u) (size_of a)))
      ∙ sym (made_in-add n rows (i + 1) (size_of_option first) (size_of_option u + size_of a)))
  stmt_law n rows i (break_ p) q row.Break h = refl
  stmt_law n rows i (continue_ p) q row.Continue h = refl
  stmt_law n rows i (return_ p a) q (row.Return a') h = plain _ _ (optional_at n a a' h.1)
  stmt_law n rows i (lock p g) q (row.Lock g') h = refl
  stmt_law n rows i (unlock p g) q (row.Unlock g') h = refl
  stmt_law n rows i (print p a) q (row.Print a') h = plain _ _ (expr_at n a a' h.1)
  stmt_law n rows i _ q _ h = absurd h

  part_law : (n : ℕ) (rows : List StmtRow) (i : ℕ) (o : TypedStmtOption) (j : Option ℕ) → IsPartRow rows i o j →
      part_makes_pointer n o ≡ made_in n rows i (size_of_option o)
  part_law n rows i absent None h = refl
  part_law n rows i (present a) (Some j) h = from_row n rows j a h.1.0 h.1.1
      (stmt_law n rows j a h.1.0.place h.1.0.form h.1.2) ∙ ap (λ x. made_in n rows x (size_of a)) h.0
  part_law n rows i absent (Some j) h = absurd h
  part_law n rows i (present a) None h = absurd h

  list_law : (n : ℕ) (rows : List StmtRow) (i : ℕ) (bs : TypedStmtList) (ns : List ℕ) → AreRows rows i bs ns →
      list_makes_pointer n bs ≡ made_in n rows i (size_of_list bs)
  list_law n rows i no_more [] h = refl
  list_law n rows i (one_more a bs) (j ∷ js) h =
      both (from_row n rows j a h.1.0 h.1.1 (stmt_law n rows j a h.1.0.place h.1.0.form h.1.2)
      ∙ ap (λ x. made_in n rows x (size_of a)) h.0) (list_law n rows (i + size_of a) bs js h.2)
      ∙ sym (made_in-add n rows i (size_of a) (size_of_list bs))
  list_law n rows i no_more (j ∷ js) h = absurd h
  list_law n rows i (one_more a bs) [] h = absurd h

-- all rows

seam : (before : List StmtRow) (r : StmtRow) (rows : List StmtRow) →
    slice_get (before ++ r ∷ rows) (length before) ≡ Some r
seam [] r rows = refl
seam (b ∷ before) r rows = seam before r rows

rows_law : (n : ℕ) (before rows : List StmtRow) → made_in n (before ++ rows) (length before) (length rows) ≡ among n
    (pointers_of_rows rows)
rows_law n before [] = refl
rows_law n before (r ∷ rows) =
    let next : before ++ (r ∷ rows) ≡ (before ++ r ∷ []) ++ rows = sym (append_assoc before (r ∷ []) rows) in
    let count : length before + 1 ≡ length (before ++ r ∷ []) = sym (length-append before (r ∷ [])) in
    both (ap (made_at n) (seam before r rows))
    ((λ i. made_in n (next i) (count i) (length rows)) ∙ rows_law n (before ++ r ∷ []) rows)
    ∙ sym (among-append n (pointers_of_row r.form) (pointers_of_rows rows))

-- the rows make the pointers that the body makes
pub pointers_law : (n : ℕ) (rows : List StmtRow) (bs : TypedStmtList) (ns : List ℕ) → AreRows rows 0 bs ns →
    length rows ≡ size_of_list bs
    → list_any (λ m. m == n) (pointers_of_rows rows) ≡ list_makes_pointer n bs
pointers_law n rows bs ns h size =
    sym (rows_law n [] rows) ∙ ap (made_in n rows 0) size ∙ sym (list_law n rows 0 bs ns h)
