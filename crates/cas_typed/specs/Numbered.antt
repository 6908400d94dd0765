-- The rows of a function's statements: they are numbered in order of text, a statement before its parts.
use Rattle.std.specs.Prelude.{◌≡◌, ⊤, ℕ, ◌+◌, List, [], ◌∷◌, length, map, Option, Some, None, slice_get}
use Rattle.cas_base.specs.declared.place.Place.{Place}
use Rattle.cas_typed.specs.declared.rows.StmtRow.{StmtRow}
use Rattle.cas_typed.specs.declared.rows.StmtRowForm.{StmtRowForm}
use Rattle.cas_typed.specs.declared.rows.StmtRowForm.TheVariants as row
use Rattle.cas_typed.specs.declared.rows.TypedFun.{TypedFun}
use Rattle.cas_typed.specs.declared.tree.TypedExpr.{TypedExpr}
use Rattle.cas_typed.specs.Resolved.{TypedExprTree, typed_expr_tree, typed_target_tree, TypedStmtTree, skip, assign, call, block, if_, while_, do_, for_, break_, continue_, return_, lock, unlock, print, TypedStmtOption, absent, present, TypedStmtList, no_more, one_more, TypedFunTree}

abbrev mutual
  -- how many statements a statement is, itself included
  pub size_of : TypedStmtTree → ℕ
  size_of (skip p) = 1
  size_of (assign p target a) = 1
  size_of (call p kept g at args) = 1
  size_of (block p bs) = 1 + size_of_list bs
  size_of (if_ p c a o) = 1 + (size_of a + size_of_option o)
  size_of (while_ p c a) = 1 + size_of a
  size_of (do_ p a c) = 1 + size_of a
  size_of (for_ p i c u a) = 1 + (size_of_option i + (size_of_option u + size_of a))
  size_of (break_ p) = 1
  size_of (continue_ p) = 1
  size_of (return_ p a) = 1
  size_of (lock p g) = 1
  size_of (unlock p g) = 1
  size_of (print p a) = 1

  pub size_of_option : TypedStmtOption → ℕ
  size_of_option absent = 0
  size_of_option (present a) = size_of a

  pub size_of_list : TypedStmtList → ℕ
  size_of_list no_more = 0
  size_of_list (one_more a bs) = size_of a + size_of_list bs

-- an expression of the code that may be missing
abbrev pub optional_expr_tree : Option TypedExpr → Option TypedExprTree
optional_expr_tree None = None
optional_expr_tree (Some a) = Some (typed_expr_tree a)

-- the row with this number is so
abbrev pub At : List StmtRow → (number : ℕ) → (Place → StmtRowForm → Type 0) → Type 0
At rows n P = (r : StmtRow) × (slice_get rows n ≡ Some r) × P r.place r.form

abbrev mutual
  -- the row with this number, at this place and of this form, stands for the statement
  pub IsRow : List StmtRow → (number : ℕ) → TypedStmtTree → Place → StmtRowForm → Type 0
  IsRow rows n (skip p) q row.Skip = q ≡ p
  IsRow rows n (assign p target a) q (row.Assign target' a') =
      (q ≡ p) × (typed_target_tree target' ≡ target) × (typed_expr_tree a' ≡ a)
  IsRow rows n (call p kept g at args) q (row.Call kept' g' at' args') =
      (q ≡ p) × (kept' ≡ kept) × (g' ≡ g) × (at' ≡ at) × (map typed_expr_tree args' ≡ args)
  IsRow rows n (block p bs) q (row.Block ns) = (q ≡ p) × AreRows rows (n + 1) bs ns
  IsRow rows n (if_ p c a o) q (row.If c' i j) =
      (q ≡ p) × (typed_expr_tree c' ≡ c) × (i ≡ n + 1) × At rows i (IsRow rows i a) ×
      IsPartRow rows (n + 1 + size_of a) o j
  IsRow rows n (while_ p c a) q (row.While c' i) =
      (q ≡ p) × (typed_expr_tree c' ≡ c) × (i ≡ n + 1) × At rows i (IsRow rows i a)
  IsRow rows n (do_ p a c) q (row.Do i c') = (q ≡ p) × (i ≡ n + 1) × At rows i (IsRow rows i a) ×
      (typed_expr_tree c' ≡ c)
  IsRow rows n (for_ p i c u a) q (row.For h c' j k) =
      (q ≡ p) × IsPartRow rows (n + 1) i h × (optional_expr_tree c' ≡ c) ×
      IsPartRow rows (n + 1 + size_of_option i) u j ×
      (k ≡ n + 1 + size_of_option i + size_of_option u) × At rows k (IsRow rows k a)
  IsRow rows n (break_ p) q row.Break = q ≡ p
  IsRow rows n (continue_ p) q row.Continue = q ≡ p
  IsRow rows n (return_ p a) q (row.Return a') = (q ≡ p) × (optional_expr_tree a' ≡ a)
  IsRow rows n (lock p g) q (row.Lock g') = (q ≡ p) × (g' ≡ g)
  IsRow rows n (unlock p g) q (row.Unlock g') = (q ≡ p) × (g' ≡ g)
  IsRow rows n (print p a) q (row.Print a') = (q ≡ p) × (typed_expr_tree a' ≡ a)
  IsRow rows n _ q _ = ⊥

  -- a part that may be missing is the row with this number
  pub IsPartRow : List StmtRow → (number : ℕ) → TypedStmtOption → Option ℕ → Type 0
  IsPartRow rows n absent None = ⊤
  IsPartRow rows n (present a) (Some i) = (i ≡ n) × At rows i (IsRow rows i a)
  IsPartRow rows n _ _ = ⊥

  -- the rows with these numbers, from this one on, stand for statements one after another
  pub AreRows : List StmtRow → (number : ℕ) → TypedStmtList → List ℕ → Type 0
  AreRows rows n no_more [] = ⊤
  AreRows rows n (one_more a bs) (i ∷ is) = (i ≡ n) × At rows i (IsRow rows i a) × AreRows rows (n + size_of a) bs is
  AreRows rows n _ _ = ⊥

-- a function of the code has this item, these locals, and rows that stand for this body
pub record IsFunctionOf (r : TypedFunTree) (f : TypedFun) : Type 0 where
  pub item : f.item ≡ r.item
  pub locals : f.locals ≡ r.locals
  pub rows : AreRows f.rows 0 r.body f.body
  pub size : length f.rows ≡ size_of_list r.body

-- the numbers of a row's parts
abbrev pub one_part : Option ℕ → List ℕ → List ℕ
one_part None rest = rest
one_part (Some i) rest = i ∷ rest

abbrev pub parts_of : StmtRowForm → List ℕ
parts_of (row.Block ns) = ns
parts_of (row.If c i j) = i ∷ one_part j []
parts_of (row.While c i) = i ∷ []
parts_of (row.Do i c) = i ∷ []
parts_of (row.For h c j k) = one_part h (one_part j (k ∷ []))
parts_of _ = []
