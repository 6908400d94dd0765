-- Statements by their rows.
use Rattle.std.proofs.Common.{◌≡◌, ◌<◌, ℕ, ◌+◌, List, [], ◌∷◌, ◌++◌, Option, refl, ap, sym, ◌∙◌, length, drop, get_or, add-one, map}
use Rattle.std.specs.Prelude.{Vec}
use Rattle.std.specs.declared.alloc.Global.{Global}
use Rattle.std.proofs.Math.Seq.{drop-cons}
use Rattle.cas_base.specs.declared.decl.Decl.{Decl}
use Rattle.cas_base.specs.declared.place.Place.{Place}
use Rattle.cas_mid.specs.declared.tree.AddressOf.{AddressOf}
use Rattle.cas_mid.specs.declared.tree.Address.{Address}
use Rattle.cas_mid.specs.declared.tree.Expr.{Expr}
use Rattle.cas_mid.specs.declared.tree.Stmt.{Stmt, Seq}
use Rattle.cas_mid.specs.Code.{csharp_list, csharp_statement, expression_of, target_of}
use Rattle.cas_mid.specs.Trees.{seq, no_more, one_more, store, if_else, block, lock, unlock, print}
use Rattle.cas_mid.proofs.Lists.{seq_of, list_append}
use Rattle.cas_typed.specs.declared.rows.StmtRow.{StmtRow}
use Rattle.cas_typed.specs.declared.rows.StmtRowForm.TheVariants as row
use Rattle.cas_typed.specs.declared.tree.Destination.{Destination}
use Rattle.cas_typed.specs.declared.tree.TypedExpr.{TypedExpr}
use Rattle.cas_typed.specs.declared.tree.TypedTarget.{TypedTarget}
use Rattle.cas_typed.specs.Numbered.{size_of, size_of_option, At, IsRow, IsPartRow, AreRows, optional_expr_tree}
use Rattle.cas_typed.specs.Resolved as t
use Rattle.cas_typed.specs.Resolved.{typed_expr_tree, typed_target_tree, TypedStmtTree, TypedStmtOption, TypedStmtList}
use Rattle.cas_cshmgen.specs.Makes.{Csharps, name_at, made_expr, made_condition, made_target, made_call, made_return, made_stmt, made_part, made_stmts, while_loop, do_loop, for_loop, one}

abbrev Code : Type 0
Code = Stmt (Expr AddressOf) (Address AddressOf) (Expr AddressOf)

pub seq_is : (all : Vec Code Global) → csharp_statement (Seq all) ≡ seq (csharp_list all.items no_more)
seq_is all = seq_of (expression_of (λ a. a.0)) (target_of (λ a. a.0)) (expression_of (λ a. a.0)) all

pub list_after : (xs ys : List Code) (rest : Csharps) →
    csharp_list (xs ++ ys) rest ≡ csharp_list xs (csharp_list ys rest)
list_after xs ys rest = list_append (expression_of (λ a. a.0)) (target_of (λ a. a.0)) (expression_of (λ a. a.0))
    xs ys rest

-- what is made of a statement, by its row's form

module _ (ds : List Decl) (r : ℕ) (rows : List StmtRow) (n : ℕ) (q : Place) where
  pub row_skip : (a : TypedStmtTree) → IsRow rows n a q row.Skip → made_stmt ds r a ≡ made_stmt ds r (t.skip q)
  row_skip (t.skip p) h = refl
  row_skip _ h = absurd h

  pub row_assign : (target : TypedTarget) (value : TypedExpr) (a : TypedStmtTree) →
      IsRow rows n a q (row.Assign target value) → store (made_target ds (typed_target_tree target))
      (made_expr ds (typed_expr_tree value)) ≡ made_stmt ds r a
  row_assign target value (t.assign p to v) h = let e = h.1 in let f =
      h.2 in λ i. store (made_target ds (e i)) (made_expr ds (f i))
  row_assign target value _ h = absurd h

  pub row_call : (kept : Option Destination) (g : ℕ) (at : Place) (args : List TypedExpr) (a : TypedStmtTree) →
      IsRow rows n a q (row.Call kept g at args) → made_call ds r kept g (map typed_expr_tree args) ≡ made_stmt ds r a
  row_call kept g at args (t.call p k i l bs) h = let e = h.1 in let f = h.2 in let s =
      h.4 in λ j. made_call ds r (e j) (f j) (s j)
  row_call kept g at args _ h = absurd h

  pub row_block : (ns : List ℕ) (a : TypedStmtTree) → IsRow rows n a q (row.Block ns) → (bs : TypedStmtList)
      × AreRows rows (n + 1) bs ns × (seq (made_stmts ds r bs no_more) ≡ made_stmt ds r a)
  row_block ns (t.block p bs) h = (bs, h.1, refl)
  row_block ns _ h = absurd h

  pub row_if : (c : TypedExpr) (i : ℕ) (j : Option ℕ) (a : TypedStmtTree) → IsRow rows n a q (row.If c i j) →
      (b : TypedStmtTree) × (m : ℕ) × (o : TypedStmtOption) × At rows i (IsRow rows i b) × IsPartRow rows m o j
      × (if_else (made_condition ds (typed_expr_tree c)) (made_stmt ds r b) (made_part ds r o) ≡ made_stmt ds r a)
  row_if c i j (t.if_ p d b o) h = let e =
      h.1 in (
        b,
        n + 1 + size_of b,
        o,
        h.3,
        h.4,
        λ k. if_else (made_condition ds (e k)) (made_stmt ds r b)
            (made_part ds r o),
      )
  row_if c i j _ h = absurd h

  pub row_while : (c : TypedExpr) (i : ℕ) (a : TypedStmtTree) → IsRow rows n a q (row.While c i) → (b : TypedStmtTree)
      × At rows i (IsRow rows i b) × (block (while_loop ds (typed_expr_tree c) (made_stmt ds r b)) ≡ made_stmt ds r a)
  row_while c i (t.while_ p d b) h = let e = h.1 in (b, h.3, λ k. block (while_loop ds (e k) (made_stmt ds r b)))
  row_while c i _ h = absurd h

  pub row_do : (i : ℕ) (c : TypedExpr) (a : TypedStmtTree) → IsRow rows n a q (row.Do i c) → (b : TypedStmtTree)
      × At rows i (IsRow rows i b) × (block (do_loop ds (typed_expr_tree c) (made_stmt ds r b)) ≡ made_stmt ds r a)
  row_do i c (t.do_ p b d) h = let e = h.3 in (b, h.2, λ k. block (do_loop ds (e k) (made_stmt ds r b)))
  row_do i c _ h = absurd h

  pub row_for : (i : Option ℕ) (c : Option TypedExpr) (j : Option ℕ) (k : ℕ) (a : TypedStmtTree) →
      IsRow rows n a q (row.For i c j k) → (first : TypedStmtOption) × (u : TypedStmtOption) × (b : TypedStmtTree)
      × (l : ℕ) × (m : ℕ) × IsPartRow rows l first i × IsPartRow rows m u j × At rows k (IsRow rows k b)
      × (seq (one_more (made_part ds r first)
      (one (block (for_loop ds (optional_expr_tree c) (made_part ds r u) (made_stmt ds r b))))) ≡ made_stmt ds r a)
  row_for i c j k (t.for_ p first d u b) h = let e = h.2 in (
    first,
    u,
    b,
    n + 1,
    n + 1 + size_of_option first,
    h.1,
    h.3,
    h.5,
    λ x. seq
        (one_more (made_part ds r first) (one (block (for_loop ds (e x) (made_part ds r u) (made_stmt ds r b))))),
  )
  row_for i c j k _ h = absurd h

  pub row_break : (a : TypedStmtTree) → IsRow rows n a q row.Break → made_stmt ds r (t.break_ q) ≡ made_stmt ds r a
  row_break (t.break_ p) h = refl
  row_break _ h = absurd h

  pub row_continue : (a : TypedStmtTree) → IsRow rows n a q row.Continue →
      made_stmt ds r (t.continue_ q) ≡ made_stmt ds r a
  row_continue (t.continue_ p) h = refl
  row_continue _ h = absurd h

  pub row_return : (v : Option TypedExpr) (a : TypedStmtTree) → IsRow rows n a q (row.Return v) →
      made_return ds (optional_expr_tree v) ≡ made_stmt ds r a
  row_return v (t.return_ p w) h = let e = h.1 in λ i. made_return ds (e i)
  row_return v _ h = absurd h

  pub row_lock : (g : ℕ) (a : TypedStmtTree) → IsRow rows n a q (row.Lock g) → lock (name_at ds g) ≡ made_stmt ds r a
  row_lock g (t.lock p i) h = let e = h.1 in λ j. lock (name_at ds (e j))
  row_lock g _ h = absurd h

  pub row_unlock : (g : ℕ) (a : TypedStmtTree) → IsRow rows n a q (row.Unlock g) →
      unlock (name_at ds g) ≡ made_stmt ds r a
  row_unlock g (t.unlock p i) h = let e = h.1 in λ j. unlock (name_at ds (e j))
  row_unlock g _ h = absurd h

  pub row_print : (v : TypedExpr) (a : TypedStmtTree) → IsRow rows n a q (row.Print v) →
      print (made_expr ds (typed_expr_tree v)) ≡ made_stmt ds r a
  row_print v (t.print p w) h = let e = h.1 in λ i. print (made_expr ds (e i))
  row_print v _ h = absurd h

-- one statement more
front : (ds : List Decl) (r : ℕ) (rows : List StmtRow) (k n : ℕ) (ns : List ℕ) (rest : TypedStmtList) (made : Code) →
    AreRows rows k rest (n ∷ ns)
    → ((a : TypedStmtTree) → At rows n (IsRow rows n a) → csharp_statement made ≡ made_stmt ds r a)
    → (m : ℕ) × (left : TypedStmtList) × AreRows rows m left ns
    × ((after : Csharps) → made_stmts ds r rest after ≡ one_more (csharp_statement made)
    (made_stmts ds r left after))
front ds r rows k n ns t.no_more made are is = absurd are
front ds r rows k n ns (t.one_more a bs) made are is =
    (k + size_of a, bs, are.2, λ after. ap (λ s. one_more s (made_stmts ds r bs after)) (sym (is a are.1)))

pub one_further : (ds : List Decl) (r : ℕ) (rows : List StmtRow) (parts : List ℕ) (index k : ℕ) (rest : TypedStmtList)
    (before : List Code) (made : Code) (all : TypedStmtList) → index < length parts
    → AreRows rows k rest (drop index parts)
    → ((a : TypedStmtTree) → At rows (get_or parts index 0) (IsRow rows (get_or parts index 0) a) →
    csharp_statement made ≡ made_stmt ds r a)
    → ((after : Csharps) → csharp_list before (made_stmts ds r rest after) ≡ made_stmts ds r all after)
    → (m : ℕ) × (left : TypedStmtList) × AreRows rows m left (drop (index + 1) parts)
    × ((after : Csharps) → csharp_list (before ++ made ∷ []) (made_stmts ds r left after)
    ≡ made_stmts ds r all after)
one_further ds r rows parts index k rest before made all less are is so =
    let next = front ds r rows k (get_or parts index 0) (drop (index + 1) parts) rest made
    (rw (add-one, ← drop-cons parts index 0) are) is in (
      next.0,
      next.1,
      next.2,
      λ after. list_after before (made ∷ []) (made_stmts ds r next.1 after)
          ∙ ap (csharp_list before) (sym (next.3 after)) ∙ so after,
    )

-- none is left
pub all_made : (ds : List Decl) (r : ℕ) (rows : List StmtRow) (k : ℕ) (rest : TypedStmtList) (before : List Code)
    (all : TypedStmtList) → AreRows rows k rest [] →
    ((after : Csharps) → csharp_list before (made_stmts ds r rest after) ≡ made_stmts ds r all after) →
    (after : Csharps) → csharp_list before after ≡ made_stmts ds r all after
all_made ds r rows k t.no_more before all are so after = so after
all_made ds r rows k (t.one_more a bs) before all are so after = absurd are
