-- Statements of a vector, beside those that definitions speak of.
use Rattle.std.proofs.Common.{◌≡◌, List, [], ◌∷◌, ◌++◌, refl, ap, ◌∙◌}
use Rattle.std.specs.Prelude.{Vec}
use Rattle.std.specs.declared.alloc.Global.{Global}
use mathlib.Core.Former.{Count}
use Rattle.cas_mid.specs.declared.tree.Stmt.{Stmt, Seq, Seq', Row_of-Stmt, end_of-Stmt, more_of-Stmt, items-the_row-Stmt, items_hidden-the_row-Stmt-0}
use Rattle.cas_mid.specs.Trees.{seq, Statements, no_more, one_more}
use Rattle.cas_mid.specs.Code.{statement_of, statements_of, list_of}

module _ {E M C E' M' C' : Type 0} (e : E' → E) (m : M' → M) (c : C' → C) where
  row_items : (n : Count) (row : Row_of-Stmt E' M' C' n) →
      statements_of e m c row ≡ list_of e m c (items-the_row-Stmt E' M' C' n row) no_more
  row_items _ end_of-Stmt = refl
  row_items _ (more_of-Stmt {n = n} a rest) = ap (one_more (statement_of e m c a)) (row_items n rest)

  abbrev row_of : Stmt E' M' C' → (n : Count) × Row_of-Stmt E' M' C' n
  row_of (Seq' shape all) = (_, all)
  row_of _ = (_, end_of-Stmt)

  -- the statements of a vector
  pub seq_of : (all : Vec (Stmt E' M' C') Global) → statement_of e m c (Seq all) ≡ seq (list_of e m c all.items no_more)
  seq_of all = let row = row_of (Seq all) in let same =
      items_hidden-the_row-Stmt-0 E' M' C' all in ap seq
      (row_items row.0 row.1 ∙ ap (λ xs. list_of e m c xs no_more) same)

  -- one list after another
  pub list_append : (xs ys : List (Stmt E' M' C')) (rest : Statements E M C) →
      list_of e m c (xs ++ ys) rest ≡ list_of e m c xs (list_of e m c ys rest)
  list_append [] ys rest = refl
  list_append (x ∷ xs) ys rest = ap (one_more (statement_of e m c x)) (list_append xs ys rest)
