-- Trees in memory, beside those of definitions.
use Rattle.std.proofs.Common.{◌≡◌, List, [], ◌∷◌, ◌++◌, refl, ap, ◌∙◌}
use Rattle.cas_syntax.specs.declared.tree.Expr.{Expr}
use Rattle.std.specs.Prelude.{Vec, Box, Option, Some, None}
use Rattle.std.specs.declared.alloc.Global.{Global}
use mathlib.Core.Former.{Count}
use Rattle.cas_base.specs.declared.place.Place.{Place}
use Rattle.cas_syntax.specs.declared.tree.Stmt.{Stmt}
use Rattle.cas_syntax.specs.declared.tree.StmtForm.{StmtForm, Block, For, If, Block', Row_of-Stmt, end_of-Stmt, more_of-Stmt, items-the_row-Stmt, items_hidden-the_row-Stmt-0}
use Rattle.cas_read_stmt.specs.FollowStmts.{boxed_tree}
use Rattle.cas_parse.specs.Machine.{snoc}
use Rattle.cas_syntax.specs.Tree.{expr_tree, stmt_tree, stmt_trees, one_more, block, for_, if_, form_tree, row_trees, optional_tree}

pub stmts_push : (xs : List Stmt) (x : Stmt) → stmt_trees (xs ++ x ∷ []) ≡ snoc (stmt_trees xs) (stmt_tree x)
stmts_push [] x = refl
stmts_push (y ∷ ys) x = ap (one_more (stmt_tree y)) (stmts_push ys x)

row_items : (m : Count) (row : Row_of-Stmt m) → row_trees row ≡ stmt_trees (items-the_row-Stmt m row)
row_items _ end_of-Stmt = refl
row_items _ (more_of-Stmt {n = n} p f rest) = ap (one_more (stmt_tree (record { place = p; form = f })))
    (row_items n rest)

abbrev row_of : StmtForm → (m : Count) × Row_of-Stmt m
row_of (Block' shape all) = (_, all)
row_of _ = (_, end_of-Stmt)

-- a block of the statements in a vector
pub block_of : (at : Place) (all : Vec Stmt Global) → form_tree at (Block all) ≡ block at (stmt_trees all.items)
block_of at all = let row = row_of (Block all) in let same =
    items_hidden-the_row-Stmt-0 all in ap (block at) (row_items row.0 row.1 ∙ ap stmt_trees same)

-- an `if` of its parts
pub if_parts : (at : Place) (c : Expr) (a : Box Stmt Global) (o : Option (Box Stmt Global)) →
    form_tree at (If c a o) ≡ if_ at (expr_tree c) (stmt_tree a.value) (boxed_tree o)
if_parts at c a None = refl
if_parts at c a (Some b) = refl

-- a `for` of its parts
pub for_parts : (at : Place) (i : Option (Box Stmt Global)) (c : Option Expr) (u : Option (Box Stmt Global))
    (b : Box Stmt Global)
    → form_tree at (For i c u b) ≡ for_ at (boxed_tree i) (optional_tree c) (boxed_tree u) (stmt_tree b.value)
for_parts at None c None b = refl
for_parts at None c (Some u) b = refl
for_parts at (Some i) c None b = refl
for_parts at (Some i) c (Some u) b = refl
