-- The nodes of a block.
use Rattle.std.proofs.Common.{◌≡◌, ℕ, ◌+◌, ◌-◌, ◌^◌, min, List, refl, ap, sym, ◌∙◌, arith}
use Rattle.std.specs.Prelude.{Vec}
use Rattle.std.specs.declared.alloc.Global.{Global}
use mathlib.Core.Former.{Count}
use Rattle.cas_base.specs.declared.place.Place.{Place}
use Rattle.cas_syntax.specs.declared.tree.Stmt.{Stmt}
use Rattle.cas_syntax.specs.declared.tree.StmtForm.{StmtForm, Block, Block', Row_of-Stmt, end_of-Stmt, more_of-Stmt, items-the_row-Stmt, items_hidden-the_row-Stmt-0}
use Rattle.cas_syntax.specs.Tree.{one_more, block, form_tree, row_trees, stmt_tree, stmt_trees}
use Rattle.cas_type.specs.Parts.{capped}
use Rattle.cas_typed.specs.Counts.{nodes_of_stmt, nodes_of_stmts}

row_trees-items : (m : Count) (row : Row_of-Stmt m) → row_trees row ≡ stmt_trees (items-the_row-Stmt m row)
row_trees-items _ end_of-Stmt = refl
row_trees-items _ (more_of-Stmt {n = n} p f rest) = ap (one_more (stmt_tree (record { place = p; form = f })))
    (row_trees-items n rest)

abbrev row_of : StmtForm → (m : Count) × Row_of-Stmt m
row_of (Block' shape all) = (_, all)
row_of _ = (_, end_of-Stmt)

form_tree-block : (at : Place) (all : Vec Stmt Global) → form_tree at (Block all) ≡ block at (stmt_trees all.items)
form_tree-block at all =
    let row = row_of (Block all) in
    let same = items_hidden-the_row-Stmt-0 all in
    ap (block at) (row_trees-items row.0 row.1 ∙ ap stmt_trees same)

-- a block is a node beside those of its statements
pub block_nodes : (s : Stmt) (all : Vec Stmt Global) (items : List Stmt) → s.form ≡ Block all → items ≡ all.items →
    nodes_of_stmt (stmt_tree s) ≡ 1 + nodes_of_stmts (stmt_trees items)
block_nodes s all items is same =
    ap nodes_of_stmt (ap (form_tree s.place) is ∙ form_tree-block s.place all)
    ∙ ap (λ (xs : List Stmt). 1 + nodes_of_stmts (stmt_trees xs)) (sym same)

-- one more, and then so many more
pub counted_behind : (before here n count : ℕ) → here ≡ min (before + 1) (2 ^ 64 - 1) → count ≡ capped (here + n) →
    count ≡ capped (before + (1 + n))
counted_behind before here n count h k = omega (arith, h, k)
