-- Trees as the code holds them, beside those that definitions speak of.
use Rattle.std.proofs.Common.{◌≡◌, ℕ, ◌<◌, ◌+◌, List, ◌∷◌, length, drop, get_or, refl, ap, sym, ◌∙◌}
use Rattle.std.specs.Prelude.{Box, Option, Some, None, Vec}
use Rattle.std.specs.declared.alloc.Global.{Global}
use Rattle.std.proofs.lemmas.List.{drop_more}
use mathlib.Core.Former.{Count}
use Rattle.cas_base.specs.declared.place.Place.{Place}
use Rattle.cas_syntax.specs.declared.tree.Stmt.{Stmt}
use Rattle.cas_syntax.specs.declared.tree.Expr.{Expr}
use Rattle.cas_syntax.specs.declared.tree.StmtForm.{StmtForm, Block, Block', For, Row_of-Stmt, end_of-Stmt, more_of-Stmt, items-the_row-Stmt, items_hidden-the_row-Stmt-0}
use Rattle.cas_lex.specs.declared.token.Sign.TheVariants as sg
use Rattle.cas_print.specs.Pieces.{Piece, end_of_line}
use Rattle.cas_print.specs.Statements.{boxed_tree, for_head, printed_stmt, printed_stmts}
use Rattle.cas_syntax.specs.Tree.{StmtTree, one_more, block, for_, form_tree, optional_tree, row_trees, stmt_tree, stmt_trees}

row_trees-items : (m : Count) (row : Row_of-Stmt m) → row_trees row ≡ stmt_trees (items-the_row-Stmt m row)
row_trees-items _ end_of-Stmt = refl
row_trees-items _ (more_of-Stmt {n = n} p f rest) = ap (one_more (stmt_tree (record { place = p; form = f })))
    (row_trees-items n rest)

abbrev row_of : StmtForm → (m : Count) × Row_of-Stmt m
row_of (Block' shape all) = (_, all)
row_of _ = (_, end_of-Stmt)

-- a block of the statements in a `Vec`
pub form_tree-block : (at : Place) (all : Vec Stmt Global) → form_tree at (Block all) ≡ block at (stmt_trees all.items)
form_tree-block at all =
    let row = row_of (Block all) in
    let same = items_hidden-the_row-Stmt-0 all in
    ap (block at) (row_trees-items row.0 row.1 ∙ ap stmt_trees same)

-- the statements from one on are this one and those behind it
pub stmt_trees-drop : (ss : List Stmt) (k : ℕ) (s : Stmt) → k < length ss →
    stmt_trees (drop k ss) ≡ one_more (stmt_tree (get_or ss k s)) (stmt_trees (drop (k + 1) ss))
stmt_trees-drop ss k s h = ap stmt_trees (drop_more ss k s h)

-- how a block is printed
pub printed-block : (s : Stmt) (all : Vec Stmt Global) (items : List Stmt) (rest : List Piece) → s.form ≡ Block all →
    items ≡ all.items →
    end_of_line sg.OpenBrace ∷ printed_stmts (stmt_trees items) (end_of_line sg.CloseBrace ∷ rest) ≡ printed_stmt
    (stmt_tree s) rest
printed-block s all items rest is same =
    sym (ap (λ (a : StmtTree). printed_stmt a rest)
    (ap (form_tree s.place) is ∙ form_tree-block s.place all
    ∙ ap (λ (xs : List Stmt). block s.place (stmt_trees xs)) (sym same)))

-- a `for` of its parts
form_tree-for : (at : Place) (i : Option (Box Stmt Global)) (c : Option Expr) (u : Option (Box Stmt Global))
    (b : Box Stmt Global) →
    form_tree at (For i c u b) ≡ for_ at (boxed_tree i) (optional_tree c) (boxed_tree u) (stmt_tree b.value)
form_tree-for at None c None b = refl
form_tree-for at None c (Some u) b = refl
form_tree-for at (Some i) c None b = refl
form_tree-for at (Some i) c (Some u) b = refl

-- how a `for` is printed
pub printed-for : (s : Stmt) (i : Option (Box Stmt Global)) (c : Option Expr) (u : Option (Box Stmt Global))
    (b : Box Stmt Global) (body : Stmt) (rest : List Piece) →
    s.form ≡ For i c u b → body ≡ b.value →
    for_head (boxed_tree i) (optional_tree c) (boxed_tree u) (printed_stmt (stmt_tree body) rest) ≡ printed_stmt
    (stmt_tree s) rest
printed-for s i c u b body rest is same =
    sym (ap (λ (a : StmtTree). printed_stmt a rest)
    (ap (form_tree s.place) is ∙ form_tree-for s.place i c u b
    ∙ ap (λ (x : Stmt). for_ s.place (boxed_tree i) (optional_tree c) (boxed_tree u) (stmt_tree x)) (sym same)))
