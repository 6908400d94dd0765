-- Statements as the code holds them, beside those that definitions speak of.
use Rattle.std.proofs.Common.{◌≡◌, ℕ, ◌<◌, ◌+◌, Bool, true, false, cond, List, ◌∷◌, length, drop, get_or, Some, None, Ok, Err, refl, ap, sym, ◌∙◌}
use Rattle.std.proofs.lemmas.List.{drop_more}
use Rattle.std.specs.Prelude.{Vec, nat_lt}
use Rattle.std.specs.declared.alloc.Global.{Global}
use mathlib.Core.Former.{Count}
use Rattle.cas_base.specs.Ty.{words_of_ty}
use Rattle.cas_base.specs.declared.kind.Ty.{Ty}
use Rattle.cas_base.specs.declared.place.Place.{Place}
use Rattle.cas_syntax.specs.declared.tree.Ident.{Ident}
use Rattle.cas_syntax.specs.declared.tree.Stmt.{Stmt}
use Rattle.cas_syntax.specs.declared.tree.StmtForm.{StmtForm, Block, Block', Row_of-Stmt, end_of-Stmt, more_of-Stmt, items-the_row-Stmt, items_hidden-the_row-Stmt-0}
use Rattle.cas_syntax.specs.Tree.{InitTree, nothing, one_more, block, form_tree, row_trees, stmt_tree, stmt_trees}
use Rattle.cas_typed.specs.declared.fault.TypeCode.TheVariants.{T2}
use Rattle.cas_typed.specs.Faults.{unless, at_name}
use Rattle.cas_typed.specs.Resolved.{skip}
use Rattle.cas_typed.specs.Scopes.{Scope, is_in_block}
use Rattle.cas_typed.specs.Walk.{walk_declare, misfit}

row_trees-items : (m : Count) (row : Row_of-Stmt m) → row_trees row ≡ stmt_trees (items-the_row-Stmt m row)
row_trees-items _ end_of-Stmt = refl
row_trees-items _ (more_of-Stmt {n = n} p f rest) = ap (one_more (stmt_tree (record { place = p; form = f })))
    (row_trees-items n rest)

abbrev row_of : StmtForm → (m : Count) × Row_of-Stmt m
row_of (Block' shape all) = (_, all)
row_of _ = (_, end_of-Stmt)

form_tree-block : (at : Place) (all : Vec Stmt Global) → form_tree at (Block all) ≡ block at (stmt_trees all.items)
form_tree-block at all =
    let row = row_of (Block all) in
    let same = items_hidden-the_row-Stmt-0 all in
    ap (block at) (row_trees-items row.0 row.1 ∙ ap stmt_trees same)

-- a block of these statements
pub block_tree : (s : Stmt) (all : Vec Stmt Global) (items : List Stmt) → s.form ≡ Block all → items ≡ all.items →
    block s.place (stmt_trees items) ≡ stmt_tree s
block_tree s all items is same =
    let whole : stmt_tree s ≡ block s.place (stmt_trees items) =
    ap (form_tree s.place) is ∙ form_tree-block s.place all
    ∙ ap (λ (xs : List Stmt). block s.place (stmt_trees xs)) (sym same) in
    sym whole

-- the statements from one on are this one and those behind it
pub next_statement : (ss : List Stmt) (k : ℕ) (a : Stmt) → k < length ss → a ≡ get_or ss k a →
    stmt_trees (drop k ss) ≡ one_more (stmt_tree a) (stmt_trees (drop (k + 1) ss))
next_statement ss k a h is =
    let from : stmt_trees (drop k ss) ≡ one_more (stmt_tree (get_or ss k a)) (stmt_trees (drop (k + 1) ss)) =
    ap stmt_trees (drop_more ss k a h) in
    from ∙ ap (λ (b : Stmt). one_more (stmt_tree b) (stmt_trees (drop (k + 1) ss))) (sym is)

-- a local without a value
pub declared_alone : (s : Scope) (p : Place) (ty : Ty) (x : Ident) (a : InitTree) → a ≡ nothing →
    is_in_block s x ≡ false → nat_lt 0 (words_of_ty ty) ≡ true
    → walk_declare s p ty x a ≡ Ok (skip p)
declared_alone s p ty x a none fresh some =
    ap (walk_declare s p ty x) none
    ∙ ap (λ b. unless (cond b (at_name T2 x) None) (cond (nat_lt 0 (words_of_ty ty)) (Ok (skip p)) (Err (misfit p))))
    fresh
    ∙ ap (λ b. cond b (Ok (skip p)) (Err (misfit p))) some
