-- Operands of a vector, beside those that definitions speak of.
use Rattle.std.proofs.Common.{◌≡◌, List, [], ◌∷◌, refl, ap, ◌∙◌}
use Rattle.std.specs.Prelude.{Vec}
use Rattle.std.specs.declared.alloc.Global.{Global}
use mathlib.Core.Former.{Count}
use Rattle.cas_sel.specs.declared.tree.Op.{Op}
use Rattle.cas_sel.specs.declared.tree.Mode.{Mode}
use Rattle.cas_sel.specs.declared.tree.Cond.{Cond}
use Rattle.cas_sel.specs.declared.tree.SelExpr.{SelExpr, Operation, Load, Operation', Load', Row_of-SelExpr, end_of-SelExpr, more_of-SelExpr, items-the_row-SelExpr, items_hidden-the_row-SelExpr-0}
use Rattle.cas_sel.specs.declared.tree.SelTest as tests
use Rattle.cas_sel.specs.Trees.{operation, load, one_more, holds}
use Rattle.cas_sel.specs.Code.{expression_of, operands_of, test_of, list_of}

row_items : (n : Count) (row : Row_of-SelExpr n) → operands_of row ≡ list_of (items-the_row-SelExpr n row)
row_items _ end_of-SelExpr = refl
row_items _ (more_of-SelExpr {n = n} a rest) = ap (one_more (expression_of a)) (row_items n rest)

abbrev row_of : SelExpr → (n : Count) × Row_of-SelExpr n
row_of (Operation' o shape all) = (_, all)
row_of (Load' m shape all) = (_, all)
row_of _ = (_, end_of-SelExpr)

abbrev row_of_test : tests.SelTest → (n : Count) × Row_of-SelExpr n
row_of_test (tests.Holds' c shape all) = (_, all)
row_of_test _ = (_, end_of-SelExpr)

pub operation_of : (o : Op) (all : Vec SelExpr Global) →
    expression_of (Operation o all) ≡ operation o (list_of all.items)
operation_of o all =
    let row = row_of (Operation o all) in
    let same = items_hidden-the_row-SelExpr-0 all in
    ap (operation o) (row_items row.0 row.1 ∙ ap list_of same)

pub load_of : (m : Mode) (all : Vec SelExpr Global) → expression_of (Load m all) ≡ load m (list_of all.items)
load_of m all =
    let row = row_of (Load m all) in
    let same = items_hidden-the_row-SelExpr-0 all in
    ap (load m) (row_items row.0 row.1 ∙ ap list_of same)

pub holds_of : (c : Cond) (all : Vec SelExpr Global) → test_of (tests.Holds c all) ≡ holds c (list_of all.items)
holds_of c all =
    let row = row_of_test (tests.Holds c all) in
    let same = items_hidden-the_row-SelExpr-0 all in
    ap (holds c) (row_items row.0 row.1 ∙ ap list_of same)
