-- Lists of trees in memory, beside those of definitions.
use Rattle.std.proofs.Common.{◌≡◌, List, [], ◌∷◌, ◌++◌, map, refl, ap}
use Rattle.cas_syntax.specs.declared.tree.Expr.{Expr}
use Rattle.cas_syntax.specs.Tree.{expr_tree}

pub exprs_push : (xs : List Expr) (x : Expr) → map expr_tree (xs ++ x ∷ []) ≡ map expr_tree xs ++ expr_tree x ∷ []
exprs_push [] x = refl
exprs_push (y ∷ ys) x = ap (λ (rest : List _). expr_tree y ∷ rest) (exprs_push ys x)
