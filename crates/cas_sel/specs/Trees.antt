-- The trees of CminorSel as plain data: what definitions and contracts speak of.
use Rattle.std.specs.Prelude.{ℕ, Bool, List, [], ◌∷◌}
use Rattle.cas_mid.specs.Trees as trees
use Rattle.cas_sel.specs.declared.tree.Op.{Op}
use Rattle.cas_sel.specs.declared.tree.Mode.{Mode}
use Rattle.cas_sel.specs.declared.tree.Cond.{Cond}

mutual
  -- an expression
  pub data Expr : Type 0 where
    temporary : ℕ → Expr
    operation : Op → Exprs → Expr
    load : Mode → Exprs → Expr
    if_ : Test → Expr → Expr → Expr

  -- operands, one after another
  pub data Exprs : Type 0 where
    no_more : Exprs
    one_more : Expr → Exprs → Exprs

  -- a condition
  pub data Test : Type 0 where
    holds : Cond → Exprs → Test
    always : Bool → Test
    if_test : Test → Test → Test → Test

-- what a store writes
pub record Address : Type 0 where
  pub mode : Mode
  pub operands : Exprs

abbrev pub Statement : Type 0
Statement = trees.Statement Expr Address Test

abbrev pub Statements : Type 0
Statements = trees.Statements Expr Address Test

abbrev pub Routine : Type 0
Routine = trees.Routine Expr Address Test

-- arguments as operands
abbrev pub listed : List Expr → Exprs
listed [] = no_more
listed (e ∷ es) = one_more e (listed es)
