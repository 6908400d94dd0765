-- Levels of operators, and parentheses.
use Rattle.std.proofs.Common.{◌≡◌, ℕ, ◌≤◌, List, Bool, true, false, nat_lt, refl, sym, arith, subst}
use Rattle.std.proofs.lemmas.Bool.Decides.{nat_tests}
use Rattle.cas_syntax.specs.declared.tree.BinaryOperator.TheVariants.{Add}
use Rattle.cas_syntax.specs.Tree.{ExprTree, binary}
use Rattle.cas_syntax.specs.Operators.{Infix, always_both, logical_and, logical_or, joined, level}
use Rattle.cas_print.specs.Pieces.{Piece}
use Rattle.cas_print.specs.Expressions.{enclosed, at_level, outermost, between, printed_expr}

pub level-low : (op : Infix) → 2 ≤ level op
level-low (always_both Add) = omega arith
level-low _ = omega arith

pub level-high : (op : Infix) → level op ≤ 11
level-high (always_both Add) = omega arith
level-high _ = omega arith

pub outermost-low : (a : ExprTree) → 1 ≤ outermost a
outermost-low (binary Add a b) = omega arith
outermost-low _ = omega arith

-- the expression of two operands is printed as its operator asks
pub printed-joined : (P : ℕ → (List Piece → List Piece) → Type 0) (op : Infix) (a b : ExprTree) →
    P (level op) (between op (outermost a) (printed_expr a) (outermost b) (printed_expr b)) →
    P (outermost (joined op a b)) (printed_expr (joined op a b))
printed-joined P (always_both op) a b h = h
printed-joined P logical_and a b h = h
printed-joined P logical_or a b h = h

-- where the operator binds as tightly as its place asks no parentheses stand
pub at_level-open : (P : (List Piece → List Piece) → Type 0) (asked found : ℕ) (inner : List Piece → List Piece) →
    asked ≤ found → P inner → P (at_level asked found inner)
at_level-open P asked found inner h p =
    let no : nat_lt found asked ≡ false = grind (arith, nat_tests) in
    subst (λ (b : Bool). P (enclosed b inner)) (sym no) p

-- a fact of both
pub at_level-either : (P : (List Piece → List Piece) → Type 0) (asked found : ℕ) (inner : List Piece → List Piece) →
    P (enclosed true inner) → (asked ≤ found → P inner) → P (at_level asked found inner)
at_level-either P asked found inner closed open_ = by_test (nat_lt found asked) refl
  where
    by_test : (b : Bool) → nat_lt found asked ≡ b → P (enclosed b inner)
    by_test true e = closed
    by_test false e = open_ (grind (arith, nat_tests))
