-- How operators are written, and how tightly they bind.
use Rattle.std.specs.Prelude.{ℕ, Option, Some, None}
use Rattle.cas_lex.specs.declared.token.Sign.{Sign}
use Rattle.cas_lex.specs.declared.token.Sign.TheVariants as sg
use Rattle.cas_syntax.specs.declared.tree.UnaryOperator.{UnaryOperator}
use Rattle.cas_syntax.specs.declared.tree.UnaryOperator.TheVariants as u
use Rattle.cas_syntax.specs.declared.tree.BinaryOperator.{BinaryOperator}
use Rattle.cas_syntax.specs.declared.tree.BinaryOperator.TheVariants.{Add, Sub, Mul, Div, Mod, Shl, Shr, BitAnd, BitOr, BitXor, Eq, Ne, Lt, Le, Gt, Ge}
use Rattle.cas_syntax.specs.Tree.{ExprTree, binary, and_also, or_else}

-- an operator between two operands
pub data Infix : Type 0 where
  always_both : BinaryOperator → Infix
  logical_and : Infix
  logical_or : Infix

-- the expression of two operands
abbrev pub joined : Infix → ExprTree → ExprTree → ExprTree
joined (always_both op) a b = binary op a b
joined logical_and a b = and_also a b
joined logical_or a b = or_else a b

-- how tightly an operator binds: from 2, for `||`, to 11; at 1 stands `? :`, and at 12 an operand
abbrev pub level : Infix → ℕ
level logical_or = 2
level logical_and = 3
level (always_both BitOr) = 4
level (always_both BitXor) = 5
level (always_both BitAnd) = 6
level (always_both Eq) = 7
level (always_both Ne) = 7
level (always_both Lt) = 8
level (always_both Le) = 8
level (always_both Gt) = 8
level (always_both Ge) = 8
level (always_both Shl) = 9
level (always_both Shr) = 9
level (always_both Add) = 10
level (always_both Sub) = 10
level (always_both Mul) = 11
level (always_both Div) = 11
level (always_both Mod) = 11

abbrev pub infix_sign : Infix → Sign
infix_sign logical_or = sg.OrOr
infix_sign logical_and = sg.AndAnd
infix_sign (always_both BitOr) = sg.Or
infix_sign (always_both BitXor) = sg.Caret
infix_sign (always_both BitAnd) = sg.And
infix_sign (always_both Eq) = sg.EqualEqual
infix_sign (always_both Ne) = sg.NotEqual
infix_sign (always_both Lt) = sg.Less
infix_sign (always_both Le) = sg.LessEqual
infix_sign (always_both Gt) = sg.Greater
infix_sign (always_both Ge) = sg.GreaterEqual
infix_sign (always_both Shl) = sg.ShiftLeft
infix_sign (always_both Shr) = sg.ShiftRight
infix_sign (always_both Add) = sg.Plus
infix_sign (always_both Sub) = sg.Minus
infix_sign (always_both Mul) = sg.Star
infix_sign (always_both Div) = sg.Slash
infix_sign (always_both Mod) = sg.Percent

abbrev pub unary_sign : UnaryOperator → Sign
unary_sign u.Neg = sg.Minus
unary_sign u.Plus = sg.Plus
unary_sign u.BitNot = sg.Tilde
unary_sign u.Not = sg.Not

-- the sign of an assignment with an operator, as `+=`; comparisons have none
abbrev pub assigning_sign : BinaryOperator → Option Sign
assigning_sign Add = Some sg.PlusEqual
assigning_sign Sub = Some sg.MinusEqual
assigning_sign Mul = Some sg.StarEqual
assigning_sign Div = Some sg.SlashEqual
assigning_sign Mod = Some sg.PercentEqual
assigning_sign Shl = Some sg.ShiftLeftEqual
assigning_sign Shr = Some sg.ShiftRightEqual
assigning_sign BitAnd = Some sg.AndEqual
assigning_sign BitOr = Some sg.OrEqual
assigning_sign BitXor = Some sg.CaretEqual
assigning_sign _ = None
