-- Types of expressions: promotion, the common type, null, and the rows of operators.
use Rattle.std.specs.Prelude.{◌==◌, Bool, false, Option, Some, None}
use Rattle.cas_base.specs.declared.decl.Form.{Form}
use Rattle.cas_base.specs.declared.decl.Form.TheVariants.{Shared, Table}
use Rattle.cas_base.specs.declared.kind.Kind.{Kind}
use Rattle.cas_base.specs.declared.kind.Kind.TheVariants.{I32, U32}
use Rattle.cas_base.specs.declared.kind.Ty.{Ty}
use Rattle.cas_base.specs.declared.kind.Ty.TheVariants.{Int, Ptr}
use Rattle.cas_syntax.specs.declared.tree.UnaryOperator.{UnaryOperator}
use Rattle.cas_syntax.specs.declared.tree.UnaryOperator.TheVariants as un
use Rattle.cas_syntax.specs.declared.tree.BinaryOperator.{BinaryOperator}
use Rattle.cas_syntax.specs.declared.tree.BinaryOperator.TheVariants as bin
use Rattle.cas_syntax.specs.Tree.{ExprTree, literal}
use Rattle.cas_typed.specs.declared.tree.Signedness.{Signedness}
use Rattle.cas_typed.specs.declared.tree.Signedness.TheVariants.{Signed, Unsigned}
use Rattle.cas_typed.specs.Resolved as t
use Rattle.cas_typed.specs.Resolved.{TypedExprTree}

-- I8, U8, I16 and U16 are promoted to I32
abbrev pub promoted : Kind → Kind
promoted U32 = U32
promoted _ = I32

-- the common type of two integers is U32 if one of them is U32 after promotion, else I32
abbrev pub common : Kind → Kind → Kind
common U32 k = U32
common j U32 = U32
common _ _ = I32

-- how a word of the kind is read after promotion
abbrev pub reading : Kind → Signedness
reading U32 = Unsigned
reading _ = Signed

-- the literal 0, which also stands for the null pointer
pub data IsNull : ExprTree → Type 0 where
  zero_literal : IsNull (literal 0 I32)

abbrev pub is_null : ExprTree → Bool
is_null (literal n I32) = n == 0
is_null _ = false

-- what a function of this type returns if no value is given: the literal 0, null, or nothing
abbrev pub no_value : Ty → Option TypedExprTree
no_value (Int k) = Some (t.narrow k (t.literal 0))
no_value (Ptr k) = Some t.null
no_value _ = None

-- the type of a global variable
abbrev pub variable_type : Form → Option Ty
variable_type (Shared ty lock) = Some ty
variable_type (Table ty) = Some ty
variable_type _ = None

-- - + ~
pub data IsSign : UnaryOperator → Type 0 where
  negation : IsSign un.Neg
  plus : IsSign un.Plus
  complement : IsSign un.BitNot

-- + - * / % & ^ |
pub data IsArithmetic : BinaryOperator → Type 0 where
  sum : IsArithmetic bin.Add
  difference : IsArithmetic bin.Sub
  product : IsArithmetic bin.Mul
  quotient : IsArithmetic bin.Div
  remainder : IsArithmetic bin.Mod
  conjunction : IsArithmetic bin.BitAnd
  exclusion : IsArithmetic bin.BitXor
  disjunction : IsArithmetic bin.BitOr

-- << >>
pub data IsShift : BinaryOperator → Type 0 where
  left_shift : IsShift bin.Shl
  right_shift : IsShift bin.Shr

-- == !=
pub data IsEquality : BinaryOperator → Type 0 where
  equal : IsEquality bin.Eq
  unequal : IsEquality bin.Ne

-- < <= > >=
pub data IsOrder : BinaryOperator → Type 0 where
  less : IsOrder bin.Lt
  less_or_equal : IsOrder bin.Le
  greater : IsOrder bin.Gt
  greater_or_equal : IsOrder bin.Ge
