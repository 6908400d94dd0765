-- A node of RTL pays for its node of LTL and for a move.
use Rattle.std.proofs.Common.{◌+◌, ◌≤◌, arith}
use Rattle.cas_syntax.specs.declared.tree.BinaryOperator.{BinaryOperator}
use Rattle.cas_syntax.specs.declared.tree.BinaryOperator.TheVariants as bin
use Rattle.cas_mid.specs.declared.tree.Binop.{Binop}
use Rattle.cas_mid.specs.declared.tree.Binop.TheVariants.{OnWords, PointerPlus, PlusPointer, PointerMinus, PointerDifference, Compare}
use Rattle.cas_sel.specs.declared.tree.Op.{Op}
use Rattle.cas_sel.specs.declared.tree.Op.TheVariants as op
use Rattle.cas_rtl.specs.Rtl as rtl
use Rattle.cas_ltl.specs.Ltl as ltl

word_pays : (o : BinaryOperator) → ltl.word_operator_price o + 5 ≤ rtl.word_operator_price o
word_pays bin.Add = omega arith
word_pays bin.Sub = omega arith
word_pays bin.Mul = omega arith
word_pays bin.Div = omega arith
word_pays bin.Mod = omega arith
word_pays bin.Shl = omega arith
word_pays bin.Shr = omega arith
word_pays bin.BitAnd = omega arith
word_pays bin.BitOr = omega arith
word_pays bin.BitXor = omega arith
word_pays bin.Eq = omega arith
word_pays bin.Ne = omega arith
word_pays bin.Lt = omega arith
word_pays bin.Le = omega arith
word_pays bin.Gt = omega arith
word_pays bin.Ge = omega arith

binop_pays : (o : Binop) → ltl.operator_price o + 5 ≤ rtl.operator_price o
binop_pays (OnWords o s) = word_pays o
binop_pays (PointerPlus s) = omega arith
binop_pays (PlusPointer s) = omega arith
binop_pays (PointerMinus s) = omega arith
binop_pays PointerDifference = omega arith
binop_pays (Compare o) = omega arith

pub op_pays : (o : Op) → ltl.op_price o + 5 ≤ rtl.op_price o
op_pays (op.Constant n) = omega arith
op_pays (op.StackAddress offset) = omega arith
op_pays op.Move = omega arith
op_pays (op.Unary o) = omega arith
op_pays (op.Binary o) = binop_pays o
op_pays (op.WithNumber o n) = binop_pays o

-- and for a Nop in its place
word_drops : (o : BinaryOperator) → 8 ≤ rtl.word_operator_price o
word_drops bin.Add = omega arith
word_drops bin.Sub = omega arith
word_drops bin.Mul = omega arith
word_drops bin.Div = omega arith
word_drops bin.Mod = omega arith
word_drops bin.Shl = omega arith
word_drops bin.Shr = omega arith
word_drops bin.BitAnd = omega arith
word_drops bin.BitOr = omega arith
word_drops bin.BitXor = omega arith
word_drops bin.Eq = omega arith
word_drops bin.Ne = omega arith
word_drops bin.Lt = omega arith
word_drops bin.Le = omega arith
word_drops bin.Gt = omega arith
word_drops bin.Ge = omega arith

binop_drops : (o : Binop) → 8 ≤ rtl.operator_price o
binop_drops (OnWords o s) = word_drops o
binop_drops (PointerPlus s) = omega arith
binop_drops (PlusPointer s) = omega arith
binop_drops (PointerMinus s) = omega arith
binop_drops PointerDifference = omega arith
binop_drops (Compare o) = omega arith

pub op_drops : (o : Op) → 8 ≤ rtl.op_price o
op_drops (op.Constant n) = omega arith
op_drops (op.StackAddress offset) = omega arith
op_drops op.Move = omega arith
op_drops (op.Unary o) = omega arith
op_drops (op.Binary o) = binop_drops o
op_drops (op.WithNumber o n) = binop_drops o
