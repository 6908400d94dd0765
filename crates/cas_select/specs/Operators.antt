-- What Selection makes of an operator, by what its operands became. What is known is folded, and a known operand is an
-- immediate.
use Rattle.std.specs.Prelude.{ℕ, zero, suc, ◌+◌, ◌-◌, ◌^◌, pos, ◌+ℤ◌, nat_eq, Option, Some, None, if◌then◌else◌}
use Rattle.cas_syntax.specs.declared.tree.BinaryOperator.{BinaryOperator}
use Rattle.cas_syntax.specs.declared.tree.BinaryOperator.TheVariants as bin
use Rattle.cas_typed.specs.declared.tree.Signedness.{Signedness}
use Rattle.cas_typed.specs.declared.tree.Signedness.TheVariants.{Unsigned}
use Rattle.cas_step.specs.Operators.{number_of, place_below}
use Rattle.cas_mid.specs.declared.tree.Unop.{Unop}
use Rattle.cas_mid.specs.declared.tree.Binop.{Binop}
use Rattle.cas_mid.specs.declared.tree.Binop.TheVariants.{OnWords, PointerPlus, PlusPointer, PointerMinus, PointerDifference, Compare}
use Rattle.cas_mid.specs.Operators.{unary_word, binary_word}
use Rattle.cas_sel.specs.declared.tree.Op.{Op}
use Rattle.cas_sel.specs.declared.tree.Op.TheVariants as op
use Rattle.cas_sel.specs.Trees.{Expr, operation, Exprs, no_more, one_more}

abbrev pub one : Expr → Exprs
one a = one_more a no_more

abbrev pub two : Expr → Expr → Exprs
two a b = one_more a (one_more b no_more)

-- a word, and the address of a word of the block
abbrev pub constant : ℕ → Expr
constant n = operation (op.Constant n) no_more

abbrev pub stack_address : (offset : ℕ) → Expr
stack_address offset = operation (op.StackAddress offset) no_more

-- the word that an expression always is, and the offset of the word of the block whose address it always is
abbrev pub known : Expr → Option ℕ
known (operation (op.Constant n) no_more) = Some n
known _ = None

abbrev pub known_offset : Expr → Option ℕ
known_offset (operation (op.StackAddress offset) no_more) = Some offset
known_offset _ = None

-- the operator that gives the same on its operands in the other order, if there is one
abbrev pub exchanged : BinaryOperator → Option BinaryOperator
exchanged bin.Add = Some bin.Add
exchanged bin.Mul = Some bin.Mul
exchanged bin.BitAnd = Some bin.BitAnd
exchanged bin.BitOr = Some bin.BitOr
exchanged bin.BitXor = Some bin.BitXor
exchanged bin.Eq = Some bin.Eq
exchanged bin.Ne = Some bin.Ne
exchanged bin.Lt = Some bin.Gt
exchanged bin.Le = Some bin.Ge
exchanged bin.Gt = Some bin.Lt
exchanged bin.Ge = Some bin.Le
exchanged _ = None

-- the first of so many exponents, from this one on, to which 2 is the number
abbrev pub exponent_from : (from count number : ℕ) → Option ℕ
exponent_from k zero n = None
exponent_from k (suc count) n = if nat_eq n (2 ^ k) then Some k else exponent_from (k + 1) count n

-- the exponent of a word that is a power of 2
unfoldable pub exponent : (number : ℕ) → Option ℕ
exponent n = exponent_from 0 32 n

-- an operator on words whose second operand is this number, which may be a power of 2: a product is a shift then, and
-- of unsigned words a quotient is a shift and a remainder a mask
abbrev pub numbered : BinaryOperator → Signedness → (number : ℕ) → (exponent : Option ℕ) → Op
numbered bin.Mul s n (Some k) = op.WithNumber (OnWords bin.Shl s) k
numbered bin.Div Unsigned n (Some k) = op.WithNumber (OnWords bin.Shr Unsigned) k
numbered bin.Mod Unsigned n (Some k) = op.WithNumber (OnWords bin.BitAnd Unsigned) (n - 1)
numbered o s n k = op.WithNumber (OnWords o s) n

abbrev pub with_number : BinaryOperator → Signedness → Expr → (number : ℕ) → Expr
with_number o s a n = operation (numbered o s n (exponent n)) (one a)

-- an expression, or the word that it always is
abbrev pub folded : Expr → Option ℕ → Expr
folded a (Some n) = constant n
folded a None = a

-- an operator whose first operand is this number
abbrev pub number_first : BinaryOperator → Signedness → (a b : Expr) → (number : ℕ) → Option BinaryOperator → Expr
number_first o s a b n (Some other) = with_number other s b n
number_first o s a b n None = operation (op.Binary (OnWords o s)) (two a b)

-- an operator on words, by what is known of its operands
abbrev pub made_on_words : BinaryOperator → Signedness → (a b : Expr) → (known_a known_b : Option ℕ) → Expr
made_on_words o s a b (Some m) (Some n) = folded (with_number o s a n) (binary_word o s m n)
made_on_words o s a b None (Some n) = with_number o s a n
made_on_words o s a b (Some m) None = number_first o s a b m (exchanged o)
made_on_words o s a b None None = operation (op.Binary (OnWords o s)) (two a b)

-- another operator, by what is known of its second operand
abbrev pub made_with : Binop → (a b : Expr) → (known_b : Option ℕ) → Expr
made_with o a b (Some n) = operation (op.WithNumber o n) (one a)
made_with o a b None = operation (op.Binary o) (two a b)

-- an expression, or the address of the word of the block at this offset
abbrev pub at_offset : Expr → Option ℕ → Expr
at_offset a (Some offset) = stack_address offset
at_offset a None = a

-- a pointer moved by this number of words, by the offset that is known of it
abbrev pub moved_from : Signedness → Expr → (number : ℕ) → (offset : Option ℕ) → Expr
moved_from s a n (Some offset) =
    at_offset (operation (op.WithNumber (PointerPlus s) n) (one a)) (place_below (2 ^ 32) (pos offset +ℤ number_of s n))
moved_from s a n None = operation (op.WithNumber (PointerPlus s) n) (one a)

abbrev pub moved : Signedness → Expr → (number : ℕ) → Expr
moved s a n = moved_from s a n (known_offset a)

abbrev pub made_plus : Signedness → (a b : Expr) → (known_b : Option ℕ) → Expr
made_plus s a b (Some n) = moved s a n
made_plus s a b None = operation (op.Binary (PointerPlus s)) (two a b)

abbrev pub made_plus_pointer : Signedness → (a b : Expr) → (known_a : Option ℕ) → Expr
made_plus_pointer s a b (Some n) = moved s b n
made_plus_pointer s a b None = operation (op.Binary (PlusPointer s)) (two a b)

-- an operator on two values
abbrev pub made_binop : Binop → (a b : Expr) → Expr
made_binop (OnWords o s) a b = made_on_words o s a b (known a) (known b)
made_binop (PointerPlus s) a b = made_plus s a b (known b)
made_binop (PlusPointer s) a b = made_plus_pointer s a b (known a)
made_binop (PointerMinus s) a b = made_with (PointerMinus s) a b (known b)
made_binop PointerDifference a b = operation (op.Binary PointerDifference) (two a b)
made_binop (Compare o) a b = made_with (Compare o) a b (known b)

-- an operator on one word
abbrev pub made_unop_by : Unop → Expr → Option ℕ → Expr
made_unop_by o a (Some n) = constant (unary_word o n)
made_unop_by o a None = operation (op.Unary o) (one a)

abbrev pub made_unop : Unop → Expr → Expr
made_unop o a = made_unop_by o a (known a)
