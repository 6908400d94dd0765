-- Operators on words, and the numbers that they read words as.
use Rattle.std.specs.Prelude.{ℕ, ◌-◌, ◌^◌, ℤ, pos, negsuc, int_lt, int_le, nat_lt, ◌==◌, Bool, true, false, not, Option, Some, None, if◌then◌else◌, bit_and, bit_or, bit_xor}
use Rattle.cas_base.specs.Word.{signed, word_add, word_sub, word_mul, word_shl, word_shr, word_sar, word_div_signed, word_rem_signed, word_div_unsigned, word_rem_unsigned}
use Rattle.cas_base.specs.declared.act.Why.TheVariants.{DivZero, DivRange, Index}
use Rattle.cas_syntax.specs.declared.tree.UnaryOperator.{UnaryOperator}
use Rattle.cas_syntax.specs.declared.tree.UnaryOperator.TheVariants as un
use Rattle.cas_syntax.specs.declared.tree.BinaryOperator.{BinaryOperator}
use Rattle.cas_syntax.specs.declared.tree.BinaryOperator.TheVariants as bin
use Rattle.cas_typed.specs.declared.tree.Signedness.{Signedness}
use Rattle.cas_typed.specs.declared.tree.Signedness.TheVariants.{Signed, Unsigned}
use Rattle.cas_step.specs.Asks.{Asks, gives, fails}

-- the number that a word is read as
abbrev pub number_of : Signedness → ℕ → ℤ
number_of Signed n = signed n
number_of Unsigned n = pos n

-- 1 for true, 0 for false
abbrev pub truth : Bool → ℕ
truth true = 1
truth false = 0

-- whether a word is true as a condition
abbrev pub is_true : ℕ → Bool
is_true n = not (n == 0)

-- the place with this number, if it is from 0 to below the limit
abbrev pub place_below : (limit : ℕ) → ℤ → Option ℕ
place_below limit (pos n) = if nat_lt n limit then Some n else None
place_below limit (negsuc n) = None

-- the evaluation at a place, if there is one; else the index is out of range
abbrev pub or_index : {O A : Type 0} → Option ℕ → (ℕ → Asks O A) → Asks O A
or_index (Some n) next = next n
or_index None next = fails Index

-- a quotient or remainder by this divisor, if it is defined
abbrev pub or_undefined : {O : Type 0} → (divisor : ℕ) → Option ℕ → Asks O ℕ
or_undefined b (Some n) = gives n
or_undefined b None = fails (if b == 0 then DivZero else DivRange)

abbrev pub quotient : Signedness → ℕ → ℕ → Option ℕ
quotient Signed a b = word_div_signed a b
quotient Unsigned a b = word_div_unsigned a b

abbrev pub remainder : Signedness → ℕ → ℕ → Option ℕ
remainder Signed a b = word_rem_signed a b
remainder Unsigned a b = word_rem_unsigned a b

-- a shift to the right; on a signed operand it keeps the sign
abbrev pub shifted_right : Signedness → ℕ → ℕ → ℕ
shifted_right Signed a b = word_sar a b
shifted_right Unsigned a b = word_shr a b

abbrev pub is_less : Signedness → ℕ → ℕ → Bool
is_less s a b = int_lt (number_of s a) (number_of s b)

abbrev pub is_at_most : Signedness → ℕ → ℕ → Bool
is_at_most s a b = int_le (number_of s a) (number_of s b)

-- the result of an operator on two words
abbrev pub binary_result : {O : Type 0} → BinaryOperator → Signedness → ℕ → ℕ → Asks O ℕ
binary_result bin.Add s a b = gives (word_add a b)
binary_result bin.Sub s a b = gives (word_sub a b)
binary_result bin.Mul s a b = gives (word_mul a b)
binary_result bin.Div s a b = or_undefined b (quotient s a b)
binary_result bin.Mod s a b = or_undefined b (remainder s a b)
binary_result bin.Shl s a b = gives (word_shl a b)
binary_result bin.Shr s a b = gives (shifted_right s a b)
binary_result bin.BitAnd s a b = gives (bit_and a b)
binary_result bin.BitOr s a b = gives (bit_or a b)
binary_result bin.BitXor s a b = gives (bit_xor a b)
binary_result bin.Eq s a b = gives (truth (a == b))
binary_result bin.Ne s a b = gives (truth (not (a == b)))
binary_result bin.Lt s a b = gives (truth (is_less s a b))
binary_result bin.Le s a b = gives (truth (is_at_most s a b))
binary_result bin.Gt s a b = gives (truth (is_less s b a))
binary_result bin.Ge s a b = gives (truth (is_at_most s b a))

-- the result of an operator on one word
abbrev pub unary_result : UnaryOperator → ℕ → ℕ
unary_result un.Neg a = word_sub 0 a
unary_result un.Plus a = a
unary_result un.BitNot a = 2 ^ 32 - 1 - a
unary_result un.Not a = truth (a == 0)
