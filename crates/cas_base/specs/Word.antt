-- Words: numbers below 2^32, with their signed reading and their operators. (CompCert's integers, but the count of a
-- shift is taken modulo 32.)
use Rattle.std.specs.Prelude.{ℕ, ◌+◌, ◌-◌, ◌*◌, ◌/◌, ◌%◌, ◌^◌, ℤ, pos, ◌+ℤ◌, ◌*ℤ◌, ◌≤ℤ◌, int_div, int_rem, unsigned_abs, ◌≡◌, ◌<◌}
use Rattle.std.specs.Prelude.{Bool, ◌&&◌, ◌||◌, ◌==◌, if◌then◌else◌, Option, Some, None}
use Rattle.std.specs.Int.{cast_signed, cast_unsigned, int_shr, int_wrap, w8, w16, w32}
use Rattle.cas_base.specs.declared.kind.Kind.{Kind}
use Rattle.cas_base.specs.declared.kind.Kind.TheVariants.{I8, U8, I16, U16, I32, U32}

-- the signed reading: the integer from -2^31 to 2^31 - 1 that equals the word modulo 2^32
abbrev pub signed : ℕ → ℤ
signed a = cast_signed w32 a

-- the word whose signed reading is z
abbrev pub word_of : ℤ → ℕ
word_of z = cast_unsigned w32 z

-- the integer from -2^31 to 2^31 - 1 that equals z modulo 2^32
abbrev pub wrapped : ℤ → ℤ
wrapped z = int_wrap w32 z

-- the sum, modulo 2^32
abbrev pub word_add : ℕ → ℕ → ℕ
word_add a b = (a + b) % 2 ^ 32

-- the difference, modulo 2^32
abbrev pub word_sub : ℕ → ℕ → ℕ
word_sub a b = (a + (2 ^ 32 - b)) % 2 ^ 32

-- the product, modulo 2^32
abbrev pub word_mul : ℕ → ℕ → ℕ
word_mul a b = (a * b) % 2 ^ 32

-- the product with 2 to the count modulo 32, modulo 2^32
abbrev pub word_shl : ℕ → ℕ → ℕ
word_shl a b = (a * 2 ^ (b % 32)) % 2 ^ 32

-- the quotient by 2 to the count modulo 32, rounded down
abbrev pub word_shr : ℕ → ℕ → ℕ
word_shr a b = a / 2 ^ (b % 32)

-- the signed reading's quotient by 2 to the count modulo 32, rounded down
abbrev pub word_sar : ℕ → ℕ → ℕ
word_sar a b = word_of (int_shr (signed a) (b % 32))

-- the divisor is 0, or -2147483648 is divided by -1
abbrev pub has_no_signed_quotient : (dividend divisor : ℕ) → Bool
has_no_signed_quotient a b = (b == 0) || ((a == 2147483648) && (b == 4294967295))

-- the quotient of the signed readings, rounded toward zero
abbrev pub word_div_signed : ℕ → ℕ → Option ℕ
word_div_signed a b = if has_no_signed_quotient a b then None else Some (word_of (int_div (signed a) (signed b)))

-- the remainder of that quotient
abbrev pub word_rem_signed : ℕ → ℕ → Option ℕ
word_rem_signed a b = if has_no_signed_quotient a b then None else Some (word_of (int_rem (signed a) (signed b)))

-- the quotient, rounded down, where the divisor is not 0
abbrev pub word_div_unsigned : ℕ → ℕ → Option ℕ
word_div_unsigned a b = if b == 0 then None else Some (a / b)

-- the remainder of that quotient
abbrev pub word_rem_unsigned : ℕ → ℕ → Option ℕ
word_rem_unsigned a b = if b == 0 then None else Some (a % b)

-- the value of the kind that equals the word modulo the kind's size, as a word
abbrev pub narrowed : ℕ → Kind → ℕ
narrowed a I8 = word_of (cast_signed w8 (a % 2 ^ 8))
narrowed a U8 = a % 2 ^ 8
narrowed a I16 = word_of (cast_signed w16 (a % 2 ^ 16))
narrowed a U16 = a % 2 ^ 16
narrowed a I32 = a
narrowed a U32 = a

-- q and r are the quotient, rounded toward zero, and the remainder of a by d
pub record IsTruncatedDivision (a d q r : ℤ) : Type 0 where
  pub sum : q *ℤ d +ℤ r ≡ a
  pub small : unsigned_abs r < unsigned_abs d
  pub not_negative : pos 0 ≤ℤ a → pos 0 ≤ℤ r
  pub not_positive : a ≤ℤ pos 0 → r ≤ℤ pos 0
