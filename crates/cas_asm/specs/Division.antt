-- Division of edx:eax by a word. (IA-32's `div` and `idiv`.)
use Rattle.std.specs.Prelude.{ℕ, ◌+◌, ◌*◌, ◌/◌, ◌%◌, ◌^◌, ℤ, pos, int_le, int_div, int_rem, ◌&&◌, ◌==◌, nat_lt, Option, Some, None, if◌then◌else◌}
use Rattle.std.specs.Int.{cast_signed, w64}
use Rattle.cas_base.specs.Word.{signed, word_of}
use Rattle.cas_asm.specs.declared.division.Division.{Division}
use Rattle.cas_asm.specs.Flags.{fits_signed}

-- the number whose words are these
abbrev pub wide : (high low : ℕ) → ℕ
wide high low = high * 2 ^ 32 + low

-- its signed reading
abbrev pub wide_signed : (high low : ℕ) → ℤ
wide_signed high low = cast_signed w64 (wide high low)

-- the quotient, rounded down, and the remainder; None where the divisor is 0 or the quotient isn't below 2^32
abbrev pub divided_unsigned : (high low divisor : ℕ) → Option Division
divided_unsigned high low divisor =
    if divisor == 0 then None
    else (if nat_lt (wide high low / divisor) (2 ^ 32)
    then Some (record { quotient = wide high low / divisor; remainder = wide high low % divisor })
    else None)

-- the quotient, rounded toward zero, and the remainder; None where the divisor is 0 or the quotient isn't from -2^31 to
-- 2^31 - 1
abbrev pub signed_parts : (dividend divisor : ℤ) → Option (ℤ × ℤ)
signed_parts a d =
    if int_le d (pos 0) && int_le (pos 0) d then None
    else (if fits_signed (int_div a d) then Some (int_div a d, int_rem a d) else None)

-- two integers as words
abbrev pub words_of : Option (ℤ × ℤ) → Option Division
words_of None = None
words_of (Some p) = Some (record { quotient = word_of p.0; remainder = word_of p.1 })

-- the same of the signed readings
abbrev pub divided_signed : (high low divisor : ℕ) → Option Division
divided_signed high low divisor = words_of (signed_parts (wide_signed high low) (signed divisor))
