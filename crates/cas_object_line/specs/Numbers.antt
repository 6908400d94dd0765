-- Numbers and their ranges.
use Rattle.std.specs.Prelude.{ℕ, ℤ, pos, Bool, not, ◌&&◌, if◌then◌else◌, nat_lt, nat_le, List, Option, Some, None, Result, Ok, Err}
use Rattle.cas_base.specs.Word.{signed, word_sub}
use Rattle.cas_pieces.specs.Numbers.{number}
use Rattle.cas_object_line.specs.declared.fault.LineFault.{LineFault}
use Rattle.cas_object_line.specs.declared.fault.LineFault.TheVariants.{Form, Range}
use Rattle.cas_object_line.specs.declared.operand.Numeral.{Numeral}

-- the word whose signed reading is this number, or minus it: from -2147483648 to 2147483647
abbrev pub signed_word : (negative : Bool) → ℕ → Result ℕ LineFault
signed_word negative n =
    if negative && nat_le n 2147483648 then Ok (word_sub 0 n) else (
    if not negative && nat_lt n 2147483648 then Ok n else Err Range)

abbrev pub word_from : (negative : Bool) → Option ℕ → Result ℕ LineFault
word_from negative None = Err Form
word_from negative (Some n) = signed_word negative n

-- the word of an immediate or a value
abbrev pub word_of : Numeral → Result ℕ LineFault
word_of numeral = word_from numeral.negative (number numeral.digits)

abbrev pub as_displacement : Result ℕ LineFault → Result ℤ LineFault
as_displacement (Ok w) = Ok (signed w)
as_displacement (Err fault) = Err fault

-- the displacement, which is 0 where there is no number
abbrev pub displacement_of : Option Numeral → Result ℤ LineFault
displacement_of None = Ok (pos 0)
displacement_of (Some numeral) = as_displacement (word_of numeral)

-- a label: to 4294967295
abbrev pub small_label : ℕ → Result ℕ LineFault
small_label n = if nat_lt n 4294967296 then Ok n else Err Range

abbrev pub label_from : Option ℕ → Result ℕ LineFault
label_from None = Err Form
label_from (Some n) = small_label n

abbrev pub label_of : List ℕ → Result ℕ LineFault
label_of digits = label_from (number digits)

-- by how much a shift shifts: to 31
abbrev pub small_count : (negative : Bool) → ℕ → Result ℕ LineFault
small_count negative n = if not negative && nat_lt n 32 then Ok n else Err Range

abbrev pub count_from : (negative : Bool) → Option ℕ → Result ℕ LineFault
count_from negative None = Err Form
count_from negative (Some n) = small_count negative n

abbrev pub count_of : Numeral → Result ℕ LineFault
count_of numeral = count_from numeral.negative (number numeral.digits)
