-- Kinds of integer cells, and their values as words. (C's integer types.)
use Rattle.std.specs.Prelude.{ℕ, ◌^◌, ℤ, pos, negsuc, int_le, Bool, ◌&&◌, nat_lt}
use Rattle.cas_base.specs.declared.kind.Kind.{Kind}
use Rattle.cas_base.specs.declared.kind.Kind.TheVariants.{I8, U8, I16, U16, I32, U32}
use Rattle.cas_base.specs.Word.{signed}

-- how many values the kind has
abbrev pub size_of : Kind → ℕ
size_of I8 = 2 ^ 8
size_of U8 = 2 ^ 8
size_of I16 = 2 ^ 16
size_of U16 = 2 ^ 16
size_of I32 = 2 ^ 32
size_of U32 = 2 ^ 32

-- the least value of the kind
abbrev pub least_of : Kind → ℤ
least_of I8 = negsuc 127
least_of U8 = pos 0
least_of I16 = negsuc 32767
least_of U16 = pos 0
least_of I32 = negsuc 2147483647
least_of U32 = pos 0

-- the greatest value of the kind
abbrev pub greatest_of : Kind → ℤ
greatest_of I8 = pos 127
greatest_of U8 = pos 255
greatest_of I16 = pos 32767
greatest_of U16 = pos 65535
greatest_of I32 = pos 2147483647
greatest_of U32 = pos 4294967295

-- the integer that the word is at the kind: its signed reading at a signed kind
abbrev pub value_of : ℕ → Kind → ℤ
value_of a I8 = signed a
value_of a U8 = pos a
value_of a I16 = signed a
value_of a U16 = pos a
value_of a I32 = signed a
value_of a U32 = pos a

-- the word is a value of the kind
abbrev pub is_of_kind : ℕ → Kind → Bool
is_of_kind a kind = nat_lt a (2 ^ 32) && int_le (least_of kind) (value_of a kind) && int_le (value_of a kind)
    (greatest_of kind)
