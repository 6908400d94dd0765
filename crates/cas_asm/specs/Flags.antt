-- The flags after sums, differences and bitwise operations, and the sixteen conditions. (IA-32.)
use Rattle.std.specs.Prelude.{ℕ, ◌+◌, ◌%◌, ◌^◌, ℤ, pos, negsuc, ◌+ℤ◌, ◌-ℤ◌, int_le, int_lt, Bool, true, false, not, ◌&&◌, ◌||◌, ◌==◌, nat_lt, nat_le, count_ones}
use Rattle.cas_asm.specs.declared.flags.Flags.{Flags}
use Rattle.cas_asm.specs.declared.cond.Cond.{Cond}
use Rattle.cas_asm.specs.declared.cond.Cond.TheVariants.{O, No, B, Ae, E, Ne, Be, A, S, Ns, P, Np, L, Ge, Le, G}
use Rattle.cas_base.specs.Word.{word_add, word_sub, signed}

-- the low eight bits have an even number of ones
abbrev pub even_parity : ℕ → Bool
even_parity a = count_ones (a % 256) % 2 == 0

-- the integer is from -2147483648 to 2147483647
abbrev pub fits_signed : ℤ → Bool
fits_signed z = int_le (negsuc 2147483647) z && int_le z (pos 2147483647)

-- zero, sign and parity are those of the result
abbrev pub result_flags : (carry overflow : Bool) (result : ℕ) → Flags
result_flags carry overflow result =
    record {
      carry = carry;
      zero = result == 0;
      sign = nat_le (2 ^ 31) result;
      overflow = overflow;
      parity =
          even_parity result;
    }

-- all flags 0
abbrev pub cleared : Flags
cleared = record { carry = false; zero = false; sign = false; overflow = false; parity = false }

-- a sum: the carry is out of 32 bits
abbrev pub add_flags : (a b : ℕ) → Flags
add_flags a b = result_flags (nat_le (2 ^ 32) (a + b)) (not (fits_signed (signed a +ℤ signed b))) (word_add a b)

-- a difference: the carry is the borrow
abbrev pub sub_flags : (a b : ℕ) → Flags
sub_flags a b = result_flags (nat_lt a b) (not (fits_signed (signed a -ℤ signed b))) (word_sub a b)

-- a bitwise operation with this result
abbrev pub logic_flags : (result : ℕ) → Flags
logic_flags result = result_flags false false result

-- a locked decrement with this result keeps the carry
abbrev pub decrement_flags : (carry : Bool) (result : ℕ) → Flags
decrement_flags carry result = result_flags carry (result == 2147483647) result

-- exactly one of the two
abbrev pub differ : Bool → Bool → Bool
differ true b = not b
differ false b = b

-- the condition holds
abbrev pub holds : Cond → Flags → Bool
holds O f = f.overflow
holds No f = not f.overflow
holds B f = f.carry
holds Ae f = not f.carry
holds E f = f.zero
holds Ne f = not f.zero
holds Be f = f.carry || f.zero
holds A f = not (f.carry || f.zero)
holds S f = f.sign
holds Ns f = not f.sign
holds P f = f.parity
holds Np f = not f.parity
holds L f = differ f.sign f.overflow
holds Ge f = not (differ f.sign f.overflow)
holds Le f = f.zero || differ f.sign f.overflow
holds G f = not (f.zero || differ f.sign f.overflow)

-- what each condition says of a and b after `cmp a, b`: unsigned comparisons by the words, signed ones by their signed
-- readings, and
-- overflow, sign and parity of the difference
abbrev pub compares : Cond → (a b : ℕ) → Bool
compares O a b = not (fits_signed (signed a -ℤ signed b))
compares No a b = fits_signed (signed a -ℤ signed b)
compares B a b = nat_lt a b
compares Ae a b = nat_le b a
compares E a b = a == b
compares Ne a b = not (a == b)
compares Be a b = nat_le a b
compares A a b = nat_lt b a
compares S a b = nat_le (2 ^ 31) (word_sub a b)
compares Ns a b = nat_lt (word_sub a b) (2 ^ 31)
compares P a b = even_parity (word_sub a b)
compares Np a b = not (even_parity (word_sub a b))
compares L a b = int_lt (signed a) (signed b)
compares Ge a b = int_le (signed b) (signed a)
compares Le a b = int_le (signed a) (signed b)
compares G a b = int_lt (signed b) (signed a)
