-- What a row means: the address that it reads, the store that it makes, and the registers, flags and place after it.
-- Memory isn't
-- spoken of: the word that is read is given, and the store is handed out.
use Rattle.std.specs.Prelude.{ℕ, ◌+◌, ◌-◌, ◌^◌, Bool, true, false, Option, Some, None, is_none, bit_and, bit_or, bit_xor, if◌then◌else◌}
use Rattle.std.specs.Option.{option_or}
use Rattle.cas_base.specs.declared.kind.Kind.TheVariants.{I8, U8, I16, U16}
use Rattle.cas_base.specs.declared.reg.Reg.{Reg}
use Rattle.cas_base.specs.Word.{word_add, word_sub, word_mul, word_shl, word_shr, word_sar, narrowed}
use Rattle.cas_asm.specs.declared.regs.Regs.{Regs}
use Rattle.cas_asm.specs.declared.flags.Flags.{Flags}
use Rattle.cas_asm.specs.declared.regs.Core.{Core}
use Rattle.cas_asm.specs.declared.regs.Write.{Write}
use Rattle.cas_asm.specs.declared.division.Division.{Division}
use Rattle.cas_asm.specs.declared.instr.Extension.{Extension}
use Rattle.cas_asm.specs.declared.instr.Extension.TheVariants.{Sign8, Sign16, Zero8, Zero16}
use Rattle.cas_asm.specs.declared.instr.Operation.{Operation}
use Rattle.cas_asm.specs.declared.instr.Operation.TheVariants.{Add, Sub, And, Or, Xor, Imul}
use Rattle.cas_asm.specs.declared.instr.ShiftKind.{ShiftKind}
use Rattle.cas_asm.specs.declared.instr.ShiftKind.TheVariants.{Shl, Shr, Sar}
use Rattle.cas_asm.specs.declared.effect.Location.{Location}
use Rattle.cas_asm.specs.declared.effect.Operand.{Operand}
use Rattle.cas_asm.specs.declared.effect.Operand.TheVariants as operand
use Rattle.cas_asm.specs.declared.effect.Operator.{Operator}
use Rattle.cas_asm.specs.declared.effect.Operator.TheVariants.{Copies, Extends, Complements, Operates, Shifts, Tests}
use Rattle.cas_asm.specs.declared.effect.FlagRule.{FlagRule}
use Rattle.cas_asm.specs.declared.effect.FlagRule.TheVariants.{Kept, Cleared, OfSum, OfDifference, OfLogic, OfDecrement}
use Rattle.cas_asm.specs.declared.effect.Destination.{Destination}
use Rattle.cas_asm.specs.declared.effect.Destination.TheVariants as to
use Rattle.cas_asm.specs.declared.effect.Next.{Next}
use Rattle.cas_asm.specs.declared.effect.Next.TheVariants.{Following, To, ToIf, ToResult}
use Rattle.cas_asm.specs.declared.effect.Computed.{Computed}
use Rattle.cas_asm.specs.declared.effect.Effect.{Effect}
use Rattle.cas_asm.specs.declared.effect.Effect.TheVariants.{Computes, Divides}
use Rattle.cas_asm.specs.Registers.{reg, with_reg}
use Rattle.cas_asm.specs.Flags.{holds, cleared, add_flags, sub_flags, logic_flags, decrement_flags}
use Rattle.cas_asm.specs.Division.{divided_signed, divided_unsigned}

-- Addresses and operands.

abbrev pub base_word : Regs → Option Reg → ℕ
base_word r None = 0
base_word r (Some b) = reg r b

abbrev pub index_word : Regs → Option (Reg × Bool) → ℕ
index_word r None = 0
index_word r (Some i) = if i.1 then word_mul 4 (reg r i.0) else reg r i.0

-- the address of a location
abbrev pub address : Regs → Location → ℕ
address r l = word_add (word_add l.word (base_word r l.base)) (index_word r l.index)

-- the address that an operand is read from
abbrev pub operand_at : Regs → Operand → Option ℕ
operand_at r (operand.Memory l) = Some (address r l)
operand_at r operand.Top = Some r.esp
operand_at r _ = None

-- the word of an operand; one in memory is the word that was read
abbrev pub operand_word : Core → Operand → (read : ℕ) → ℕ
operand_word c (operand.Number n) read = n
operand_word c (operand.Register r) read = reg c.regs r
operand_word c (operand.Address l) read = address c.regs l
operand_word c (operand.Memory l) read = read
operand_word c operand.Top read = read
operand_word c operand.NextPlace read = c.place + 1

-- Results.

abbrev pub complement : ℕ → ℕ
complement a = 2 ^ 32 - 1 - a

abbrev pub extended : Extension → ℕ → ℕ
extended Sign8 a = narrowed a I8
extended Sign16 a = narrowed a I16
extended Zero8 a = narrowed a U8
extended Zero16 a = narrowed a U16

abbrev pub operated : Operation → (a b : ℕ) → ℕ
operated Add a b = word_add a b
operated Sub a b = word_sub a b
operated And a b = bit_and a b
operated Or a b = bit_or a b
operated Xor a b = bit_xor a b
operated Imul a b = word_mul a b

abbrev pub shifted : ShiftKind → (a b : ℕ) → ℕ
shifted Shl a b = word_shl a b
shifted Shr a b = word_shr a b
shifted Sar a b = word_sar a b

-- the result of an operator on these operands, with the flags before
abbrev pub result_of : Operator → Flags → (a b : ℕ) → ℕ
result_of Copies f a b = b
result_of (Extends how) f a b = extended how b
result_of Complements f a b = complement b
result_of (Operates what) f a b = operated what a b
result_of (Shifts how) f a b = shifted how a b
result_of (Tests on) f a b = if holds on f then 1 else 0

-- the flags after it
abbrev pub flags_after : FlagRule → Flags → (a b result : ℕ) → Flags
flags_after Kept f a b result = f
flags_after Cleared f a b result = cleared
flags_after OfSum f a b result = add_flags a b
flags_after OfDifference f a b result = sub_flags a b
flags_after OfLogic f a b result = logic_flags result
flags_after OfDecrement f a b result = decrement_flags f.carry result

-- Rows with one result.

abbrev pub left_word : Computed → Core → (read : ℕ) → ℕ
left_word row c read = operand_word c row.left read

abbrev pub right_word : Computed → Core → (read : ℕ) → ℕ
right_word row c read = operand_word c row.right read

abbrev pub row_result : Computed → Core → (read : ℕ) → ℕ
row_result row c read = result_of row.operator c.flags (left_word row c read) (right_word row c read)

-- the registers once the word at the top of the stack is taken off, or not
abbrev pub popped : (pops : Bool) → Regs → Regs
popped true r = record r { esp = word_add r.esp 4 }
popped false r = r

-- the registers once the result has gone to its destination
abbrev pub delivered : Destination → Regs → (result : ℕ) → Regs
delivered (to.Register k) r result = with_reg r k result
delivered to.Pushed r result = record r { esp = word_sub r.esp 4 }
delivered _ r result = r

-- where the code goes on
abbrev pub place_after : Next → Core → (result : ℕ) → ℕ
place_after Following c result = c.place + 1
place_after (To place) c result = place
place_after (ToIf on place) c result = if holds on c.flags then place else c.place + 1
place_after ToResult c result = result

-- the core after the row
abbrev pub row_after : Computed → Core → (read : ℕ) → Core
row_after row c read = record {
  regs = delivered row.to (popped row.pops c.regs) (row_result row c read);
  flags = flags_after row.flags c.flags (left_word row c read) (right_word row c read) (row_result row c read);
  place = place_after row.next c (row_result row c read);
}

-- the store to this destination
abbrev pub store_to : Destination → Regs → (result : ℕ) → Option Write
store_to (to.Memory l) r result = Some (record { at = address r l; value = result })
store_to (to.Locked l) r result = Some (record { at = address r l; value = result })
store_to to.Pushed r result = Some (record { at = word_sub r.esp 4; value = result })
store_to _ r result = None

-- Divisions.

-- quotient and remainder of edx:eax
abbrev pub division_of : (signed : Bool) → Regs → Reg → Option Division
division_of true r by = divided_signed r.edx r.eax (reg r by)
division_of false r by = divided_unsigned r.edx r.eax (reg r by)

-- without a result nothing changes
abbrev pub divided : Option Division → Core → Core
divided None c = c
divided (Some d) c =
    record { regs = record c.regs { eax = d.quotient; edx = d.remainder }; flags = cleared; place = c.place + 1 }

-- Effects.

-- the address that is read, if there is one
abbrev pub read_at : Effect → Regs → Option ℕ
read_at (Computes row) r = option_or (operand_at r row.left) (operand_at r row.right)
read_at (Divides signed by) r = None

-- a division without a result
abbrev pub faults : Effect → Core → Bool
faults (Computes row) c = false
faults (Divides signed by) c = is_none (division_of signed c.regs by)

-- the core after the effect, given the word that was read
abbrev pub after : Effect → Core → (read : ℕ) → Core
after (Computes row) c read = row_after row c read
after (Divides signed by) c read = divided (division_of signed c.regs by) c

-- the store that it makes, if there is one
abbrev pub write_of : Effect → Core → (read : ℕ) → Option Write
write_of (Computes row) c read = store_to row.to c.regs (row_result row c read)
write_of (Divides signed by) c read = None

-- its store is one step with its reading
abbrev pub is_locked_destination : Destination → Bool
is_locked_destination (to.Locked l) = true
is_locked_destination _ = false

abbrev pub is_locked : Effect → Bool
is_locked (Computes row) = is_locked_destination row.to
is_locked (Divides signed by) = false

-- it puts its result out
abbrev pub is_output_destination : Destination → Bool
is_output_destination to.Output = true
is_output_destination _ = false

abbrev pub is_output : Effect → Bool
is_output (Computes row) = is_output_destination row.to
is_output (Divides signed by) = false

-- it goes to the place that it read
abbrev pub is_return_next : Next → Bool
is_return_next ToResult = true
is_return_next _ = false

abbrev pub is_return : Effect → Bool
is_return (Computes row) = is_return_next row.next
is_return (Divides signed by) = false
