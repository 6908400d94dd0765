-- Instructions: which mnemonic takes which operands, and the instruction that they are.
use Rattle.std.specs.Prelude.{ℕ, ℤ, Bool, true, false, if◌then◌else◌, List, codes, Option, Some, None, Result, Ok, Err}
use Rattle.std.specs.Str.{bytes_eq}
use Rattle.cas_base.specs.Name.{is_name}
use Rattle.cas_base.specs.declared.reg.Reg.{Reg}
use Rattle.cas_base.specs.declared.reg.Reg.TheVariants.{Eax, Ecx}
use Rattle.cas_asm.specs.declared.cond.Cond.{Cond}
use Rattle.cas_asm.specs.declared.instr.Callee.TheVariants as callee
use Rattle.cas_asm.specs.declared.instr.Count.TheVariants as count
use Rattle.cas_asm.specs.declared.instr.Extension.{Extension}
use Rattle.cas_asm.specs.declared.instr.Instr.{Instr}
use Rattle.cas_asm.specs.declared.instr.Instr.TheVariants as i
use Rattle.cas_asm.specs.declared.instr.Mem.{Mem}
use Rattle.cas_asm.specs.declared.instr.Operation.{Operation}
use Rattle.cas_asm.specs.declared.instr.ShiftKind.{ShiftKind}
use Rattle.cas_asm.specs.declared.instr.Source.TheVariants as source
use Rattle.cas_asm.specs.declared.instr.Target.TheVariants as target
use Rattle.cas_asm.specs.declared.instr.Value.TheVariants as value
use Rattle.cas_object_line.specs.declared.fault.LineFault.{LineFault}
use Rattle.cas_object_line.specs.declared.fault.LineFault.TheVariants.{Form}
use Rattle.cas_object_line.specs.declared.mnemonic.Mnemonic.{Mnemonic}
use Rattle.cas_object_line.specs.declared.mnemonic.Mnemonic.TheVariants as m
use Rattle.cas_object_line.specs.declared.operand.Address.{Address}
use Rattle.cas_object_line.specs.declared.operand.Numeral.{Numeral}
use Rattle.cas_object_line.specs.declared.operand.Operand.{Operand}
use Rattle.cas_object_line.specs.declared.operand.Operand.TheVariants as operand
use Rattle.cas_object_line.specs.Groups.{jump_condition, operation_of, extension_of, shift_of}
use Rattle.cas_object_line.specs.Numbers.{word_of, displacement_of, label_of, count_of}
use Rattle.cas_object_line.specs.Tables.{condition_of}

-- an instruction, or why its text is none
abbrev pub Read : Type 0
Read = Result (Instr (List ℕ)) LineFault

-- what is made of a part that is read
abbrev pub made_of : {A B : Type 0} → (A → B) → Result A LineFault → Result B LineFault
made_of make (Ok x) = Ok (make x)
made_of make (Err fault) = Err fault

-- no operand
abbrev pub bare : Mnemonic → Read
bare m.Cdq = Ok i.Cdq
bare m.Ret = Ok i.Ret
bare _ = Err Form

-- `out` is of eax
abbrev pub out : Reg → Read
out Eax = Ok i.Out
out _ = Err Form

-- a register
abbrev pub of_register : Mnemonic → Reg → Read
of_register m.Neg r = Ok (i.Neg r)
of_register m.Not r = Ok (i.Not r)
of_register m.Idiv r = Ok (i.Idiv r)
of_register m.Div r = Ok (i.Div r)
of_register m.Push r = Ok (i.Push r)
of_register m.Pop r = Ok (i.Pop r)
of_register m.Out r = out r
of_register _ r = Err Form

-- a conditional jump
abbrev pub jump_if : Cond → List ℕ → Read
jump_if on digits = made_of (i.JumpIf on) (label_of digits)

abbrev pub jump_by : Option Cond → List ℕ → Read
jump_by None digits = Err Form
jump_by (Some on) digits = jump_if on digits

-- a label
abbrev pub to_label : Mnemonic → List ℕ → Read
to_label m.Jmp digits = made_of (λ n. i.Jmp (target.Label n)) (label_of digits)
to_label mnemonic digits = jump_by (jump_condition mnemonic) digits

-- a name
abbrev pub name_of : List ℕ → Result (List ℕ) LineFault
name_of x = if is_name x then Ok x else Err Form

-- a symbol alone
abbrev pub to_symbol : Mnemonic → List ℕ → Read
to_symbol m.Jmp x = made_of (λ name. i.Jmp (target.Function name)) (name_of x)
to_symbol m.Call x = made_of (λ name. i.Call (callee.Function name)) (name_of x)
to_symbol _ x = Err Form

-- `call lock` and `call unlock`
abbrev pub to_lock_object : List ℕ → Read
to_lock_object x =
    if bytes_eq x (codes "lock") then Ok (i.Call callee.Lock) else (
    if bytes_eq x (codes "unlock") then Ok (i.Call callee.Unlock) else Err Form)

abbrev pub of_word : Mnemonic → List ℕ → Read
of_word m.Call x = to_lock_object x
of_word _ x = Err Form

-- a place in memory with this displacement and symbol
abbrev pub mem_at : Address → ℤ → Option (List ℕ) → Mem (List ℕ)
mem_at address disp symbol = record { sym = symbol; base = address.base; index = address.index; disp = disp }

abbrev pub mem_by : Address → ℤ → Option (List ℕ) → Result (Mem (List ℕ)) LineFault
mem_by address disp None = Ok (mem_at address disp None)
mem_by address disp (Some x) = made_of (λ name. mem_at address disp (Some name)) (name_of x)

abbrev pub mem_with : Address → ℤ → Result (Mem (List ℕ)) LineFault
mem_with address disp = mem_by address disp address.symbol

abbrev pub mem_from : Address → Result ℤ LineFault → Result (Mem (List ℕ)) LineFault
mem_from address (Ok disp) = mem_with address disp
mem_from address (Err fault) = Err fault

-- the place in memory that an operand is
abbrev pub mem_of : Address → Result (Mem (List ℕ)) LineFault
mem_of address = mem_from address (displacement_of address.number)

-- a place in memory alone
abbrev pub of_memory : Mnemonic → Address → Read
of_memory m.Lockdec address = made_of i.LockDec (mem_of address)
of_memory _ address = Err Form

-- one operand
abbrev pub unary : Mnemonic → Operand → Read
unary mnemonic (operand.Reg r) = of_register mnemonic r
unary mnemonic (operand.Label digits) = to_label mnemonic digits
unary mnemonic (operand.Symbol x) = to_symbol mnemonic x
unary mnemonic (operand.Memory address) = of_memory mnemonic address
unary mnemonic (operand.Word x) = of_word mnemonic x
unary mnemonic (operand.Number numeral) = Err Form

-- a shift by ecx
abbrev pub by_ecx : ShiftKind → Reg → Reg → Read
by_ecx shift r Ecx = Ok (i.Shift shift r count.Ecx)
by_ecx shift r _ = Err Form

abbrev pub shifted : Option ShiftKind → Reg → Reg → Read
shifted None r s = Err Form
shifted (Some shift) r s = by_ecx shift r s

abbrev pub extended : Option Extension → Mnemonic → Reg → Reg → Read
extended None mnemonic r s = shifted (shift_of mnemonic) r s
extended (Some extension) mnemonic r s = Ok (i.Extend extension r s)

abbrev pub operated : Option Operation → Mnemonic → Reg → Reg → Read
operated None mnemonic r s = extended (extension_of mnemonic) mnemonic r s
operated (Some operation) mnemonic r s = Ok (i.Operate operation r (source.Reg s))

-- an operation, an extension or a shift of two registers
abbrev pub grouped : Mnemonic → Reg → Reg → Read
grouped mnemonic r s = operated (operation_of mnemonic) mnemonic r s

-- two registers
abbrev pub from_register : Mnemonic → Reg → Reg → Read
from_register m.Mov r s = Ok (i.Mov r (source.Reg s))
from_register m.Cmp r s = Ok (i.Cmp r (source.Reg s))
from_register m.Test r s = Ok (i.Test r (value.Reg s))
from_register mnemonic r s = grouped mnemonic r s

abbrev pub operated_word : Option Operation → Reg → ℕ → Read
operated_word None r w = Err Form
operated_word (Some operation) r w = Ok (i.Operate operation r (source.Num w))

-- a register and a word
abbrev pub with_word : Mnemonic → Reg → ℕ → Read
with_word m.Mov r w = Ok (i.Mov r (source.Num w))
with_word m.Cmp r w = Ok (i.Cmp r (source.Num w))
with_word m.Test r w = Ok (i.Test r (value.Num w))
with_word mnemonic r w = operated_word (operation_of mnemonic) r w

abbrev pub word_into : Mnemonic → Reg → Result ℕ LineFault → Read
word_into mnemonic r (Ok w) = with_word mnemonic r w
word_into mnemonic r (Err fault) = Err fault

abbrev pub immediate : Mnemonic → Reg → Numeral → Read
immediate mnemonic r numeral = word_into mnemonic r (word_of numeral)

-- a number, where the mnemonic takes one
abbrev pub if_taken : Read → Read → Read
if_taken (Ok taken) read = read
if_taken (Err fault) read = Err fault

abbrev pub shifted_by : Option ShiftKind → Mnemonic → Reg → Numeral → Read
shifted_by None mnemonic r numeral = if_taken (with_word mnemonic r 0) (immediate mnemonic r numeral)
shifted_by (Some shift) mnemonic r numeral = made_of (λ n. i.Shift shift r (count.Fixed n)) (count_of numeral)

-- a register and a number
abbrev pub from_number : Mnemonic → Reg → Numeral → Read
from_number mnemonic r numeral = shifted_by (shift_of mnemonic) mnemonic r numeral

abbrev pub is_there : {A : Type 0} → Option A → Bool
is_there None = false
is_there (Some a) = true

-- the mnemonic has a form with a register and a place in memory
abbrev pub takes_memory : Mnemonic → Bool
takes_memory m.Mov = true
takes_memory m.Lea = true
takes_memory m.Cmp = true
takes_memory mnemonic = is_there (operation_of mnemonic)

abbrev pub operated_mem : Option Operation → Reg → Mem (List ℕ) → Read
operated_mem None r mem = Err Form
operated_mem (Some operation) r mem = Ok (i.Operate operation r (source.Mem mem))

abbrev pub with_mem : Mnemonic → Reg → Mem (List ℕ) → Read
with_mem m.Mov r mem = Ok (i.Mov r (source.Mem mem))
with_mem m.Lea r mem = Ok (i.Lea r mem)
with_mem m.Cmp r mem = Ok (i.Cmp r (source.Mem mem))
with_mem mnemonic r mem = operated_mem (operation_of mnemonic) r mem

abbrev pub mem_into : Mnemonic → Reg → Result (Mem (List ℕ)) LineFault → Read
mem_into mnemonic r (Ok mem) = with_mem mnemonic r mem
mem_into mnemonic r (Err fault) = Err fault

-- a register and a place in memory
abbrev pub from_memory : Mnemonic → Reg → Address → Read
from_memory mnemonic r address = if takes_memory mnemonic then mem_into mnemonic r (mem_of address) else Err Form

-- a register and another operand
abbrev pub into_register : Mnemonic → Reg → Operand → Read
into_register mnemonic r (operand.Reg s) = from_register mnemonic r s
into_register mnemonic r (operand.Number numeral) = from_number mnemonic r numeral
into_register mnemonic r (operand.Memory address) = from_memory mnemonic r address
into_register mnemonic r _ = Err Form

-- a place in memory and a register
abbrev pub store_register : Mnemonic → Address → Reg → Read
store_register m.Mov address r = made_of (λ mem. i.Store mem (value.Reg r)) (mem_of address)
store_register _ address r = Err Form

abbrev pub word_with_mem : Mnemonic → Mem (List ℕ) → ℕ → Read
word_with_mem m.Mov mem w = Ok (i.Store mem (value.Num w))
word_with_mem m.Cmp mem w = Ok (i.CmpMem mem w)
word_with_mem _ mem w = Err Form

abbrev pub word_beside : Mnemonic → Result (Mem (List ℕ)) LineFault → ℕ → Read
word_beside mnemonic (Ok mem) w = word_with_mem mnemonic mem w
word_beside mnemonic (Err fault) w = Err fault

abbrev pub word_with_memory : Mnemonic → Address → ℕ → Read
word_with_memory mnemonic address w = word_beside mnemonic (mem_of address) w

abbrev pub number_beside : Mnemonic → Address → Result ℕ LineFault → Read
number_beside mnemonic address (Ok w) = word_with_memory mnemonic address w
number_beside mnemonic address (Err fault) = Err fault

-- a place in memory and a number
abbrev pub number_with_memory : Mnemonic → Address → Numeral → Read
number_with_memory m.Mov address numeral = number_beside m.Mov address (word_of numeral)
number_with_memory m.Cmp address numeral = number_beside m.Cmp address (word_of numeral)
number_with_memory _ address numeral = Err Form

-- a place in memory and another operand
abbrev pub into_memory : Mnemonic → Address → Operand → Read
into_memory mnemonic address (operand.Reg r) = store_register mnemonic address r
into_memory mnemonic address (operand.Number numeral) = number_with_memory mnemonic address numeral
into_memory mnemonic address _ = Err Form

-- a condition and a register
abbrev pub set : Cond → Operand → Read
set on (operand.Reg r) = Ok (i.Set on r)
set on _ = Err Form

abbrev pub set_on : Option Cond → Operand → Read
set_on None second = Err Form
set_on (Some on) second = set on second

abbrev pub by_condition : Mnemonic → Option Cond → Operand → Read
by_condition m.Set on second = set_on on second
by_condition _ on second = Err Form

-- two operands
abbrev pub binary : Mnemonic → Operand → Operand → Read
binary mnemonic (operand.Reg r) second = into_register mnemonic r second
binary mnemonic (operand.Memory address) second = into_memory mnemonic address second
binary mnemonic (operand.Word x) second = by_condition mnemonic (condition_of x) second
binary mnemonic _ second = Err Form
