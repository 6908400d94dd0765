-- Groups of mnemonics.
use Rattle.std.specs.Prelude.{Option, Some, None}
use Rattle.cas_asm.specs.declared.cond.Cond.{Cond}
use Rattle.cas_asm.specs.declared.cond.Cond.TheVariants as cond
use Rattle.cas_asm.specs.declared.instr.Operation.{Operation}
use Rattle.cas_asm.specs.declared.instr.Operation.TheVariants as operation
use Rattle.cas_asm.specs.declared.instr.Extension.{Extension}
use Rattle.cas_asm.specs.declared.instr.Extension.TheVariants.{Sign8, Sign16, Zero8, Zero16}
use Rattle.cas_asm.specs.declared.instr.ShiftKind.{ShiftKind}
use Rattle.cas_asm.specs.declared.instr.ShiftKind.TheVariants as shift
use Rattle.cas_object_line.specs.declared.mnemonic.Mnemonic.{Mnemonic}
use Rattle.cas_object_line.specs.declared.mnemonic.Mnemonic.TheVariants as m

-- the condition of a jump
abbrev pub jump_condition : Mnemonic → Option Cond
jump_condition m.Jo = Some cond.O
jump_condition m.Jno = Some cond.No
jump_condition m.Jb = Some cond.B
jump_condition m.Jae = Some cond.Ae
jump_condition m.Je = Some cond.E
jump_condition m.Jne = Some cond.Ne
jump_condition m.Jbe = Some cond.Be
jump_condition m.Ja = Some cond.A
jump_condition m.Js = Some cond.S
jump_condition m.Jns = Some cond.Ns
jump_condition m.Jp = Some cond.P
jump_condition m.Jnp = Some cond.Np
jump_condition m.Jl = Some cond.L
jump_condition m.Jge = Some cond.Ge
jump_condition m.Jle = Some cond.Le
jump_condition m.Jg = Some cond.G
jump_condition _ = None

-- the operation of a mnemonic of arithmetic or logic
abbrev pub operation_of : Mnemonic → Option Operation
operation_of m.Add = Some operation.Add
operation_of m.Sub = Some operation.Sub
operation_of m.And = Some operation.And
operation_of m.Or = Some operation.Or
operation_of m.Xor = Some operation.Xor
operation_of m.Imul = Some operation.Imul
operation_of _ = None

-- how a mnemonic extends
abbrev pub extension_of : Mnemonic → Option Extension
extension_of m.Movsx8 = Some Sign8
extension_of m.Movsx16 = Some Sign16
extension_of m.Movzx8 = Some Zero8
extension_of m.Movzx16 = Some Zero16
extension_of _ = None

-- how a mnemonic shifts
abbrev pub shift_of : Mnemonic → Option ShiftKind
shift_of m.Shl = Some shift.Shl
shift_of m.Shr = Some shift.Shr
shift_of m.Sar = Some shift.Sar
shift_of _ = None
