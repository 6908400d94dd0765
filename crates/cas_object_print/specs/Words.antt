-- The words of mnemonics, conditions and registers.
use Rattle.std.specs.Prelude.{ℕ, List, codes}
use Rattle.cas_base.specs.declared.reg.Reg.{Reg}
use Rattle.cas_base.specs.declared.reg.Reg.TheVariants as reg
use Rattle.cas_asm.specs.declared.cond.Cond.{Cond}
use Rattle.cas_asm.specs.declared.cond.Cond.TheVariants as cond
use Rattle.cas_asm.specs.declared.instr.Operation.{Operation}
use Rattle.cas_asm.specs.declared.instr.Operation.TheVariants as op
use Rattle.cas_asm.specs.declared.instr.Extension.{Extension}
use Rattle.cas_asm.specs.declared.instr.Extension.TheVariants as ext
use Rattle.cas_asm.specs.declared.instr.ShiftKind.{ShiftKind}
use Rattle.cas_asm.specs.declared.instr.ShiftKind.TheVariants as kind

-- the name of a register
abbrev pub register : Reg → List ℕ
register reg.Eax = codes "eax"
register reg.Ecx = codes "ecx"
register reg.Edx = codes "edx"
register reg.Ebx = codes "ebx"
register reg.Esp = codes "esp"
register reg.Ebp = codes "ebp"
register reg.Esi = codes "esi"
register reg.Edi = codes "edi"

-- the text of a condition
abbrev pub condition : Cond → List ℕ
condition cond.O = codes "o"
condition cond.No = codes "no"
condition cond.B = codes "b"
condition cond.Ae = codes "ae"
condition cond.E = codes "e"
condition cond.Ne = codes "ne"
condition cond.Be = codes "be"
condition cond.A = codes "a"
condition cond.S = codes "s"
condition cond.Ns = codes "ns"
condition cond.P = codes "p"
condition cond.Np = codes "np"
condition cond.L = codes "l"
condition cond.Ge = codes "ge"
condition cond.Le = codes "le"
condition cond.G = codes "g"

-- the mnemonic of an operation
abbrev pub operation : Operation → List ℕ
operation op.Add = codes "add"
operation op.Sub = codes "sub"
operation op.And = codes "and"
operation op.Or = codes "or"
operation op.Xor = codes "xor"
operation op.Imul = codes "imul"

-- the mnemonic of an extension
abbrev pub extension : Extension → List ℕ
extension ext.Sign8 = codes "movsx8"
extension ext.Sign16 = codes "movsx16"
extension ext.Zero8 = codes "movzx8"
extension ext.Zero16 = codes "movzx16"

-- the mnemonic of a shift
abbrev pub shift : ShiftKind → List ℕ
shift kind.Shl = codes "shl"
shift kind.Shr = codes "shr"
shift kind.Sar = codes "sar"
