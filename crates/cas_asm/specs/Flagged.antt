-- What becomes of the flags, by the forms of instructions.
use Rattle.std.specs.Prelude.{Bool, true, false}
use Rattle.cas_asm.specs.declared.instr.Operation.{Operation}
use Rattle.cas_asm.specs.declared.instr.Operation.TheVariants.{Imul}
use Rattle.cas_asm.specs.declared.instr.Instr.{Instr}
use Rattle.cas_asm.specs.declared.instr.Instr.TheVariants as instr

abbrev pub is_imul : Operation → Bool
is_imul Imul = true
is_imul _ = false

-- the flags stay
abbrev pub keeps_flags : {S : Type 0} → Instr S → Bool
keeps_flags (instr.Operate what r from) = false
keeps_flags (instr.Cmp r from) = false
keeps_flags (instr.CmpMem m n) = false
keeps_flags (instr.Test r from) = false
keeps_flags (instr.Neg r) = false
keeps_flags (instr.Shift how r by) = false
keeps_flags (instr.Idiv r) = false
keeps_flags (instr.Div r) = false
keeps_flags (instr.LockDec m) = false
keeps_flags _ = true

-- all flags become 0: products, shifts and divisions
abbrev pub clears_flags : {S : Type 0} → Instr S → Bool
clears_flags (instr.Operate what r from) = is_imul what
clears_flags (instr.Shift how r by) = true
clears_flags (instr.Idiv r) = true
clears_flags (instr.Div r) = true
clears_flags _ = false
