-- The words of the eight registers.
use Rattle.std.specs.Prelude.{ℕ}
use Rattle.cas_base.specs.declared.reg.Reg.{Reg}
use Rattle.cas_base.specs.declared.reg.Reg.TheVariants.{Eax, Ecx, Edx, Ebx, Esp, Ebp, Esi, Edi}
use Rattle.cas_asm.specs.declared.regs.Regs.{Regs}

-- the word of a register
abbrev pub reg : Regs → Reg → ℕ
reg r Eax = r.eax
reg r Ecx = r.ecx
reg r Edx = r.edx
reg r Ebx = r.ebx
reg r Esp = r.esp
reg r Ebp = r.ebp
reg r Esi = r.esi
reg r Edi = r.edi

-- the registers with another word in one of them
abbrev pub with_reg : Regs → Reg → ℕ → Regs
with_reg r Eax v = record r { eax = v }
with_reg r Ecx v = record r { ecx = v }
with_reg r Edx v = record r { edx = v }
with_reg r Ebx v = record r { ebx = v }
with_reg r Esp v = record r { esp = v }
with_reg r Ebp v = record r { ebp = v }
with_reg r Esi v = record r { esi = v }
with_reg r Edi v = record r { edi = v }

-- all registers 0
abbrev pub no_regs : Regs
no_regs = record { eax = 0; ecx = 0; edx = 0; ebx = 0; esp = 0; ebp = 0; esi = 0; edi = 0 }
