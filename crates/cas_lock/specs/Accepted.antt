-- The accepted body as instructions, whose labels are places.
use Rattle.std.specs.Prelude.{ℕ, pos, List, [], ◌∷◌, Some, None}
use Rattle.cas_base.specs.declared.reg.Reg.TheVariants.{Eax}
use Rattle.cas_asm.specs.declared.cond.Cond.TheVariants.{Ns, Le}
use Rattle.cas_asm.specs.declared.instr.Instr.{Instr}
use Rattle.cas_asm.specs.declared.instr.Instr.TheVariants.{LockDec, JumpIf, CmpMem, Jmp, Ret, Store}
use Rattle.cas_asm.specs.declared.instr.Mem.{Mem}
use Rattle.cas_asm.specs.declared.instr.Target.TheVariants.{Label}
use Rattle.cas_asm.specs.declared.instr.Value.TheVariants.{Num}

-- the word at which eax points
abbrev pub word : Mem ℕ
word = record { sym = None; base = Some Eax; index = None; disp = pos 0 }

-- `lock` from place 0, `unlock` from place 6
abbrev pub accepted_code : List (Instr ℕ)
accepted_code =
    LockDec word ∷ JumpIf Ns 5 ∷ CmpMem word 0 ∷ JumpIf Le 2 ∷ Jmp (Label 0) ∷ Ret ∷ Store word (Num 1) ∷ Ret ∷ []
