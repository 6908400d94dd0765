-- Registers, stacks and instructions whose numbers are words, and that they stay so.
use Rattle.std.specs.Prelude.{ℕ, ◌<◌, ◌^◌}
use Rattle.cas_asm.specs.declared.regs.Regs.{Regs}
use Rattle.cas_asm.specs.declared.regs.Core.{Core}
use Rattle.cas_asm.specs.declared.instr.Source.{Source}
use Rattle.cas_asm.specs.declared.instr.Source.TheVariants as source
use Rattle.cas_asm.specs.declared.instr.Instr.{Instr}
use Rattle.cas_asm.specs.declared.instr.Instr.TheVariants as instr
use Rattle.cas_asm.specs.Links.{Links}
use Rattle.cas_asm.specs.Effect.{effect_of}
use Rattle.cas_asm.specs.After.{after}

abbrev pub IsWord : ℕ → Type 0
IsWord n = n < 2 ^ 32

-- eight registers with words
pub record AreWords (r : Regs) : Type 0 where
  pub eax : IsWord r.eax
  pub ecx : IsWord r.ecx
  pub edx : IsWord r.edx
  pub ebx : IsWord r.ebx
  pub esp : IsWord r.esp
  pub ebp : IsWord r.ebp
  pub esi : IsWord r.esi
  pub edi : IsWord r.edi

-- the number in a source is a word
abbrev pub IsWordSource : {S : Type 0} → Source S → Type 0
IsWordSource (source.Num n) = IsWord n
IsWordSource _ = Unit {0}

-- the number that the instruction puts into a register by itself is a word
abbrev pub HasWords : {S : Type 0} → Instr S → Type 0
HasWords (instr.Mov r from) = IsWordSource from
HasWords (instr.Operate what r from) = IsWordSource from
HasWords _ = Unit {0}

-- an instruction leaves words in the registers, if the word that it reads is one
abbrev pub WordsStay : {S : Type 0} → Links S → Instr S → Type 0
WordsStay links i = (c : Core) (read : ℕ) → HasWords i → AreWords c.regs → IsWord read →
    AreWords (after (effect_of links i) c read).regs
