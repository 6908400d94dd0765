-- Registers stay words.
use Rattle.std.proofs.Common.{◌≡◌, ℕ, ◌+◌, ◌-◌, ◌*◌, ◌%◌, ◌^◌, Bool, true, false, if◌then◌else◌, Option, Some, None, refl, arith}
use Rattle.std.proofs.Math.Nat.{div-le_self}
use Rattle.std.proofs.lemmas.Nat.{or_lt, xor_lt, and_le_l}
use Rattle.std.proofs.lemmas.Int.{ints}
use Rattle.std.proofs.lemmas.Bool.Decides.{nat_tests}
use Rattle.cas_base.specs.declared.reg.Reg.{Reg}
use Rattle.cas_base.specs.declared.reg.Reg.TheVariants.{Eax, Ecx, Edx, Ebx, Esp, Ebp, Esi, Edi}
use Rattle.cas_base.specs.declared.kind.Kind.TheVariants.{I8, U8, I16, U16}
use Rattle.cas_base.specs.Word.{word_sar}
use Rattle.cas_base.proofs.KindLaws.{narrowed-lt}
use Rattle.cas_asm.specs.declared.regs.Regs.{Regs}
use Rattle.cas_asm.specs.declared.regs.Core.{Core}
use Rattle.cas_asm.specs.declared.division.Division.{Division}
use Rattle.cas_asm.specs.declared.instr.Extension.{Extension}
use Rattle.cas_asm.specs.declared.instr.Extension.TheVariants.{Sign8, Sign16, Zero8, Zero16}
use Rattle.cas_asm.specs.declared.instr.Operation.{Operation}
use Rattle.cas_asm.specs.declared.instr.Operation.TheVariants.{Add, Sub, And, Or, Xor, Imul}
use Rattle.cas_asm.specs.declared.instr.ShiftKind.{ShiftKind}
use Rattle.cas_asm.specs.declared.instr.ShiftKind.TheVariants.{Shl, Shr, Sar}
use Rattle.cas_asm.specs.declared.instr.Source.{Source}
use Rattle.cas_asm.specs.declared.instr.Source.TheVariants as source
use Rattle.cas_asm.specs.declared.instr.Instr.{Instr}
use Rattle.cas_asm.specs.declared.instr.Instr.TheVariants as instr
use Rattle.cas_asm.specs.Links.{Links}
use Rattle.cas_asm.specs.Effect.{effect_of, source_operand, count_operand}
use Rattle.cas_asm.specs.Flags.{holds}
use Rattle.cas_asm.specs.Registers.{reg, with_reg}
use Rattle.cas_asm.specs.After.{after, divided, division_of, extended, operated, shifted, operand_word}
use Rattle.cas_asm.specs.Words.{IsWord, AreWords, IsWordSource, HasWords}
use Rattle.cas_asm.proofs.Dividing.{AreResults, signed_results, unsigned_results}

pub reg_word : (r : Regs) → AreWords r → (k : Reg) → IsWord (reg r k)
reg_word r h Eax = h.eax
reg_word r h Ecx = h.ecx
reg_word r h Edx = h.edx
reg_word r h Ebx = h.ebx
reg_word r h Esp = h.esp
reg_word r h Ebp = h.ebp
reg_word r h Esi = h.esi
reg_word r h Edi = h.edi

pub with_word : (r : Regs) (v : ℕ) → AreWords r → IsWord v → (k : Reg) → AreWords (with_reg r k v)
with_word r v h w Eax =
    record { eax = w; ecx = h.ecx; edx = h.edx; ebx = h.ebx; esp = h.esp; ebp = h.ebp; esi = h.esi; edi = h.edi }
with_word r v h w Ecx =
    record { eax = h.eax; ecx = w; edx = h.edx; ebx = h.ebx; esp = h.esp; ebp = h.ebp; esi = h.esi; edi = h.edi }
with_word r v h w Edx =
    record { eax = h.eax; ecx = h.ecx; edx = w; ebx = h.ebx; esp = h.esp; ebp = h.ebp; esi = h.esi; edi = h.edi }
with_word r v h w Ebx =
    record { eax = h.eax; ecx = h.ecx; edx = h.edx; ebx = w; esp = h.esp; ebp = h.ebp; esi = h.esi; edi = h.edi }
with_word r v h w Esp =
    record { eax = h.eax; ecx = h.ecx; edx = h.edx; ebx = h.ebx; esp = w; ebp = h.ebp; esi = h.esi; edi = h.edi }
with_word r v h w Ebp =
    record { eax = h.eax; ecx = h.ecx; edx = h.edx; ebx = h.ebx; esp = h.esp; ebp = w; esi = h.esi; edi = h.edi }
with_word r v h w Esi =
    record { eax = h.eax; ecx = h.ecx; edx = h.edx; ebx = h.ebx; esp = h.esp; ebp = h.ebp; esi = w; edi = h.edi }
with_word r v h w Edi =
    record { eax = h.eax; ecx = h.ecx; edx = h.edx; ebx = h.ebx; esp = h.esp; ebp = h.ebp; esi = h.esi; edi = w }

mod_word : (n : ℕ) → IsWord (n % 2 ^ 32)
mod_word n = omega arith

source_word : {S : Type 0} (links : Links S) (c : Core) (read : ℕ) → AreWords c.regs → IsWord read → (from : Source S) →
    IsWordSource from → IsWord (operand_word c (source_operand links from) read)
source_word links c read h v (source.Reg r) w = reg_word c.regs h r
source_word links c read h v (source.Num n) w = w
source_word links c read h v (source.Mem m) w = v

extended_word : (how : Extension) (a : ℕ) → IsWord a → IsWord (extended how a)
extended_word Sign8 a h = narrowed-lt a I8 h
extended_word Sign16 a h = narrowed-lt a I16 h
extended_word Zero8 a h = narrowed-lt a U8 h
extended_word Zero16 a h = narrowed-lt a U16 h

operated_word : (what : Operation) (a b : ℕ) → IsWord a → IsWord b → IsWord (operated what a b)
operated_word Add a b h k = mod_word (a + b)
operated_word Sub a b h k = mod_word (a + (2 ^ 32 - b))
operated_word And a b h k = let l = and_le_l a b in omega arith
operated_word Or a b h k = or_lt 32 a b h k
operated_word Xor a b h k = xor_lt 32 a b h k
operated_word Imul a b h k = mod_word (a * b)

sar_word : (a b : ℕ) → IsWord a → IsWord (word_sar a b)
sar_word a b h = grind (arith, nat_tests, ints)

shifted_word : (how : ShiftKind) (a b : ℕ) → IsWord a → IsWord (shifted how a b)
shifted_word Shl a b h = mod_word (a * 2 ^ (b % 32))
shifted_word Shr a b h = let l = div-le_self a (2 ^ (b % 32)) in omega arith
shifted_word Sar a b h = sar_word a b h

set_word : (t : Bool) → IsWord (if t then 1 else 0)
set_word true = omega arith
set_word false = omega arith

divided_words : (c : Core) (o : Option Division) → AreWords c.regs → ((d : Division) → o ≡ Some d → AreResults d) →
    AreWords (divided o c).regs
divided_words c None h w = h
divided_words c (Some d) h w = let r = w d refl in record {
  eax = r.quotient;
  ecx = h.ecx;
  edx = r.remainder;
  ebx = h.ebx;
  esp = h.esp;
  ebp = h.ebp;
  esi = h.esi;
  edi =
      h.edi;
}

pub words_stay : {S : Type 0} (links : Links S) (i : Instr S) (c : Core) (read : ℕ) → HasWords i → AreWords c.regs →
    IsWord read → AreWords (after (effect_of links i) c read).regs
words_stay links (instr.Mov r from) c read w h v = with_word c.regs _ h (source_word links c read h v from w) r
words_stay links (instr.Store m from) c read w h v = h
words_stay links (instr.Extend how r from) c read w h v =
    with_word c.regs _ h (extended_word how (reg c.regs from) (reg_word c.regs h from)) r
words_stay links (instr.Lea r m) c read w h v = with_word c.regs _ h (mod_word _) r
words_stay links (instr.Operate what r from) c read w h v =
    with_word c.regs _ h (operated_word what (reg c.regs r) (operand_word c (source_operand links from) read)
    (reg_word c.regs h r) (source_word links c read h v from w)) r
words_stay links (instr.Cmp r from) c read w h v = h
words_stay links (instr.CmpMem m n) c read w h v = h
words_stay links (instr.Test r from) c read w h v = h
words_stay links (instr.Neg r) c read w h v = with_word c.regs _ h (mod_word _) r
words_stay links (instr.Not r) c read w h v = with_word c.regs _ h (omega arith) r
words_stay links (instr.Shift how r by) c read w h v =
    with_word c.regs _ h (shifted_word how (reg c.regs r) (operand_word c (count_operand by) read)
    (reg_word c.regs h r)) r
words_stay links instr.Cdq c read w h v =
    record {
      eax = h.eax;
      ecx = h.ecx;
      edx = sar_word c.regs.eax 31 h.eax;
      ebx = h.ebx;
      esp = h.esp;
      ebp = h.ebp;
      esi =
          h.esi;
      edi = h.edi;
    }
words_stay links (instr.Idiv r) c read w h v =
    divided_words c (division_of true c.regs r) h (signed_results c.regs.edx c.regs.eax (reg c.regs r)
    (reg_word c.regs h r))
words_stay links (instr.Div r) c read w h v =
    divided_words c (division_of false c.regs r) h (unsigned_results c.regs.edx c.regs.eax (reg c.regs r)
    (reg_word c.regs h r))
words_stay links (instr.Push r) c read w h v =
    record {
      eax = h.eax;
      ecx = h.ecx;
      edx = h.edx;
      ebx = h.ebx;
      esp = mod_word (c.regs.esp + (2 ^ 32 - 4));
      ebp =
          h.ebp;
      esi = h.esi;
      edi = h.edi;
    }
words_stay links (instr.Pop r) c read w h v =
    with_word _ read
    (record {
      eax = h.eax;
      ecx = h.ecx;
      edx = h.edx;
      ebx = h.ebx;
      esp = mod_word (c.regs.esp + 4);
      ebp =
          h.ebp;
      esi = h.esi;
      edi = h.edi;
    }) v r
words_stay links (instr.Jmp t) c read w h v = h
words_stay links (instr.JumpIf on l) c read w h v = h
words_stay links (instr.Call f) c read w h v =
    record {
      eax = h.eax;
      ecx = h.ecx;
      edx = h.edx;
      ebx = h.ebx;
      esp = mod_word (c.regs.esp + (2 ^ 32 - 4));
      ebp =
          h.ebp;
      esi = h.esi;
      edi = h.edi;
    }
words_stay links instr.Ret c read w h v =
    record {
      eax = h.eax;
      ecx = h.ecx;
      edx = h.edx;
      ebx = h.ebx;
      esp = mod_word (c.regs.esp + 4);
      ebp = h.ebp;
      esi =
          h.esi;
      edi = h.edi;
    }
words_stay links instr.Out c read w h v = h
words_stay links (instr.LockDec m) c read w h v = h
words_stay links (instr.Set on r) c read w h v = with_word c.regs _ h (set_word (holds on c.flags)) r
