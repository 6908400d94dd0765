-- Resolving an instruction keeps its effect.
use Rattle.std.proofs.Common.{◌≡◌, ℕ, Option, Some, None, refl, sym, ap}
use Rattle.std.specs.Option.{option_map}
use Rattle.std.specs.Int.{cast_unsigned, w32}
use Rattle.cas_asm.specs.declared.instr.Mem.{Mem}
use Rattle.cas_asm.specs.declared.instr.Source.{Source}
use Rattle.cas_asm.specs.declared.instr.Source.TheVariants as source
use Rattle.cas_asm.specs.declared.instr.Target.{Target}
use Rattle.cas_asm.specs.declared.instr.Target.TheVariants as target
use Rattle.cas_asm.specs.declared.instr.Callee.{Callee}
use Rattle.cas_asm.specs.declared.instr.Callee.TheVariants as callee
use Rattle.cas_asm.specs.declared.instr.Instr.{Instr}
use Rattle.cas_asm.specs.declared.instr.Instr.TheVariants as instr
use Rattle.cas_asm.specs.declared.effect.Location.{Location}
use Rattle.cas_asm.specs.declared.effect.Operand.{Operand}
use Rattle.cas_asm.specs.declared.effect.Operand.TheVariants as operand
use Rattle.cas_asm.specs.declared.effect.Operator.TheVariants.{Operates}
use Rattle.cas_asm.specs.declared.instr.Operation.TheVariants.{Sub}
use Rattle.cas_asm.specs.declared.effect.FlagRule.TheVariants.{OfDifference, OfDecrement}
use Rattle.cas_asm.specs.declared.effect.Destination.TheVariants as to
use Rattle.cas_asm.specs.declared.effect.Next.TheVariants as next
use Rattle.cas_asm.specs.Links.{Links, in_image}
use Rattle.cas_asm.specs.Effect.{effect_of, word_of_mem, location_of, source_operand, value_operand, target_place, callee_place, flags_of_operation, computes, copies, goes}
use Rattle.cas_asm.specs.Resolve.{StandsFirst, resolved, resolved_mem, resolved_source, resolved_target, resolved_callee}

module _ {S : Type 0} (links : Links S) where
  word_same : (sym : Option S) (disp : ℕ) → word_of_mem in_image (option_map links.address sym)
      disp ≡ word_of_mem links sym disp
  word_same None disp = refl
  word_same (Some s) disp = refl

  location_same : (m : Mem S) → location_of in_image (resolved_mem links m) ≡ location_of links m
  location_same m =
      ap (λ (w : ℕ). let l : Location = record { word = w; base = m.base; index = m.index } in l)
      (word_same m.sym (cast_unsigned w32 m.disp))

  source_same : (from : Source S) → source_operand in_image (resolved_source links from) ≡ source_operand links from
  source_same (source.Reg r) = refl
  source_same (source.Num n) = refl
  source_same (source.Mem m) = ap (λ (l : Location). operand.Memory l) (location_same m)

  target_same : (t : Target S) → target_place in_image (resolved_target links t) ≡ target_place links t
  target_same (target.Label l) = refl
  target_same (target.Function f) = refl

  callee_same : StandsFirst links → (f : Callee S) → callee_place in_image (resolved_callee links f)
      ≡ callee_place links f
  callee_same h callee.Lock = sym h.0
  callee_same h callee.Unlock = sym h.1
  callee_same h (callee.Function f) = refl

  pub resolving_keeps_effects : StandsFirst links → (i : Instr S) →
      effect_of in_image (resolved links i) ≡ effect_of links i
  resolving_keeps_effects h (instr.Mov r from) = ap (λ (o : Operand). copies o (to.Register r) next.Following)
      (source_same from)
  resolving_keeps_effects h (instr.Store m from) =
      ap (λ (l : Location). copies (value_operand from) (to.Memory l) next.Following) (location_same m)
  resolving_keeps_effects h (instr.Extend how r from) = refl
  resolving_keeps_effects h (instr.Lea r m) =
      ap (λ (l : Location). copies (operand.Address l) (to.Register r) next.Following) (location_same m)
  resolving_keeps_effects h (instr.Operate what r from) =
      ap (λ (o : Operand). computes (Operates what) (operand.Register r) o (flags_of_operation what) (to.Register r))
      (source_same from)
  resolving_keeps_effects h (instr.Cmp r from) =
      ap (λ (o : Operand). computes (Operates Sub) (operand.Register r) o OfDifference to.Nowhere) (source_same from)
  resolving_keeps_effects h (instr.CmpMem m n) =
      ap (λ (l : Location). computes (Operates Sub) (operand.Memory l) (operand.Number n) OfDifference to.Nowhere)
      (location_same m)
  resolving_keeps_effects h (instr.Test r from) = refl
  resolving_keeps_effects h (instr.Neg r) = refl
  resolving_keeps_effects h (instr.Not r) = refl
  resolving_keeps_effects h (instr.Shift how r by) = refl
  resolving_keeps_effects h instr.Cdq = refl
  resolving_keeps_effects h (instr.Idiv r) = refl
  resolving_keeps_effects h (instr.Div r) = refl
  resolving_keeps_effects h (instr.Push r) = refl
  resolving_keeps_effects h (instr.Pop r) = refl
  resolving_keeps_effects h (instr.Jmp t) = ap (λ (p : ℕ). goes (next.To p)) (target_same t)
  resolving_keeps_effects h (instr.JumpIf on l) = refl
  resolving_keeps_effects h (instr.Call f) = ap (λ (p : ℕ). copies operand.NextPlace to.Pushed (next.To p))
      (callee_same h f)
  resolving_keeps_effects h instr.Ret = refl
  resolving_keeps_effects h instr.Out = refl
  resolving_keeps_effects h (instr.LockDec m) =
      ap (λ (l : Location). computes (Operates Sub) (operand.Memory l) (operand.Number 1) OfDecrement (to.Locked l))
      (location_same m)
  resolving_keeps_effects h (instr.Set on r) = refl
