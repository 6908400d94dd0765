-- Instructions whose symbols and labels are resolved to addresses and places.
use Rattle.std.specs.Prelude.{ℕ, ◌≡◌}
use Rattle.std.specs.Option.{option_map}
use Rattle.cas_asm.specs.declared.instr.Mem.{Mem}
use Rattle.cas_asm.specs.declared.instr.Source.{Source}
use Rattle.cas_asm.specs.declared.instr.Source.TheVariants as source
use Rattle.cas_asm.specs.declared.instr.Target.{Target}
use Rattle.cas_asm.specs.declared.instr.Target.TheVariants as target
use Rattle.cas_asm.specs.declared.instr.Callee.{Callee}
use Rattle.cas_asm.specs.declared.instr.Callee.TheVariants as callee
use Rattle.cas_asm.specs.declared.instr.Instr.{Instr}
use Rattle.cas_asm.specs.declared.instr.Instr.TheVariants as instr
use Rattle.cas_asm.specs.Links.{Links, in_image}

module _ {S : Type 0} (links : Links S) where
  abbrev pub resolved_mem : Mem S → Mem ℕ
  resolved_mem m = record { sym = option_map links.address m.sym; base = m.base; index = m.index; disp = m.disp }

  abbrev pub resolved_source : Source S → Source ℕ
  resolved_source (source.Reg r) = source.Reg r
  resolved_source (source.Num n) = source.Num n
  resolved_source (source.Mem m) = source.Mem (resolved_mem m)

  abbrev pub resolved_target : Target S → Target ℕ
  resolved_target (target.Label l) = target.Label (links.label l)
  resolved_target (target.Function f) = target.Function (links.entry f)

  abbrev pub resolved_callee : Callee S → Callee ℕ
  resolved_callee callee.Lock = callee.Lock
  resolved_callee callee.Unlock = callee.Unlock
  resolved_callee (callee.Function f) = callee.Function (links.entry f)

  -- the instruction with addresses and places
  abbrev pub resolved : Instr S → Instr ℕ
  resolved (instr.Mov r from) = instr.Mov r (resolved_source from)
  resolved (instr.Store m from) = instr.Store (resolved_mem m) from
  resolved (instr.Extend how r from) = instr.Extend how r from
  resolved (instr.Lea r m) = instr.Lea r (resolved_mem m)
  resolved (instr.Operate what r from) = instr.Operate what r (resolved_source from)
  resolved (instr.Cmp r from) = instr.Cmp r (resolved_source from)
  resolved (instr.CmpMem m n) = instr.CmpMem (resolved_mem m) n
  resolved (instr.Test r from) = instr.Test r from
  resolved (instr.Neg r) = instr.Neg r
  resolved (instr.Not r) = instr.Not r
  resolved (instr.Shift how r by) = instr.Shift how r by
  resolved instr.Cdq = instr.Cdq
  resolved (instr.Idiv r) = instr.Idiv r
  resolved (instr.Div r) = instr.Div r
  resolved (instr.Push r) = instr.Push r
  resolved (instr.Pop r) = instr.Pop r
  resolved (instr.Jmp t) = instr.Jmp (resolved_target t)
  resolved (instr.JumpIf on l) = instr.JumpIf on (links.label l)
  resolved (instr.Call f) = instr.Call (resolved_callee f)
  resolved instr.Ret = instr.Ret
  resolved instr.Out = instr.Out
  resolved (instr.LockDec m) = instr.LockDec (resolved_mem m)
  resolved (instr.Set on r) = instr.Set on r

-- the lock object is where each image has it
abbrev pub StandsFirst : {S : Type 0} → Links S → Type 0
StandsFirst links = (links.lock ≡ in_image.lock) × (links.unlock ≡ in_image.unlock)
