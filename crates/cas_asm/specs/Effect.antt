-- The table of instructions: what each does, as a row of data. This is the one definition of their effects.
use Rattle.std.specs.Prelude.{ℕ, true, false, Option, Some, None}
use Rattle.std.specs.Int.{cast_unsigned, w32}
use Rattle.cas_base.specs.Word.{word_add}
use Rattle.cas_base.specs.declared.reg.Reg.TheVariants.{Eax, Ecx, Edx}
use Rattle.cas_asm.specs.declared.instr.Mem.{Mem}
use Rattle.cas_asm.specs.declared.instr.Value.{Value}
use Rattle.cas_asm.specs.declared.instr.Value.TheVariants as value
use Rattle.cas_asm.specs.declared.instr.Source.{Source}
use Rattle.cas_asm.specs.declared.instr.Source.TheVariants as source
use Rattle.cas_asm.specs.declared.instr.Operation.{Operation}
use Rattle.cas_asm.specs.declared.instr.Operation.TheVariants.{Add, Sub, And, Or, Xor, Imul}
use Rattle.cas_asm.specs.declared.instr.ShiftKind.TheVariants.{Sar}
use Rattle.cas_asm.specs.declared.instr.Count.{Count}
use Rattle.cas_asm.specs.declared.instr.Count.TheVariants as count
use Rattle.cas_asm.specs.declared.instr.Target.{Target}
use Rattle.cas_asm.specs.declared.instr.Target.TheVariants as target
use Rattle.cas_asm.specs.declared.instr.Callee.{Callee}
use Rattle.cas_asm.specs.declared.instr.Callee.TheVariants as callee
use Rattle.cas_asm.specs.declared.instr.Instr.{Instr}
use Rattle.cas_asm.specs.declared.instr.Instr.TheVariants as instr
use Rattle.cas_asm.specs.declared.effect.Location.{Location}
use Rattle.cas_asm.specs.declared.effect.Operand.{Operand}
use Rattle.cas_asm.specs.declared.effect.Operand.TheVariants as operand
use Rattle.cas_asm.specs.declared.effect.Operator.{Operator}
use Rattle.cas_asm.specs.declared.effect.Operator.TheVariants.{Copies, Extends, Complements, Operates, Shifts, Tests}
use Rattle.cas_asm.specs.declared.effect.FlagRule.{FlagRule}
use Rattle.cas_asm.specs.declared.effect.FlagRule.TheVariants.{Kept, Cleared, OfSum, OfDifference, OfLogic, OfDecrement}
use Rattle.cas_asm.specs.declared.effect.Destination.{Destination}
use Rattle.cas_asm.specs.declared.effect.Destination.TheVariants as to
use Rattle.cas_asm.specs.declared.effect.Next.{Next}
use Rattle.cas_asm.specs.declared.effect.Next.TheVariants as next
use Rattle.cas_asm.specs.declared.effect.Effect.{Effect}
use Rattle.cas_asm.specs.declared.effect.Effect.TheVariants.{Computes, Divides}
use Rattle.cas_asm.specs.Links.{Links}

module _ {S : Type 0} (links : Links S) where
  -- the word of a memory operand: its displacement, with the symbol's address
  abbrev pub word_of_mem : Option S → (disp : ℕ) → ℕ
  word_of_mem None disp = disp
  word_of_mem (Some s) disp = word_add (links.address s) disp

  -- a memory operand as an address
  abbrev pub location_of : Mem S → Location
  location_of m = record { word = word_of_mem m.sym (cast_unsigned w32 m.disp); base = m.base; index = m.index }

  -- a source as an operand
  abbrev pub source_operand : Source S → Operand
  source_operand (source.Reg r) = operand.Register r
  source_operand (source.Num n) = operand.Number n
  source_operand (source.Mem m) = operand.Memory (location_of m)

  -- where `jmp` goes
  abbrev pub target_place : Target S → ℕ
  target_place (target.Label l) = links.label l
  target_place (target.Function f) = links.entry f

  -- where `call` goes
  abbrev pub callee_place : Callee S → ℕ
  callee_place callee.Lock = links.lock
  callee_place callee.Unlock = links.unlock
  callee_place (callee.Function f) = links.entry f

-- a value as an operand
abbrev pub value_operand : Value → Operand
value_operand (value.Reg r) = operand.Register r
value_operand (value.Num n) = operand.Number n

-- a count as an operand
abbrev pub count_operand : Count → Operand
count_operand (count.Fixed n) = operand.Number n
count_operand count.Ecx = operand.Register Ecx

-- the flags of an operation
abbrev pub flags_of_operation : Operation → FlagRule
flags_of_operation Add = OfSum
flags_of_operation Sub = OfDifference
flags_of_operation And = OfLogic
flags_of_operation Or = OfLogic
flags_of_operation Xor = OfLogic
flags_of_operation Imul = Cleared

-- a row with two operands; the code goes on at the next instruction
abbrev pub computes : Operator → (left right : Operand) → FlagRule → Destination → Effect
computes operator left right flags to =
    Computes (record {
      left = left;
      right = right;
      operator = operator;
      flags = flags;
      pops = false;
      to = to;
      next =
          next.Following;
    })

-- a row that copies its one operand and keeps the flags
abbrev pub copies : (from : Operand) → Destination → Next → Effect
copies from to next =
    Computes (record {
      left = operand.Number 0;
      right = from;
      operator = Copies;
      flags = Kept;
      pops = false;
      to =
          to;
      next = next;
    })

-- a row that takes the word at the top of the stack off and keeps the flags
abbrev pub pops : Destination → Next → Effect
pops to next =
    Computes (record {
      left = operand.Number 0;
      right = operand.Top;
      operator = Copies;
      flags = Kept;
      pops = true;
      to =
          to;
      next = next;
    })

-- a row that only goes on somewhere
abbrev pub goes : Next → Effect
goes next = copies (operand.Number 0) to.Nowhere next

-- the row of an instruction
abbrev pub effect_of : {S : Type 0} → Links S → Instr S → Effect
effect_of links (instr.Mov r from) = copies (source_operand links from) (to.Register r) next.Following
effect_of links (instr.Store m from) = copies (value_operand from) (to.Memory (location_of links m)) next.Following
effect_of links (instr.Extend how r from) = computes (Extends how) (operand.Number 0) (operand.Register from) Kept
    (to.Register r)
effect_of links (instr.Lea r m) = copies (operand.Address (location_of links m)) (to.Register r) next.Following
effect_of links (instr.Operate what r from) =
    computes (Operates what) (operand.Register r) (source_operand links from) (flags_of_operation what) (to.Register r)
effect_of links (instr.Cmp r from) = computes (Operates Sub) (operand.Register r) (source_operand links from)
    OfDifference to.Nowhere
effect_of links (instr.CmpMem m n) = computes (Operates Sub) (operand.Memory (location_of links m)) (operand.Number n)
    OfDifference to.Nowhere
effect_of links (instr.Test r from) = computes (Operates And) (operand.Register r) (value_operand from)
    OfLogic to.Nowhere
effect_of links (instr.Neg r) = computes (Operates Sub) (operand.Number 0) (operand.Register r) OfDifference
    (to.Register r)
effect_of links (instr.Not r) = computes Complements (operand.Number 0) (operand.Register r) Kept (to.Register r)
effect_of links (instr.Shift how r by) = computes (Shifts how) (operand.Register r) (count_operand by) Cleared
    (to.Register r)
effect_of links instr.Cdq = computes (Shifts Sar) (operand.Register Eax) (operand.Number 31) Kept (to.Register Edx)
effect_of links (instr.Idiv r) = Divides true r
effect_of links (instr.Div r) = Divides false r
effect_of links (instr.Push r) = copies (operand.Register r) to.Pushed next.Following
effect_of links (instr.Pop r) = pops (to.Register r) next.Following
effect_of links (instr.Jmp t) = goes (next.To (target_place links t))
effect_of links (instr.JumpIf on l) = goes (next.ToIf on (links.label l))
effect_of links (instr.Call f) = copies operand.NextPlace to.Pushed (next.To (callee_place links f))
effect_of links instr.Ret = pops to.Nowhere next.ToResult
effect_of links instr.Out = copies (operand.Register Eax) to.Output next.Following
effect_of links (instr.LockDec m) =
    computes (Operates Sub) (operand.Memory (location_of links m)) (operand.Number 1) OfDecrement
    (to.Locked (location_of links m))
effect_of links (instr.Set on r) = computes (Tests on) (operand.Number 0) (operand.Number 0) Kept (to.Register r)
