-- Which lines of functions an objects text can hold: their numbers are in their ranges, and their memory operands have
-- one
-- spelling.
use Rattle.std.specs.Prelude.{ℕ, ◌≡◌, ◌<◌, ◌^◌, ℤ, pos, negsuc, Bool, true, false, List, [], Option, Some, None}
use Rattle.cas_base.specs.Name.{is_name}
use Rattle.cas_base.specs.declared.reg.Reg.{Reg}
use Rattle.cas_base.specs.declared.reg.Reg.TheVariants.{Esp}
use Rattle.cas_asm.specs.declared.instr.Callee.TheVariants as callee
use Rattle.cas_asm.specs.declared.instr.Count.{Count}
use Rattle.cas_asm.specs.declared.instr.Count.TheVariants.{Fixed, Ecx}
use Rattle.cas_asm.specs.declared.instr.Instr.{Instr}
use Rattle.cas_asm.specs.declared.instr.Instr.TheVariants.{Mov, Store, Lea, Operate, Cmp, CmpMem, Test, Shift, Jmp, JumpIf, Call, LockDec}
use Rattle.cas_asm.specs.declared.instr.Mem.{Mem}
use Rattle.cas_asm.specs.declared.instr.Source.{Source}
use Rattle.cas_asm.specs.declared.instr.Source.TheVariants as source
use Rattle.cas_asm.specs.declared.instr.Target.TheVariants as target
use Rattle.cas_asm.specs.declared.instr.Value.{Value}
use Rattle.cas_asm.specs.declared.instr.Value.TheVariants as value
use Rattle.cas_asm.specs.declared.line.Line.{Line}
use Rattle.cas_asm.specs.declared.line.Line.TheVariants.{Label, Run}
use Rattle.cas_object_print.specs.Instructions.{instr}
use Rattle.cas_object_print.specs.Operands.{label, is_there}

-- the text of a line, without its line feed
abbrev pub line_text : Line → List ℕ
line_text (Label n) = label n []
line_text (Run i) = instr i []

-- a symbol, if there is one, is a name
abbrev pub IsFormedSymbol : Option (List ℕ) → Type 0
IsFormedSymbol None = Unit
IsFormedSymbol (Some x) = is_name x ≡ true

abbrev pub is_esp : Reg → Bool
is_esp Esp = true
is_esp _ = false

-- an index isn't esp, and is scaled by 1 only beside a base
abbrev pub IsFormedIndex : Option Reg → Option (Reg × Bool) → Type 0
IsFormedIndex base None = Unit
IsFormedIndex base (Some index) = (is_esp index.0 ≡ false) × (index.1 ≡ false → is_there base ≡ true)

-- from -2147483648 to 2147483647
abbrev pub IsFormedInteger : ℤ → Type 0
IsFormedInteger (pos n) = n < 2 ^ 31
IsFormedInteger (negsuc n) = n < 2 ^ 31

abbrev pub IsFormedMem : Mem (List ℕ) → Type 0
IsFormedMem m = IsFormedSymbol m.sym × IsFormedIndex m.base m.index × IsFormedInteger m.disp

abbrev pub IsFormedValue : Value → Type 0
IsFormedValue (value.Reg r) = Unit
IsFormedValue (value.Num w) = w < 2 ^ 32

abbrev pub IsFormedSource : Source (List ℕ) → Type 0
IsFormedSource (source.Reg r) = Unit
IsFormedSource (source.Num w) = w < 2 ^ 32
IsFormedSource (source.Mem m) = IsFormedMem m

abbrev pub IsFormedCount : Count → Type 0
IsFormedCount (Fixed n) = n < 32
IsFormedCount Ecx = Unit

abbrev pub IsFormedInstr : Instr (List ℕ) → Type 0
IsFormedInstr (Mov r from) = IsFormedSource from
IsFormedInstr (Store m from) = IsFormedMem m × IsFormedValue from
IsFormedInstr (Lea r m) = IsFormedMem m
IsFormedInstr (Operate what r from) = IsFormedSource from
IsFormedInstr (Cmp r from) = IsFormedSource from
IsFormedInstr (CmpMem m w) = IsFormedMem m × (w < 2 ^ 32)
IsFormedInstr (Test r with) = IsFormedValue with
IsFormedInstr (Shift how r by) = IsFormedCount by
IsFormedInstr (Jmp (target.Label n)) = n < 2 ^ 32
IsFormedInstr (Jmp (target.Function x)) = is_name x ≡ true
IsFormedInstr (JumpIf on n) = n < 2 ^ 32
IsFormedInstr (Call (callee.Function x)) = is_name x ≡ true
IsFormedInstr (LockDec m) = IsFormedMem m
IsFormedInstr _ = Unit

-- a line that an objects text can hold
abbrev pub IsFormed : Line → Type 0
IsFormed (Label n) = n < 2 ^ 32
IsFormed (Run i) = IsFormedInstr i
