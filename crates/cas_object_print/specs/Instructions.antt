-- The text of instructions and labels. Each function puts the text before `rest`.
use Rattle.std.specs.Prelude.{ℕ, List, ◌∷◌, ◌++◌, codes}
use Rattle.cas_base.specs.declared.reg.Reg.{Reg}
use Rattle.cas_asm.specs.declared.instr.Callee.{Callee}
use Rattle.cas_asm.specs.declared.instr.Callee.TheVariants.{Lock, Unlock, Function as ToFunction}
use Rattle.cas_asm.specs.declared.instr.Instr.{Instr}
use Rattle.cas_asm.specs.declared.instr.Instr.TheVariants.{Mov, Store, Extend, Lea, Operate, Cmp, CmpMem, Test, Neg, Not, Shift, Cdq, Idiv, Div, Push, Pop, Jmp, JumpIf, Call, Ret, Out, LockDec, Set}
use Rattle.cas_asm.specs.declared.instr.Mem.{Mem}
use Rattle.cas_asm.specs.declared.instr.Target.{Target}
use Rattle.cas_asm.specs.declared.instr.Target.TheVariants as to
use Rattle.cas_asm.specs.declared.line.Line.{Line}
use Rattle.cas_asm.specs.declared.line.Line.TheVariants.{Label, Run}
use Rattle.cas_object_print.specs.Operands.{named, mem, word, value, source, count, label}
use Rattle.cas_object_print.specs.Words.{register, condition, operation, extension, shift}

-- a mnemonic and a register
abbrev pub of_register : (mnemonic : List ℕ) → Reg → List ℕ → List ℕ
of_register mnemonic reg rest = mnemonic ++ (codes " " ++ (register reg ++ rest))

-- a mnemonic, a register and what is before a second operand
abbrev pub into_register : (mnemonic : List ℕ) → Reg → List ℕ → List ℕ
into_register mnemonic reg rest = of_register mnemonic reg (codes ", " ++ rest)

-- a mnemonic and two registers
abbrev pub two_registers : (mnemonic : List ℕ) → Reg → Reg → List ℕ → List ℕ
two_registers mnemonic reg from rest = into_register mnemonic reg (register from ++ rest)

-- a mnemonic, a place in memory and what is before a second operand
abbrev pub into_memory : (mnemonic : List ℕ) → Mem (List ℕ) → List ℕ → List ℕ
into_memory mnemonic place rest = mnemonic ++ (codes " " ++ mem place (codes ", " ++ rest))

abbrev pub target : Target (List ℕ) → List ℕ → List ℕ
target (to.Label n) rest = label n rest
target (to.Function name) rest = named name rest

abbrev pub callee : Callee (List ℕ) → List ℕ → List ℕ
callee Lock rest = codes "lock" ++ rest
callee Unlock rest = codes "unlock" ++ rest
callee (ToFunction name) rest = named name rest

-- an instruction
abbrev pub instr : Instr (List ℕ) → List ℕ → List ℕ
instr (Mov reg from) rest = into_register (codes "mov") reg (source from rest)
instr (Store place from) rest = into_memory (codes "mov") place (value from rest)
instr (Extend how reg from) rest = two_registers (extension how) reg from rest
instr (Lea reg from) rest = into_register (codes "lea") reg (mem from rest)
instr (Operate what reg from) rest = into_register (operation what) reg (source from rest)
instr (Cmp reg with) rest = into_register (codes "cmp") reg (source with rest)
instr (CmpMem place w) rest = into_memory (codes "cmp") place (word w rest)
instr (Test reg with) rest = into_register (codes "test") reg (value with rest)
instr (Neg reg) rest = of_register (codes "neg") reg rest
instr (Not reg) rest = of_register (codes "not") reg rest
instr (Shift how reg by) rest = into_register (shift how) reg (count by rest)
instr Cdq rest = codes "cdq" ++ rest
instr (Idiv reg) rest = of_register (codes "idiv") reg rest
instr (Div reg) rest = of_register (codes "div") reg rest
instr (Push reg) rest = of_register (codes "push") reg rest
instr (Pop reg) rest = of_register (codes "pop") reg rest
instr (Jmp where_) rest = codes "jmp " ++ target where_ rest
instr (JumpIf on n) rest = codes "j" ++ (condition on ++ (codes " " ++ label n rest))
instr (Call whom) rest = codes "call " ++ callee whom rest
instr Ret rest = codes "ret" ++ rest
instr Out rest = codes "out eax" ++ rest
instr (LockDec place) rest = codes "lockdec " ++ mem place rest
instr (Set on reg) rest = codes "set " ++ (condition on ++ (codes ", " ++ (register reg ++ rest)))

-- a line of a function
abbrev pub line : Line → List ℕ → List ℕ
line (Label n) rest = label n (codes "\n" ++ rest)
line (Run i) rest = instr i (codes "\n" ++ rest)
