-- What is printed before more text is what is printed alone, and then that text.
use Rattle.std.proofs.Common.{◌≡◌, ℕ, List, [], ◌++◌, codes, ap, sym, ◌∙◌, append_assoc}
use Rattle.std.proofs.lemmas.List.{append-nil}
use Rattle.std.specs.Fmt.{decimal, signed_decimal}
use Rattle.std.specs.Prelude.{ℤ}
use Rattle.cas_base.specs.Word.{signed}
use Rattle.cas_asm.specs.declared.instr.Callee.{Callee}
use Rattle.cas_asm.specs.declared.instr.Callee.TheVariants as callee
use Rattle.cas_asm.specs.declared.instr.Count.{Count}
use Rattle.cas_asm.specs.declared.instr.Count.TheVariants as count
use Rattle.cas_asm.specs.declared.instr.Instr.{Instr}
use Rattle.cas_asm.specs.declared.instr.Instr.TheVariants as i
use Rattle.cas_asm.specs.declared.instr.Mem.{Mem}
use Rattle.cas_asm.specs.declared.instr.Source.{Source}
use Rattle.cas_asm.specs.declared.instr.Source.TheVariants as source
use Rattle.cas_asm.specs.declared.instr.Target.{Target}
use Rattle.cas_asm.specs.declared.instr.Target.TheVariants as target
use Rattle.cas_asm.specs.declared.instr.Value.{Value}
use Rattle.cas_asm.specs.declared.instr.Value.TheVariants as value
use Rattle.cas_asm.specs.declared.line.Line.{Line}
use Rattle.cas_asm.specs.declared.line.Line.TheVariants as line
use Rattle.cas_object_print.specs.Instructions.{instr}
use Rattle.cas_object_print.specs.Instructions as print
use Rattle.cas_object_print.specs.Operands as operand
use Rattle.cas_object_print.specs.Page.{integer}
use Rattle.cas_object_print.specs.Words.{register, condition, operation, extension, shift}
use Rattle.cas_object_laws.specs.Formed.{line_text}
use Rattle.cas_object_laws.proofs.Lines.{mem_before}
use Rattle.cas_object_laws.proofs.Spelled.{text-mem}

-- a part that is printed before more text
abbrev Is : (List ℕ → List ℕ) → Type 0
Is part = (rest : List ℕ) → part rest ≡ part [] ++ rest

-- a word, and a part after it
word : (w : List ℕ) → Is (λ rest. w ++ rest)
word w rest = ap (λ (t : List ℕ). t ++ rest) (sym (append-nil w))

pre : (w : List ℕ) (part : List ℕ → List ℕ) → Is part → Is (λ rest. w ++ part rest)
pre w part h rest = ap (λ (t : List ℕ). w ++ t) (h rest) ∙ sym (append_assoc w (part []) rest)

number : (z : ℤ) → Is (integer z)
unfolding integer
number z rest = word (signed_decimal z) rest

place : (m : Mem (List ℕ)) → Is (operand.mem m)
place m rest =
    mem_before m rest ∙ ap (λ (t : List ℕ). t ++ rest) (text-mem m [])

source-before : (s : Source (List ℕ)) → Is (operand.source s)
source-before (source.Reg r) = word (register r)
source-before (source.Num w) = number (signed w)
source-before (source.Mem m) = place m

value-before : (v : Value) → Is (operand.value v)
value-before (value.Reg r) = word (register r)
value-before (value.Num w) = number (signed w)

count-before : (c : Count) → Is (operand.count c)
count-before (count.Fixed n) = word (decimal n)
count-before count.Ecx = word (codes "ecx")

label : (n : ℕ) → Is (operand.label n)
label n = pre (codes ".") (λ rest. decimal n ++ rest) (word (decimal n))

named : (x : List ℕ) → Is (operand.named x)
named x = pre (codes "@") (λ rest. x ++ rest) (word x)

target-before : (t : Target (List ℕ)) → Is (print.target t)
target-before (target.Label n) = label n
target-before (target.Function x) = named x

callee-before : (c : Callee (List ℕ)) → Is (print.callee c)
callee-before callee.Lock = word (codes "lock")
callee-before callee.Unlock = word (codes "unlock")
callee-before (callee.Function x) = named x

-- a mnemonic, a register and a second operand
into : (w t : List ℕ) (part : List ℕ → List ℕ) → Is part →
    Is (λ rest. w ++ (codes " " ++ (t ++ (codes ", " ++ part rest))))
into w t part h =
    pre w (λ rest. codes " " ++ (t ++ (codes ", " ++ part rest)))
    (pre (codes " ") (λ rest. t ++ (codes ", " ++ part rest))
    (pre t (λ rest. codes ", " ++ part rest) (pre (codes ", ") part h)))

-- a mnemonic, a place in memory and a second operand
beside : (w : List ℕ) (m : Mem (List ℕ)) (part : List ℕ → List ℕ) → Is part →
    Is (λ rest. w ++ (codes " " ++ operand.mem m (codes ", " ++ part rest)))
beside w m part h =
    pre w (λ rest. codes " " ++ operand.mem m (codes ", " ++ part rest))
    (pre (codes " ") (λ rest. operand.mem m (codes ", " ++ part rest)) both)
  where
    both : Is (λ rest. operand.mem m (codes ", " ++ part rest))
    both rest =
        place m (codes ", " ++ part rest)
        ∙ (ap (λ (t : List ℕ). operand.mem m [] ++ t) (pre (codes ", ") part h rest)
        ∙ (sym (append_assoc (operand.mem m []) (codes ", " ++ part []) rest)
        ∙ ap (λ (t : List ℕ). t ++ rest) (sym (place m (codes ", " ++ part [])))))

-- a mnemonic and a register
of_register : (w t : List ℕ) → Is (λ rest. w ++ (codes " " ++ (t ++ rest)))
of_register w t =
    pre w (λ rest. codes " " ++ (t ++ rest)) (pre (codes " ") (λ rest. t ++ rest) (word t))

instr-before : (x : Instr (List ℕ)) → Is (instr x)
instr-before (i.Mov r s) = into (codes "mov") (register r) (operand.source s) (source-before s)
instr-before (i.Store m v) = beside (codes "mov") m (operand.value v) (value-before v)
instr-before (i.Extend how r s) = into (extension how) (register r) (λ rest. register s ++ rest) (word (register s))
instr-before (i.Lea r m) = into (codes "lea") (register r) (operand.mem m) (place m)
instr-before (i.Operate what r s) = into (operation what) (register r) (operand.source s) (source-before s)
instr-before (i.Cmp r s) = into (codes "cmp") (register r) (operand.source s) (source-before s)
instr-before (i.CmpMem m w) = beside (codes "cmp") m (operand.word w) (number (signed w))
instr-before (i.Test r v) = into (codes "test") (register r) (operand.value v) (value-before v)
instr-before (i.Neg r) = of_register (codes "neg") (register r)
instr-before (i.Not r) = of_register (codes "not") (register r)
instr-before (i.Shift how r by) = into (shift how) (register r) (operand.count by) (count-before by)
instr-before i.Cdq = word (codes "cdq")
instr-before (i.Idiv r) = of_register (codes "idiv") (register r)
instr-before (i.Div r) = of_register (codes "div") (register r)
instr-before (i.Push r) = of_register (codes "push") (register r)
instr-before (i.Pop r) = of_register (codes "pop") (register r)
instr-before (i.Jmp t) = pre (codes "jmp ") (print.target t) (target-before t)
instr-before (i.JumpIf on n) =
    pre (codes "j") (λ rest. condition on ++ (codes " " ++ operand.label n rest))
    (pre (condition on) (λ rest. codes " " ++ operand.label n rest) (pre (codes " ") (operand.label n) (label n)))
instr-before (i.Call c) = pre (codes "call ") (print.callee c) (callee-before c)
instr-before i.Ret = word (codes "ret")
instr-before i.Out = word (codes "out eax")
instr-before (i.LockDec m) = pre (codes "lockdec ") (operand.mem m) (place m)
instr-before (i.Set on r) =
    pre (codes "set ") (λ rest. condition on ++ (codes ", " ++ (register r ++ rest)))
    (pre (condition on) (λ rest. codes ", " ++ (register r ++ rest))
    (pre (codes ", ") (λ rest. register r ++ rest) (word (register r))))

pub word-before : (w : ℕ) (rest : List ℕ) → operand.word w rest ≡ operand.word w [] ++ rest
word-before w rest = number (signed w) rest

-- a line with its line feed
pub line-before : (l : Line) (rest : List ℕ) → print.line l rest ≡ line_text l ++ (codes "\n" ++ rest)
line-before (line.Label n) rest = label n (codes "\n" ++ rest)
line-before (line.Run x) rest = instr-before x (codes "\n" ++ rest)
