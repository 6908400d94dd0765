-- The pieces of operands, instructions and lines as they are printed, and the text that they spell.
use Rattle.std.proofs.Common.{◌≡◌, ℕ, cond, List, [], ◌∷◌, ◌++◌, codes, refl, ap, sym, ◌∙◌}
use Rattle.std.proofs.lemmas.List.{append-nil}
use Rattle.std.specs.Fmt.{decimal}
use Rattle.cas_base.specs.Word.{signed}
use Rattle.cas_base.specs.declared.reg.Reg.{Reg}
use Rattle.cas_asm.specs.declared.cond.Cond.{Cond}
use Rattle.cas_asm.specs.declared.cond.Cond.TheVariants.{O, No, B, Ae, E, Ne, Be, A, S, Ns, P, Np, L, Ge, Le, G}
use Rattle.cas_asm.specs.declared.instr.Callee.{Callee}
use Rattle.cas_asm.specs.declared.instr.Callee.TheVariants as callee
use Rattle.cas_asm.specs.declared.instr.Count.{Count}
use Rattle.cas_asm.specs.declared.instr.Count.TheVariants as count
use Rattle.cas_asm.specs.declared.instr.Instr.{Instr}
use Rattle.cas_asm.specs.declared.instr.Instr.TheVariants as i
use Rattle.cas_asm.specs.declared.instr.Mem.{Mem}
use Rattle.cas_asm.specs.declared.instr.Source.{Source}
use Rattle.cas_asm.specs.declared.instr.Source.TheVariants as source
use Rattle.cas_asm.specs.declared.instr.Target.{Target}
use Rattle.cas_asm.specs.declared.instr.Target.TheVariants as target
use Rattle.cas_asm.specs.declared.instr.Value.{Value}
use Rattle.cas_asm.specs.declared.instr.Value.TheVariants as value
use Rattle.cas_asm.specs.declared.line.Line.{Line}
use Rattle.cas_asm.specs.declared.line.Line.TheVariants as line
use Rattle.cas_pieces.specs.declared.piece.Mark.TheVariants.{Space, At, Dot, Minus, Open}
use Rattle.cas_pieces.specs.declared.piece.Piece.{Piece}
use Rattle.cas_pieces.specs.declared.piece.Piece.TheVariants.{Word, Mark}
use Rattle.cas_pieces.specs.Pieces.{text}
use Rattle.cas_object_line.specs.declared.operand.Numeral.{Numeral}
use Rattle.cas_object_line.specs.declared.operand.Operand.{Operand}
use Rattle.cas_object_line.specs.declared.operand.Operand.TheVariants as operand
use Rattle.cas_object_print.specs.Instructions.{instr}
use Rattle.cas_object_print.specs.Operands as print
use Rattle.cas_object_print.specs.Words.{register, condition, operation, extension, shift}
use Rattle.cas_object_laws.specs.Formed.{line_text}
use Rattle.cas_object_laws.proofs.Lines.{mem_before}
use Rattle.cas_object_laws.proofs.Sequences.{one_pieces, two_pieces, text-two}
use Rattle.cas_object_laws.proofs.Spelled.{integer_pieces, mem_pieces, text-integer, text-mem}
use Rattle.cas_object_spelling.proofs.Numbers.{IsSigned}
use Rattle.cas_object_spelling.proofs.Places.{address_pieces, IsEnded}

abbrev pub alone : List ℕ → List Piece
alone w = Word w ∷ []

abbrev pub of_register : Reg → List Piece
of_register r = alone (register r)

abbrev pub numeral_pieces : Numeral → List Piece
numeral_pieces n = cond n.negative (Mark Minus ∷ Word n.digits ∷ []) (Word n.digits ∷ [])

-- the pieces of an operand
abbrev pub operand_pieces : Operand → List Piece
operand_pieces (operand.Reg r) = of_register r
operand_pieces (operand.Number n) = numeral_pieces n
operand_pieces (operand.Label digits) = Mark Dot ∷ Word digits ∷ []
operand_pieces (operand.Symbol x) = Mark At ∷ Word x ∷ []
operand_pieces (operand.Memory a) = Mark Open ∷ address_pieces a
operand_pieces (operand.Word x) = alone x

-- its numbers have one spelling
abbrev pub IsRightOperand : Operand → Type 0
IsRightOperand (operand.Number n) = IsSigned n
IsRightOperand (operand.Memory a) = IsEnded a
IsRightOperand _ = Unit {0}

abbrev pub label_pieces : ℕ → List Piece
label_pieces n = Mark Dot ∷ Word (decimal n) ∷ []

abbrev pub symbol : List ℕ → List Piece
symbol x = Mark At ∷ Word x ∷ []

abbrev pub value_pieces : Value → List Piece
value_pieces (value.Reg r) = of_register r
value_pieces (value.Num w) = integer_pieces (signed w) []

abbrev pub source_pieces : Source (List ℕ) → List Piece
source_pieces (source.Reg r) = of_register r
source_pieces (source.Num w) = integer_pieces (signed w) []
source_pieces (source.Mem m) = mem_pieces m []

abbrev pub count_pieces : Count → List Piece
count_pieces (count.Fixed n) = alone (decimal n)
count_pieces count.Ecx = alone (codes "ecx")

abbrev pub target_pieces : Target (List ℕ) → List Piece
target_pieces (target.Label n) = label_pieces n
target_pieces (target.Function x) = symbol x

abbrev pub callee_pieces : Callee (List ℕ) → List Piece
callee_pieces callee.Lock = alone (codes "lock")
callee_pieces callee.Unlock = alone (codes "unlock")
callee_pieces (callee.Function x) = symbol x

-- the pieces of an instruction
abbrev pub instr_pieces : Instr (List ℕ) → List Piece
instr_pieces (i.Mov r s) = two_pieces (codes "mov") (of_register r) (source_pieces s)
instr_pieces (i.Store m v) = two_pieces (codes "mov") (mem_pieces m []) (value_pieces v)
instr_pieces (i.Extend how r s) = two_pieces (extension how) (of_register r) (of_register s)
instr_pieces (i.Lea r m) = two_pieces (codes "lea") (of_register r) (mem_pieces m [])
instr_pieces (i.Operate what r s) = two_pieces (operation what) (of_register r) (source_pieces s)
instr_pieces (i.Cmp r s) = two_pieces (codes "cmp") (of_register r) (source_pieces s)
instr_pieces (i.CmpMem m w) = two_pieces (codes "cmp") (mem_pieces m []) (integer_pieces (signed w) [])
instr_pieces (i.Test r v) = two_pieces (codes "test") (of_register r) (value_pieces v)
instr_pieces (i.Neg r) = one_pieces (codes "neg") (of_register r)
instr_pieces (i.Not r) = one_pieces (codes "not") (of_register r)
instr_pieces (i.Shift how r by) = two_pieces (shift how) (of_register r) (count_pieces by)
instr_pieces i.Cdq = alone (codes "cdq")
instr_pieces (i.Idiv r) = one_pieces (codes "idiv") (of_register r)
instr_pieces (i.Div r) = one_pieces (codes "div") (of_register r)
instr_pieces (i.Push r) = one_pieces (codes "push") (of_register r)
instr_pieces (i.Pop r) = one_pieces (codes "pop") (of_register r)
instr_pieces (i.Jmp t) = one_pieces (codes "jmp") (target_pieces t)
instr_pieces (i.JumpIf on n) = one_pieces (codes "j" ++ condition on) (label_pieces n)
instr_pieces (i.Call c) = one_pieces (codes "call") (callee_pieces c)
instr_pieces i.Ret = alone (codes "ret")
instr_pieces i.Out = one_pieces (codes "out") (alone (codes "eax"))
instr_pieces (i.LockDec m) = one_pieces (codes "lockdec") (mem_pieces m [])
instr_pieces (i.Set on r) = two_pieces (codes "set") (alone (condition on)) (of_register r)

-- the pieces of a line of a function
abbrev pub line_pieces : Line → List Piece
line_pieces (line.Label n) = label_pieces n
line_pieces (line.Run x) = instr_pieces x

-- The text that they spell.

text-source : (s : Source (List ℕ)) → text (source_pieces s) ≡ print.source s []
text-source (source.Reg r) = refl
text-source (source.Num w) = text-integer (signed w) []
text-source (source.Mem m) = text-mem m []

text-value : (v : Value) → text (value_pieces v) ≡ print.value v []
text-value (value.Reg r) = refl
text-value (value.Num w) = text-integer (signed w) []

text-count : (c : Count) → text (count_pieces c) ≡ print.count c []
text-count (count.Fixed n) = refl
text-count count.Ecx = refl

-- a register and a second operand
into_register : (w : List ℕ) (r : Reg) (ys : List Piece) (t : List ℕ) → text ys ≡ t →
    text (two_pieces w (of_register r) ys) ≡ w ++ (codes " " ++ (register r ++ (codes ", " ++ t)))
into_register w r ys t is = text-two w (of_register r) ys ∙ rw (append-nil (register r), is) refl

-- a place in memory and a second operand
into_memory : (w : List ℕ) (m : Mem (List ℕ)) (ys : List Piece) (t : List ℕ) → text ys ≡ t →
    text (two_pieces w (mem_pieces m []) ys) ≡ w ++ (codes " " ++ print.mem m (codes ", " ++ t))
into_memory w m ys t is =
    text-two w (mem_pieces m []) ys ∙ ap (λ (r : List ℕ). w ++ (codes " " ++ r)) (rw is (sym (mem_before m _)))

text-condition : (on : Cond) (rest : List Piece) →
    text (Word (codes "j" ++ condition on) ∷ rest) ≡ codes "j" ++ (condition on ++ text rest)
text-condition O rest = refl
text-condition No rest = refl
text-condition B rest = refl
text-condition Ae rest = refl
text-condition E rest = refl
text-condition Ne rest = refl
text-condition Be rest = refl
text-condition A rest = refl
text-condition S rest = refl
text-condition Ns rest = refl
text-condition P rest = refl
text-condition Np rest = refl
text-condition L rest = refl
text-condition Ge rest = refl
text-condition Le rest = refl
text-condition G rest = refl

text-instr : (x : Instr (List ℕ)) → text (instr_pieces x) ≡ instr x []
text-instr (i.Mov r s) = into_register (codes "mov") r (source_pieces s) (print.source s []) (text-source s)
text-instr (i.Store m v) = into_memory (codes "mov") m (value_pieces v) (print.value v []) (text-value v)
text-instr (i.Extend how r s) = into_register (extension how) r (of_register s) (register s ++ []) refl
text-instr (i.Lea r m) = into_register (codes "lea") r (mem_pieces m []) (print.mem m []) (text-mem m [])
text-instr (i.Operate what r s) =
    into_register (operation what) r (source_pieces s) (print.source s []) (text-source s)
text-instr (i.Cmp r s) = into_register (codes "cmp") r (source_pieces s) (print.source s []) (text-source s)
text-instr (i.CmpMem m w) =
    into_memory (codes "cmp") m (integer_pieces (signed w) []) (print.word w []) (text-integer (signed w) [])
text-instr (i.Test r v) = into_register (codes "test") r (value_pieces v) (print.value v []) (text-value v)
text-instr (i.Neg r) = refl
text-instr (i.Not r) = refl
text-instr (i.Shift how r by) = into_register (shift how) r (count_pieces by) (print.count by []) (text-count by)
text-instr i.Cdq = refl
text-instr (i.Idiv r) = refl
text-instr (i.Div r) = refl
text-instr (i.Push r) = refl
text-instr (i.Pop r) = refl
text-instr (i.Jmp (target.Label n)) = refl
text-instr (i.Jmp (target.Function x)) = refl
text-instr (i.JumpIf on n) = text-condition on (Mark Space ∷ label_pieces n)
text-instr (i.Call callee.Lock) = refl
text-instr (i.Call callee.Unlock) = refl
text-instr (i.Call (callee.Function x)) = refl
text-instr i.Ret = refl
text-instr i.Out = refl
text-instr (i.LockDec m) = ap (λ (t : List ℕ). codes "lockdec " ++ t) (text-mem m [])
text-instr (i.Set on r) =
    text-two (codes "set") (alone (condition on)) (of_register r) ∙ rw (append-nil (condition on)) refl

-- the pieces of a line spell it
pub text-line : (l : Line) → text (line_pieces l) ≡ line_text l
text-line (line.Label n) = refl
text-line (line.Run x) = text-instr x
