-- A line that is read has the pieces of the line as it is printed.
use Rattle.std.proofs.Common.{◌≡◌, ℕ, suc, ◌+◌, nat_lt, Bool, true, false, not, ◌&&◌, cond, bytes_eq, List, [], ◌∷◌, ◌++◌, codes, take, drop, length, Option, Some, None, Result, Ok, Err, refl, ap, sym, subst, ◌∙◌, arith}
use Rattle.std.specs.List.{prefix_len}
use Rattle.std.specs.Fmt.{decimal}
use Rattle.std.specs.Option.{option_map}
use Rattle.std.specs.Prelude.{ℤ, pos, negsuc}
use Rattle.std.proofs.lemmas.List.{take-append-drop}
use Rattle.cas_base.specs.Name.{is_name}
use Rattle.cas_base.specs.Word.{signed}
use Rattle.cas_base.specs.declared.reg.Reg.{Reg}
use Rattle.cas_base.specs.declared.reg.Reg.TheVariants.{Eax, Ecx}
use Rattle.cas_asm.specs.declared.cond.Cond.{Cond}
use Rattle.cas_asm.specs.declared.cond.Cond.TheVariants.{O, No, B, Ae, E, Ne, Be, A, S, Ns, P, Np, L, Ge, Le, G}
use Rattle.cas_asm.specs.declared.instr.Callee.TheVariants as callee
use Rattle.cas_asm.specs.declared.instr.Count.TheVariants as count
use Rattle.cas_asm.specs.declared.instr.Extension.{Extension}
use Rattle.cas_asm.specs.declared.instr.Instr.{Instr}
use Rattle.cas_asm.specs.declared.instr.Instr.TheVariants as i
use Rattle.cas_asm.specs.declared.instr.Mem.{Mem}
use Rattle.cas_asm.specs.declared.instr.Operation.{Operation}
use Rattle.cas_asm.specs.declared.instr.ShiftKind.{ShiftKind}
use Rattle.cas_asm.specs.declared.instr.Target.TheVariants as target
use Rattle.cas_asm.specs.declared.instr.Value.TheVariants as value
use Rattle.cas_asm.specs.declared.line.Line.{Line}
use Rattle.cas_asm.specs.declared.line.Line.TheVariants as line
use Rattle.cas_pieces.specs.declared.piece.Mark.TheVariants.{Space, Comma, Dot, At, Minus, Open, Close}
use Rattle.cas_pieces.specs.declared.piece.Piece.{Piece}
use Rattle.cas_pieces.specs.declared.piece.Piece.TheVariants.{Word, Mark}
use Rattle.cas_pieces.specs.Marks.{is_mark, spells}
use Rattle.cas_pieces.specs.Numbers.{is_numeral}
use Rattle.cas_pieces.specs.Pieces.{pieces, text}
use Rattle.cas_pieces.proofs.Spelling.{text-pieces}
use Rattle.cas_pieces.proofs.Tables.{bytes_eq-same, find-spelt}
use Rattle.cas_object_line.specs.declared.code.CodeLine.{CodeLine}
use Rattle.cas_object_line.specs.declared.code.CodeLine.TheVariants.{Code, End}
use Rattle.cas_object_line.specs.declared.fault.LineFault.{LineFault}
use Rattle.cas_object_line.specs.declared.fault.LineFault.TheVariants.{Form}
use Rattle.cas_object_line.specs.declared.mnemonic.Mnemonic.{Mnemonic}
use Rattle.cas_object_line.specs.declared.mnemonic.Mnemonic.TheVariants as m
use Rattle.cas_object_line.specs.declared.operand.Address.{Address}
use Rattle.cas_object_line.specs.declared.operand.Numeral.{Numeral}
use Rattle.cas_object_line.specs.declared.operand.Operand.{Operand}
use Rattle.cas_object_line.specs.declared.operand.Operand.TheVariants as operand
use Rattle.cas_object_line.specs.Codes as read
use Rattle.cas_object_line.specs.Groups.{jump_condition, operation_of, extension_of, shift_of}
use Rattle.cas_object_line.specs.Instructions as make
use Rattle.cas_object_line.specs.Numbers.{word_of, displacement_of, label_of, count_of}
use Rattle.cas_object_line.specs.Operands.{is_positive, operand_of, plain_word, register_or_word, marked_word, address_of}
use Rattle.cas_object_line.specs.Tables.{mnemonic_of, mnemonic_text, mnemonics, condition_of, condition_text, conditions, register_of}
use Rattle.cas_object_print.specs.Operands.{is_there}
use Rattle.cas_object_print.specs.Words.{condition, operation, extension, shift}
use Rattle.cas_object_laws.specs.Formed.{line_text}
use Rattle.cas_object_laws.proofs.Giving.{Gives, gives-if, gives-made, gives-of}
use Rattle.cas_object_laws.proofs.Numerals.{numeral_of}
use Rattle.cas_object_laws.proofs.Sequences.{one_pieces, two_pieces}
use Rattle.cas_object_laws.proofs.Spelled.{symbol_pieces, base_pieces, index_pieces, integer_pieces, mem_pieces}
use Rattle.cas_object_spelling.proofs.Marks.{is_space, is_comma, is_at, is_dot, is_minus, is_open, is_word, and-first, and-second, May, may-if}
use Rattle.cas_object_spelling.proofs.Numbers.{numeral-signed, tail-number, label-digits, count-numeral}
use Rattle.cas_object_spelling.proofs.Places.{register-spelt, has_base, has_index, address_pieces, IsEnded, IsAddress, address-pieces}
use Rattle.cas_object_spelling.proofs.Pieces.{alone, of_register, numeral_pieces, operand_pieces, IsRightOperand, instr_pieces, line_pieces, text-line}

gives-from : {X : Type 0} (Is : X → Type 0) (r : Result X LineFault) → ((x : X) → r ≡ Ok x → Is x) → Gives Is r
gives-from Is (Ok x) f = f x refl
gives-from Is (Err fault) f = tt

may-from : {X : Type 0} (Is : X → Type 0) (o : Option X) → ((x : X) → o ≡ Some x → Is x) → May Is o
may-from Is None f = tt
may-from Is (Some x) f = f x refl

-- Words.

mnemonic-spelt : (x : List ℕ) → May (λ mn. x ≡ mnemonic_text mn) (mnemonic_of x)
mnemonic-spelt x = may-from (λ mn. x ≡ mnemonic_text mn) (mnemonic_of x)
    (λ mn e. find-spelt mnemonic_text mnemonics x mn e)

same_condition : (on : Cond) → condition_text on ≡ condition on
same_condition O = refl
same_condition No = refl
same_condition B = refl
same_condition Ae = refl
same_condition E = refl
same_condition Ne = refl
same_condition Be = refl
same_condition A = refl
same_condition S = refl
same_condition Ns = refl
same_condition P = refl
same_condition Np = refl
same_condition L = refl
same_condition Ge = refl
same_condition Le = refl
same_condition G = refl

condition-spelt : (x : List ℕ) → May (λ on. x ≡ condition on) (condition_of x)
condition-spelt x = may-from (λ on. x ≡ condition on) (condition_of x)
    (λ on e. find-spelt condition_text conditions x on e ∙ same_condition on)

operation-spelt : (mn : Mnemonic) → May (λ what. mnemonic_text mn ≡ operation what) (operation_of mn)
operation-spelt m.Add = refl
operation-spelt m.Sub = refl
operation-spelt m.And = refl
operation-spelt m.Or = refl
operation-spelt m.Xor = refl
operation-spelt m.Imul = refl
operation-spelt _ = tt

extension-spelt : (mn : Mnemonic) → May (λ how. mnemonic_text mn ≡ extension how) (extension_of mn)
extension-spelt m.Movsx8 = refl
extension-spelt m.Movsx16 = refl
extension-spelt m.Movzx8 = refl
extension-spelt m.Movzx16 = refl
extension-spelt _ = tt

shift-spelt : (mn : Mnemonic) → May (λ how. mnemonic_text mn ≡ shift how) (shift_of mn)
shift-spelt m.Shl = refl
shift-spelt m.Shr = refl
shift-spelt m.Sar = refl
shift-spelt _ = tt

jump-spelt : (mn : Mnemonic) → May (λ on. mnemonic_text mn ≡ codes "j" ++ condition on) (jump_condition mn)
jump-spelt m.Jo = refl
jump-spelt m.Jno = refl
jump-spelt m.Jb = refl
jump-spelt m.Jae = refl
jump-spelt m.Je = refl
jump-spelt m.Jne = refl
jump-spelt m.Jbe = refl
jump-spelt m.Ja = refl
jump-spelt m.Js = refl
jump-spelt m.Jns = refl
jump-spelt m.Jp = refl
jump-spelt m.Jnp = refl
jump-spelt m.Jl = refl
jump-spelt m.Jge = refl
jump-spelt m.Jle = refl
jump-spelt m.Jg = refl
jump-spelt _ = tt

-- Operands.

abbrev IsOperand : List Piece → Operand → Type 0
IsOperand ps a = (ps ≡ operand_pieces a) × IsRightOperand a

no-sign : (x : List ℕ) → false ≡ true → is_positive x ≡ true
no-sign x e = absurd cc

abbrev as_number : List ℕ → Operand
as_number x = operand.Number (record { negative = false; digits = x })

plain-operand : (x : List ℕ) → IsOperand (Word x ∷ []) (plain_word x)
plain-operand x = by_digits (is_numeral x)
  where
    by_register : (o : Option Reg) → register_of x ≡ o → IsOperand (Word x ∷ []) (register_or_word o x)
    by_register None e = (refl, tt)
    by_register (Some r) e = (ap alone (register-spelt x r e), tt)

    by_digits : (t : Bool) → IsOperand (Word x ∷ []) (cond t (as_number x) (register_or_word (register_of x) x))
    by_digits true = (refl, no-sign x)
    by_digits false = by_register (register_of x) refl

pair : {p q : Piece} (x : List ℕ) → p ≡ q → p ∷ Word x ∷ [] ≡ q ∷ Word x ∷ []
pair x e = cc

marked-operand : (mark : Piece) (x : List ℕ) → May (IsOperand (mark ∷ Word x ∷ [])) (marked_word mark x)
marked-operand mark x =
    let minus = is_mark mark Minus in
    let dot = is_mark mark Dot in
    let at = is_mark mark At in
    let as_number : Option Operand = Some (operand.Number (record { negative = true; digits = x })) in
    let as_symbol : Option Operand = cond (at && is_name x) (Some (operand.Symbol x)) None in
    let as_label : Option Operand = cond (dot && is_numeral x) (Some (operand.Label x)) as_symbol in
    may-if (IsOperand (mark ∷ Word x ∷ [])) (minus && is_positive x) as_number as_label
    (λ e. (pair x (is_minus mark (and-first minus (is_positive x) e)), λ f. and-second minus (is_positive x) e))
    (λ e. may-if (IsOperand (mark ∷ Word x ∷ [])) (dot && is_numeral x) (Some (operand.Label x)) as_symbol
    (λ f. (pair x (is_dot mark (and-first dot (is_numeral x) f)), tt))
    (λ f. may-if (IsOperand (mark ∷ Word x ∷ [])) (at && is_name x) (Some (operand.Symbol x)) None
    (λ g. (pair x (is_at mark (and-first at (is_name x) g)), tt)) (λ g. tt)))

memory-operand : (left : Piece) (rest : List Piece) → is_mark left Open ≡ true → (o : Option Address) →
    May (IsAddress rest) o → May (IsOperand (left ∷ rest)) (option_map operand.Memory o)
memory-operand left rest e None h = tt
memory-operand left rest e (Some a) h = (both (is_open left e) h.0, h.1)
  where
    both : {p : Piece} {ps : List Piece} → left ≡ p → rest ≡ ps → left ∷ rest ≡ p ∷ ps
    both x y = cc

operand-written : (ps : List Piece) → May (IsOperand ps) (operand_of ps)
operand-written [] = tt
operand-written (Word x ∷ []) = plain-operand x
operand-written (Mark k ∷ []) = tt
operand-written (mark ∷ Word x ∷ []) = marked-operand mark x
operand-written (mark ∷ Mark k ∷ []) = tt
operand-written (left ∷ p ∷ q ∷ rest) =
    may-if (IsOperand (left ∷ p ∷ q ∷ rest)) (is_mark left Open)
    (option_map operand.Memory (address_of (p ∷ q ∷ rest))) None
    (λ e. memory-operand left (p ∷ q ∷ rest) e (address_of (p ∷ q ∷ rest)) (address-pieces (p ∷ q ∷ rest)))
    (λ e. tt)

-- Numbers and places in memory.

numeral-integer : (z : ℤ) → numeral_pieces (numeral_of z) ≡ integer_pieces z []
numeral-integer (pos n) = refl
numeral-integer (negsuc n) = refl

word-pieces : (n : Numeral) → IsRightOperand (operand.Number n) →
    Gives (λ w. numeral_pieces n ≡ integer_pieces (signed w) []) (word_of n)
word-pieces n right =
    gives-from (λ w. numeral_pieces n ≡ integer_pieces (signed w) []) (word_of n)
    (λ w e. ap numeral_pieces (numeral-signed n w right e) ∙ numeral-integer (signed w))

abbrev in_memory : Address → List Piece
in_memory a = Mark Open ∷ address_pieces a

abbrev IsPlace : Address → Mem (List ℕ) → Type 0
IsPlace a place = in_memory a ≡ mem_pieces place []

mem-pieces : (a : Address) → IsEnded a → Gives (IsPlace a) (make.mem_of a)
mem-pieces a ended = by_disp (displacement_of a.number) refl
  where
    placed : (z : ℤ) → displacement_of a.number ≡ Ok z → IsPlace a (make.mem_at a z a.symbol)
    placed z e =
        ap (λ rest. Mark Open ∷ symbol_pieces a.symbol (base_pieces (is_there a.symbol) a.base
        (index_pieces (has_base a.symbol a.base) a.index rest)))
        (tail-number (has_index a.symbol a.base a.index) a.number z (Mark Close ∷ []) ended e)

    by_symbol : (z : ℤ) (s : Option (List ℕ)) → a.symbol ≡ s → IsPlace a (make.mem_at a z a.symbol) →
        Gives (IsPlace a) (make.mem_by a z s)
    by_symbol z None e h = subst (λ s. IsPlace a (make.mem_at a z s)) e h
    by_symbol z (Some x) e h =
        gives-made (IsPlace a) (λ name. name ≡ x) (λ name. make.mem_at a z (Some name)) (make.name_of x)
        (gives-if (λ name. name ≡ x) (is_name x) (Ok x) (Err Form) (λ f. refl) tt)
        (λ name same. subst (λ y. IsPlace a (make.mem_at a z (Some y))) (sym same)
        (subst (λ s. IsPlace a (make.mem_at a z s)) e h))

    by_disp : (r : Result ℤ LineFault) → displacement_of a.number ≡ r → Gives (IsPlace a) (make.mem_from a r)
    by_disp (Ok z) e = by_symbol z a.symbol refl (placed z e)
    by_disp (Err fault) e = tt

-- Instructions.

abbrev Written : List Piece → Instr (List ℕ) → Type 0
Written ps x = ps ≡ instr_pieces x

bare-written : (mn : Mnemonic) → Gives (Written (alone (mnemonic_text mn))) (make.bare mn)
bare-written m.Cdq = refl
bare-written m.Ret = refl
bare-written _ = tt

abbrev one : Mnemonic → List Piece → List Piece
one mn xs = one_pieces (mnemonic_text mn) xs

abbrev two : Mnemonic → List Piece → List Piece → List Piece
two mn xs ys = two_pieces (mnemonic_text mn) xs ys

out-written : (r : Reg) → Gives (Written (one m.Out (of_register r))) (make.out r)
out-written Eax = refl
out-written _ = tt

register-written : (mn : Mnemonic) (r : Reg) → Gives (Written (one mn (of_register r))) (make.of_register mn r)
register-written m.Neg r = refl
register-written m.Not r = refl
register-written m.Idiv r = refl
register-written m.Div r = refl
register-written m.Push r = refl
register-written m.Pop r = refl
register-written m.Out r = out-written r
register-written _ r = tt

label-spelt : (digits : List ℕ) → Gives (λ n. digits ≡ decimal n) (label_of digits)
label-spelt digits = gives-from (λ n. digits ≡ decimal n) (label_of digits) (λ n e. label-digits digits n e)

jump-written : (mn : Mnemonic) (digits : List ℕ) (o : Option Cond) →
    May (λ on. mnemonic_text mn ≡ codes "j" ++ condition on) o →
    Gives (Written (one mn (Mark Dot ∷ Word digits ∷ []))) (make.jump_by o digits)
jump-written mn digits None h = tt
jump-written mn digits (Some on) h =
    gives-made (Written (one mn (Mark Dot ∷ Word digits ∷ []))) (λ n. digits ≡ decimal n) (i.JumpIf on)
    (label_of digits) (label-spelt digits) (λ n e. spelt h e)
  where
    spelt : {w v x y : List ℕ} → w ≡ v → x ≡ y →
        one_pieces w (Mark Dot ∷ Word x ∷ []) ≡ one_pieces v (Mark Dot ∷ Word y ∷ [])
    spelt e f = cc

label-written : (mn : Mnemonic) (digits : List ℕ) →
    Gives (Written (one mn (Mark Dot ∷ Word digits ∷ []))) (make.to_label mn digits)
label-written m.Jmp digits =
    gives-made (Written (one m.Jmp (Mark Dot ∷ Word digits ∷ []))) (λ n. digits ≡ decimal n)
    (λ n. i.Jmp (target.Label n)) (label_of digits) (label-spelt digits)
    (λ n e. ap (λ x. one m.Jmp (Mark Dot ∷ Word x ∷ [])) e)
label-written mn digits = jump-written mn digits (jump_condition mn) (jump-spelt mn)

name-spelt : (x : List ℕ) → Gives (λ name. name ≡ x) (make.name_of x)
name-spelt x = gives-if (λ name. name ≡ x) (is_name x) (Ok x) (Err Form) (λ e. refl) tt

symbol-written : (mn : Mnemonic) (x : List ℕ) →
    Gives (Written (one mn (Mark At ∷ Word x ∷ []))) (make.to_symbol mn x)
symbol-written m.Jmp x =
    gives-made (Written (one m.Jmp (Mark At ∷ Word x ∷ []))) (λ name. name ≡ x) (λ name. i.Jmp (target.Function name))
    (make.name_of x) (name-spelt x) (λ name e. ap (λ y. one m.Jmp (Mark At ∷ Word y ∷ [])) (sym e))
symbol-written m.Call x =
    gives-made (Written (one m.Call (Mark At ∷ Word x ∷ []))) (λ name. name ≡ x) (λ name. i.Call (callee.Function name))
    (make.name_of x) (name-spelt x) (λ name e. ap (λ y. one m.Call (Mark At ∷ Word y ∷ [])) (sym e))
symbol-written _ x = tt

lock-written : (x : List ℕ) → Gives (Written (one m.Call (alone x))) (make.to_lock_object x)
lock-written x =
    let call : make.Read = Ok (i.Call callee.Unlock) in
    gives-if (Written (one m.Call (alone x))) (bytes_eq x (codes "lock")) (Ok (i.Call callee.Lock))
    (cond (bytes_eq x (codes "unlock")) call (Err Form))
    (λ e. ap (λ y. one m.Call (alone y)) (sym (bytes_eq-same x (codes "lock") e)))
    (gives-if (Written (one m.Call (alone x))) (bytes_eq x (codes "unlock")) call (Err Form)
    (λ e. ap (λ y. one m.Call (alone y)) (sym (bytes_eq-same x (codes "unlock") e))) tt)

word-written : (mn : Mnemonic) (x : List ℕ) → Gives (Written (one mn (alone x))) (make.of_word mn x)
word-written m.Call x = lock-written x
word-written _ x = tt

memory-written : (mn : Mnemonic) (a : Address) → IsEnded a →
    Gives (Written (one mn (in_memory a))) (make.of_memory mn a)
memory-written m.Lockdec a ended =
    gives-made (Written (one m.Lockdec (in_memory a))) (λ place. in_memory a ≡ mem_pieces place []) i.LockDec
    (make.mem_of a) (mem-pieces a ended) (λ place e. ap (one m.Lockdec) e)
memory-written _ a ended = tt

unary-written : (mn : Mnemonic) (a : Operand) → IsRightOperand a →
    Gives (Written (one mn (operand_pieces a))) (make.unary mn a)
unary-written mn (operand.Reg r) right = register-written mn r
unary-written mn (operand.Label digits) right = label-written mn digits
unary-written mn (operand.Symbol x) right = symbol-written mn x
unary-written mn (operand.Memory a) right = memory-written mn a right
unary-written mn (operand.Word x) right = word-written mn x
unary-written mn (operand.Number n) right = tt

-- Two registers.

shifted-written : (mn : Mnemonic) (r s : Reg) (o : Option ShiftKind) → May (λ how. mnemonic_text mn ≡ shift how) o →
    Gives (Written (two mn (of_register r) (of_register s))) (make.shifted o r s)
shifted-written mn r s None h = tt
shifted-written mn r Ecx (Some how) h = ap (λ w. two_pieces w (of_register r) (of_register Ecx)) h
shifted-written mn r _ (Some how) h = tt

extended-written : (mn : Mnemonic) (r s : Reg) (o : Option Extension) →
    May (λ how. mnemonic_text mn ≡ extension how) o →
    Gives (Written (two mn (of_register r) (of_register s))) (make.extended o mn r s)
extended-written mn r s None h = shifted-written mn r s (shift_of mn) (shift-spelt mn)
extended-written mn r s (Some how) h = ap (λ w. two_pieces w (of_register r) (of_register s)) h

operated-written : (mn : Mnemonic) (r s : Reg) (o : Option Operation) →
    May (λ what. mnemonic_text mn ≡ operation what) o →
    Gives (Written (two mn (of_register r) (of_register s))) (make.operated o mn r s)
operated-written mn r s None h = extended-written mn r s (extension_of mn) (extension-spelt mn)
operated-written mn r s (Some what) h = ap (λ w. two_pieces w (of_register r) (of_register s)) h

registers-written : (mn : Mnemonic) (r s : Reg) →
    Gives (Written (two mn (of_register r) (of_register s))) (make.from_register mn r s)
registers-written m.Mov r s = refl
registers-written m.Cmp r s = refl
registers-written m.Test r s = refl
registers-written mn r s = operated-written mn r s (operation_of mn) (operation-spelt mn)

-- A register and a number.

operated-word : (mn : Mnemonic) (r : Reg) (w : ℕ) (o : Option Operation) →
    May (λ what. mnemonic_text mn ≡ operation what) o →
    Gives (Written (two mn (of_register r) (integer_pieces (signed w) []))) (make.operated_word o r w)
operated-word mn r w None h = tt
operated-word mn r w (Some what) h = ap (λ v. two_pieces v (of_register r) (integer_pieces (signed w) [])) h

with-word : (mn : Mnemonic) (r : Reg) (w : ℕ) →
    Gives (Written (two mn (of_register r) (integer_pieces (signed w) []))) (make.with_word mn r w)
with-word m.Mov r w = refl
with-word m.Cmp r w = refl
with-word m.Test r w = refl
with-word mn r w = operated-word mn r w (operation_of mn) (operation-spelt mn)

word-into : (mn : Mnemonic) (r : Reg) (ps : List Piece) (word : Result ℕ LineFault) →
    Gives (λ w. ps ≡ integer_pieces (signed w) []) word →
    Gives (Written (two mn (of_register r) ps)) (make.word_into mn r word)
word-into mn r ps (Ok w) h =
    subst (λ qs. Gives (Written (two mn (of_register r) qs)) (make.with_word mn r w)) (sym h) (with-word mn r w)
word-into mn r ps (Err fault) h = tt

if-taken : (Is : Instr (List ℕ) → Type 0) (taken word : make.Read) → Gives Is word →
    Gives Is (make.if_taken taken word)
if-taken Is (Ok x) word h = h
if-taken Is (Err fault) word h = tt

shifted-by : (mn : Mnemonic) (r : Reg) (n : Numeral) → IsRightOperand (operand.Number n) → (o : Option ShiftKind) →
    May (λ how. mnemonic_text mn ≡ shift how) o →
    Gives (Written (two mn (of_register r) (numeral_pieces n))) (make.shifted_by o mn r n)
shifted-by mn r n right None h =
    if-taken (Written (two mn (of_register r) (numeral_pieces n))) (make.with_word mn r 0) (make.immediate mn r n)
    (word-into mn r (numeral_pieces n) (word_of n) (word-pieces n right))
shifted-by mn r n right (Some how) h =
    gives-made (Written (two mn (of_register r) (numeral_pieces n))) (λ k. numeral_pieces n ≡ alone (decimal k))
    (λ k. i.Shift how r (count.Fixed k)) (count_of n)
    (gives-from (λ k. numeral_pieces n ≡ alone (decimal k)) (count_of n)
    (λ k e. ap numeral_pieces (count-numeral n k e)))
    (λ k e. spelt h e)
  where
    spelt : {w v : List ℕ} {xs ys : List Piece} → w ≡ v → xs ≡ ys →
        two_pieces w (of_register r) xs ≡ two_pieces v (of_register r) ys
    spelt e f = cc

number-written : (mn : Mnemonic) (r : Reg) (n : Numeral) → IsRightOperand (operand.Number n) →
    Gives (Written (two mn (of_register r) (numeral_pieces n))) (make.from_number mn r n)
number-written mn r n right = shifted-by mn r n right (shift_of mn) (shift-spelt mn)

-- A register and a place in memory.

operated-mem : (mn : Mnemonic) (r : Reg) (place : Mem (List ℕ)) (o : Option Operation) →
    May (λ what. mnemonic_text mn ≡ operation what) o →
    Gives (Written (two mn (of_register r) (mem_pieces place []))) (make.operated_mem o r place)
operated-mem mn r place None h = tt
operated-mem mn r place (Some what) h = ap (λ v. two_pieces v (of_register r) (mem_pieces place [])) h

with-mem : (mn : Mnemonic) (r : Reg) (place : Mem (List ℕ)) →
    Gives (Written (two mn (of_register r) (mem_pieces place []))) (make.with_mem mn r place)
with-mem m.Mov r place = refl
with-mem m.Lea r place = refl
with-mem m.Cmp r place = refl
with-mem mn r place = operated-mem mn r place (operation_of mn) (operation-spelt mn)

mem-into : (mn : Mnemonic) (r : Reg) (ps : List Piece) (place : Result (Mem (List ℕ)) LineFault) →
    Gives (λ at. ps ≡ mem_pieces at []) place →
    Gives (Written (two mn (of_register r) ps)) (make.mem_into mn r place)
mem-into mn r ps (Ok at) h =
    subst (λ qs. Gives (Written (two mn (of_register r) qs)) (make.with_mem mn r at)) (sym h) (with-mem mn r at)
mem-into mn r ps (Err fault) h = tt

from-memory : (mn : Mnemonic) (r : Reg) (a : Address) → IsEnded a →
    Gives (Written (two mn (of_register r) (in_memory a))) (make.from_memory mn r a)
from-memory mn r a ended =
    gives-if (Written (two mn (of_register r) (in_memory a))) (make.takes_memory mn)
    (make.mem_into mn r (make.mem_of a)) (Err Form)
    (λ e. mem-into mn r (in_memory a) (make.mem_of a) (mem-pieces a ended)) tt

into-register : (mn : Mnemonic) (r : Reg) (b : Operand) → IsRightOperand b →
    Gives (Written (two mn (of_register r) (operand_pieces b))) (make.into_register mn r b)
into-register mn r (operand.Reg s) right = registers-written mn r s
into-register mn r (operand.Number n) right = number-written mn r n right
into-register mn r (operand.Memory a) right = from-memory mn r a right
into-register mn r (operand.Label digits) right = tt
into-register mn r (operand.Symbol x) right = tt
into-register mn r (operand.Word x) right = tt

-- A place in memory and a register or a number.

store-written : (mn : Mnemonic) (a : Address) (r : Reg) → IsEnded a →
    Gives (Written (two mn (in_memory a) (of_register r))) (make.store_register mn a r)
store-written m.Mov a r ended =
    gives-made (Written (two m.Mov (in_memory a) (of_register r))) (λ place. in_memory a ≡ mem_pieces place [])
    (λ place. i.Store place (value.Reg r)) (make.mem_of a) (mem-pieces a ended)
    (λ place e. ap (λ ps. two m.Mov ps (of_register r)) e)
store-written _ a r ended = tt

word-with-mem : (mn : Mnemonic) (place : Mem (List ℕ)) (w : ℕ) →
    Gives (Written (two mn (mem_pieces place []) (integer_pieces (signed w) []))) (make.word_with_mem mn place w)
word-with-mem m.Mov place w = refl
word-with-mem m.Cmp place w = refl
word-with-mem _ place w = tt

word-beside : (mn : Mnemonic) (ps : List Piece) (place : Result (Mem (List ℕ)) LineFault) (w : ℕ) →
    Gives (λ at. ps ≡ mem_pieces at []) place →
    Gives (Written (two mn ps (integer_pieces (signed w) []))) (make.word_beside mn place w)
word-beside mn ps (Ok at) w h =
    subst (λ qs. Gives (Written (two mn qs (integer_pieces (signed w) []))) (make.word_with_mem mn at w)) (sym h)
    (word-with-mem mn at w)
word-beside mn ps (Err fault) w h = tt

number-beside : (mn : Mnemonic) (a : Address) (ps : List Piece) (word : Result ℕ LineFault) → IsEnded a →
    Gives (λ w. ps ≡ integer_pieces (signed w) []) word →
    Gives (Written (two mn (in_memory a) ps)) (make.number_beside mn a word)
number-beside mn a ps (Ok w) ended h =
    subst (λ qs. Gives (Written (two mn (in_memory a) qs)) (make.word_with_memory mn a w)) (sym h)
    (word-beside mn (in_memory a) (make.mem_of a) w (mem-pieces a ended))
number-beside mn a ps (Err fault) ended h = tt

number-with-memory : (mn : Mnemonic) (a : Address) (n : Numeral) → IsEnded a → IsRightOperand (operand.Number n) →
    Gives (Written (two mn (in_memory a) (numeral_pieces n))) (make.number_with_memory mn a n)
number-with-memory m.Mov a n ended right =
    number-beside m.Mov a (numeral_pieces n) (word_of n) ended (word-pieces n right)
number-with-memory m.Cmp a n ended right =
    number-beside m.Cmp a (numeral_pieces n) (word_of n) ended (word-pieces n right)
number-with-memory _ a n ended right = tt

into-memory : (mn : Mnemonic) (a : Address) (b : Operand) → IsEnded a → IsRightOperand b →
    Gives (Written (two mn (in_memory a) (operand_pieces b))) (make.into_memory mn a b)
into-memory mn a (operand.Reg r) ended right = store-written mn a r ended
into-memory mn a (operand.Number n) ended right = number-with-memory mn a n ended right
into-memory mn a (operand.Memory b) ended right = tt
into-memory mn a (operand.Label digits) ended right = tt
into-memory mn a (operand.Symbol x) ended right = tt
into-memory mn a (operand.Word x) ended right = tt

-- A condition and a register.

set-written : (x : List ℕ) (b : Operand) (o : Option Cond) → May (λ on. x ≡ condition on) o →
    Gives (Written (two m.Set (alone x) (operand_pieces b))) (make.set_on o b)
set-written x b None h = tt
set-written x (operand.Reg r) (Some on) h = ap (λ y. two m.Set (alone y) (of_register r)) h
set-written x (operand.Number n) (Some on) h = tt
set-written x (operand.Memory a) (Some on) h = tt
set-written x (operand.Label digits) (Some on) h = tt
set-written x (operand.Symbol y) (Some on) h = tt
set-written x (operand.Word y) (Some on) h = tt

condition-written : (mn : Mnemonic) (x : List ℕ) (b : Operand) →
    Gives (Written (two mn (alone x) (operand_pieces b))) (make.by_condition mn (condition_of x) b)
condition-written m.Set x b = set-written x b (condition_of x) (condition-spelt x)
condition-written _ x b = tt

binary-written : (mn : Mnemonic) (a b : Operand) → IsRightOperand a → IsRightOperand b →
    Gives (Written (two mn (operand_pieces a) (operand_pieces b))) (make.binary mn a b)
binary-written mn (operand.Reg r) b right other = into-register mn r b other
binary-written mn (operand.Memory a) b right other = into-memory mn a b right other
binary-written mn (operand.Word x) b right other = condition-written mn x b
binary-written mn (operand.Number n) b right other = tt
binary-written mn (operand.Label digits) b right other = tt
binary-written mn (operand.Symbol x) b right other = tt

-- Lines.

mnemonic-piece : (p : Piece) → May (λ mn. p ≡ Word (mnemonic_text mn)) (read.mnemonic_piece p)
mnemonic-piece (Mark k) = tt
mnemonic-piece (Word x) =
    may-from (λ mn. Word x ≡ Word (mnemonic_text mn)) (mnemonic_of x)
    (λ mn e. ap Word (find-spelt mnemonic_text mnemonics x mn e))

one-operand : (mn : Mnemonic) (ps : List Piece) (o : Option Operand) → May (IsOperand ps) o →
    Gives (Written (one mn ps)) (read.one_operand mn o)
one-operand mn ps None h = tt
one-operand mn ps (Some a) h =
    subst (λ qs. Gives (Written (one mn qs)) (make.unary mn a)) (sym h.0) (unary-written mn a h.1)

two-operands : (mn : Mnemonic) (ps qs : List Piece) (o p : Option Operand) → May (IsOperand ps) o →
    May (IsOperand qs) p → Gives (Written (two mn ps qs)) (read.two_operands mn o p)
two-operands mn ps qs None p h k = tt
two-operands mn ps qs (Some a) None h k = tt
two-operands mn ps qs (Some a) (Some b) h k =
    subst (λ xs. Gives (Written (two mn xs qs)) (make.binary mn a b)) (sym h.0)
    (subst (λ ys. Gives (Written (two mn (operand_pieces a) ys)) (make.binary mn a b)) (sym k.0)
    (binary-written mn a b h.1 k.1))

-- a comma is first
abbrev BeginsWithComma : List Piece → Type 0
BeginsWithComma [] = Unit {0}
BeginsWithComma (p ∷ ps) = is_mark p Comma ≡ true

around-comma : (mn : Mnemonic) (front back : List Piece) → BeginsWithComma back →
    Gives (Written (one mn (front ++ back))) (read.around_comma mn front back)
around-comma mn front [] h = tt
around-comma mn front (comma ∷ []) h = tt
around-comma mn front (comma ∷ space ∷ rest) h =
    gives-if (Written (one mn (front ++ comma ∷ space ∷ rest))) (is_mark space Space)
    (read.two_operands mn (operand_of front) (operand_of rest)) (Err Form)
    (λ e. subst (λ qs. Gives (Written (one mn (front ++ qs)))
    (read.two_operands mn (operand_of front) (operand_of rest)))
    (sym (both (is_comma comma h) (is_space space e)))
    (two-operands mn front rest (operand_of front) (operand_of rest) (operand-written front) (operand-written rest)))
    tt
  where
    both : {p q : Piece} → comma ≡ p → space ≡ q → comma ∷ space ∷ rest ≡ p ∷ q ∷ rest
    both x y = cc

abbrev no_comma : Piece → Bool
no_comma p = not (is_mark p Comma)

more : (p : Piece) (ps : List Piece) (n : ℕ) → drop n ps ≡ drop (1 + n) (p ∷ ps)
more p ps n = ap (λ k. drop k (p ∷ ps)) (one_more n)
  where
    one_more : (k : ℕ) → suc k ≡ 1 + k
    one_more k = omega arith

comma-found : (ps : List Piece) → BeginsWithComma (drop (prefix_len no_comma ps) ps)
comma-found [] = tt
comma-found (p ∷ ps) = by_mark (is_mark p Comma) refl (comma-found ps)
  where
    by_mark : (t : Bool) → is_mark p Comma ≡ t → BeginsWithComma (drop (prefix_len no_comma ps) ps) →
        BeginsWithComma (drop (cond (not t) (1 + prefix_len no_comma ps) 0) (p ∷ ps))
    by_mark true e h = e
    by_mark false e h = subst BeginsWithComma (more p ps (prefix_len no_comma ps)) h

operands-written : (mn : Mnemonic) (ps : List Piece) → Gives (Written (one mn ps)) (read.operands mn ps)
operands-written mn ps = by_place (nat_lt (prefix_len no_comma ps) (length ps))
  where
    by_place : (t : Bool) →
        Gives (Written (one mn ps)) (read.operands_by (cond t (Some (prefix_len no_comma ps)) None) mn ps)
    by_place false = one-operand mn ps (operand_of ps) (operand-written ps)
    by_place true =
        let at = prefix_len no_comma ps in
        subst (λ qs. Gives (Written (one mn qs)) (read.around_comma mn (take at ps) (drop at ps)))
        (take-append-drop at ps) (around-comma mn (take at ps) (drop at ps) (comma-found ps))

without-operands : (p : Piece) (o : Option Mnemonic) → May (λ mn. p ≡ Word (mnemonic_text mn)) o →
    Gives (Written (p ∷ [])) (read.without_operands o)
without-operands p None h = tt
without-operands p (Some mn) h =
    subst (λ q. Gives (Written (q ∷ [])) (make.bare mn)) (sym h) (bare-written mn)

with-operands : (p : Piece) (rest : List Piece) (o : Option Mnemonic) → May (λ mn. p ≡ Word (mnemonic_text mn)) o →
    Gives (Written (p ∷ Mark Space ∷ rest)) (read.with_operands o rest)
with-operands p rest None h = tt
with-operands p rest (Some mn) h =
    subst (λ q. Gives (Written (q ∷ Mark Space ∷ rest)) (read.operands mn rest)) (sym h) (operands-written mn rest)

instruction-written : (ps : List Piece) → Gives (Written ps) (read.instruction ps)
instruction-written [] = tt
instruction-written (p ∷ []) = without-operands p (read.mnemonic_piece p) (mnemonic-piece p)
instruction-written (p ∷ space ∷ rest) =
    gives-if (Written (p ∷ space ∷ rest)) (is_mark space Space) (read.with_operands (read.mnemonic_piece p) rest)
    (Err Form)
    (λ e. subst (λ q. Gives (Written (p ∷ q ∷ rest)) (read.with_operands (read.mnemonic_piece p) rest))
    (sym (is_space space e)) (with-operands p rest (read.mnemonic_piece p) (mnemonic-piece p)))
    tt

-- what the pieces of a line are
abbrev pub IsLine : List Piece → CodeLine → Type 0
IsLine ps (Code l) = ps ≡ line_pieces l
IsLine ps End = ps ≡ alone (codes "end")

instruction-line : (ps : List Piece) → Gives (IsLine ps) (read.instruction_line ps)
instruction-line ps =
    gives-made (IsLine ps) (Written ps) (λ x. Code (line.Run x)) (read.instruction ps) (instruction-written ps)
    (λ x e. e)

label-line : (dot p : Piece) → is_mark dot Dot ≡ true → Gives (IsLine (dot ∷ p ∷ [])) (read.label_line p)
label-line dot (Mark k) e = tt
label-line dot (Word x) e =
    gives-made (IsLine (dot ∷ Word x ∷ [])) (λ n. x ≡ decimal n) (λ n. Code (line.Label n)) (label_of x)
    (label-spelt x) (λ n f. both (is_dot dot e) f)
  where
    both : {p : Piece} {y : List ℕ} → dot ≡ p → x ≡ y → dot ∷ Word x ∷ [] ≡ p ∷ Word y ∷ []
    both a b = cc

pub line-written : (ps : List Piece) → Gives (IsLine ps) (read.code_line ps)
line-written [] = instruction-line []
line-written (p ∷ []) =
    gives-if (IsLine (p ∷ [])) (spells p (codes "end")) (Ok End) (read.instruction_line (p ∷ []))
    (λ e. ap (λ q. q ∷ []) (is_word p (codes "end") e)) (instruction-line (p ∷ []))
line-written (dot ∷ p ∷ []) =
    gives-if (IsLine (dot ∷ p ∷ [])) (is_mark dot Dot) (read.label_line p) (read.instruction_line (dot ∷ p ∷ []))
    (λ e. label-line dot p e) (instruction-line (dot ∷ p ∷ []))
line-written (p ∷ q ∷ r ∷ rest) = instruction-line (p ∷ q ∷ r ∷ rest)

-- a line has one text
pub line-spelt : (t : List ℕ) (l : Line) → read.code_line (pieces t) ≡ Ok (Code l) → t ≡ line_text l
line-spelt t l e =
    let is : pieces t ≡ line_pieces l = gives-of (IsLine (pieces t)) (read.code_line (pieces t)) (Code l)
    (line-written (pieces t)) e in
    sym (text-pieces t) ∙ (ap text is ∙ text-line l)
