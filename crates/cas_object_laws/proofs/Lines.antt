-- What is printed of a line of a function is read as that line.
use Rattle.std.proofs.Common.{◌≡◌, ℕ, ◌<◌, ◌^◌, List, [], ◌∷◌, ◌++◌, codes, Bool, true, false, ◌||◌, cond, Option, Some, None, Ok, refl, ap, sym, ◌∙◌, arith, append_assoc}
use Rattle.std.proofs.lemmas.List.{append-nil}
use Rattle.std.specs.Fmt.{decimal, signed_decimal}
use Rattle.std.specs.Ordering.{int_eq}
use Rattle.std.specs.Prelude.{ℤ, pos, Result}
use Rattle.cas_base.specs.Name.{is_name}
use Rattle.cas_base.specs.Word.{signed}
use Rattle.cas_base.specs.declared.reg.Reg.{Reg}
use Rattle.cas_base.specs.declared.reg.Reg.TheVariants.{Eax, Ecx}
use Rattle.std.proofs.lemmas.Bool.Decides.{nat_tests}
use Rattle.cas_asm.specs.declared.cond.Cond.{Cond}
use Rattle.cas_asm.specs.declared.cond.Cond.TheVariants.{O, No, B, Ae, E, Ne, Be, A, S, Ns, P, Np, L, Ge, Le, G}
use Rattle.cas_asm.specs.declared.instr.Callee.TheVariants as callee
use Rattle.cas_asm.specs.declared.instr.Count.{Count}
use Rattle.cas_asm.specs.declared.instr.Count.TheVariants as count
use Rattle.cas_asm.specs.declared.instr.Extension.{Extension}
use Rattle.cas_asm.specs.declared.instr.Extension.TheVariants.{Sign8, Sign16, Zero8, Zero16}
use Rattle.cas_asm.specs.declared.instr.Instr.{Instr}
use Rattle.cas_asm.specs.declared.instr.Instr.TheVariants as i
use Rattle.cas_asm.specs.declared.instr.Mem.{Mem}
use Rattle.cas_asm.specs.declared.instr.Operation.{Operation}
use Rattle.cas_asm.specs.declared.instr.Operation.TheVariants as op
use Rattle.cas_asm.specs.declared.instr.ShiftKind.{ShiftKind}
use Rattle.cas_asm.specs.declared.instr.ShiftKind.TheVariants as kind
use Rattle.cas_asm.specs.declared.instr.Source.{Source}
use Rattle.cas_asm.specs.declared.instr.Source.TheVariants as source
use Rattle.cas_asm.specs.declared.instr.Target.TheVariants as target
use Rattle.cas_asm.specs.declared.instr.Value.{Value}
use Rattle.cas_asm.specs.declared.instr.Value.TheVariants as value
use Rattle.cas_asm.specs.declared.line.Line.{Line}
use Rattle.cas_asm.specs.declared.line.Line.TheVariants as line
use Rattle.cas_pieces.specs.declared.piece.Mark.TheVariants.{At, Dot}
use Rattle.cas_pieces.specs.declared.piece.Piece.{Piece}
use Rattle.cas_pieces.specs.declared.piece.Piece.TheVariants.{Word, Mark}
use Rattle.cas_pieces.specs.Pieces.{pieces, text, AreProper}
use Rattle.cas_pieces.specs.Words.{is_word}
use Rattle.cas_pieces.proofs.Numerals.{number-decimal}
use Rattle.cas_pieces.proofs.Spelling.{pieces-text}
use Rattle.cas_object_line.specs.declared.code.CodeLine.{CodeLine}
use Rattle.cas_object_line.specs.declared.code.CodeLine.TheVariants.{Code}
use Rattle.cas_object_line.specs.declared.fault.LineFault.{LineFault}
use Rattle.cas_object_line.specs.declared.mnemonic.Mnemonic.{Mnemonic}
use Rattle.cas_object_line.specs.declared.mnemonic.Mnemonic.TheVariants as m
use Rattle.cas_object_line.specs.declared.operand.Operand.{Operand}
use Rattle.cas_object_line.specs.declared.operand.Operand.TheVariants as operand
use Rattle.cas_object_line.specs.Codes.{code_line}
use Rattle.cas_object_line.specs.Instructions.{Read, made_of, unary, binary}
use Rattle.cas_object_line.specs.Numbers.{label_of, small_label, small_count}
use Rattle.cas_object_line.specs.Operands.{operand_of}
use Rattle.cas_object_line.specs.Tables.{mnemonic_of, condition_of}
use Rattle.cas_object_print.specs.Instructions.{instr}
use Rattle.cas_object_print.specs.Operands as print
use Rattle.cas_object_print.specs.Page.{integer}
use Rattle.cas_object_print.specs.Words.{register, condition, operation}
use Rattle.cas_object_laws.specs.Formed.{line_text, IsFormedSource, IsFormedValue, IsFormedCount, IsFormedMem, IsFormedInstr, IsFormed}
use Rattle.cas_object_laws.proofs.Numerals.{numeral_of, is_word-decimal, is_word-name, signed_integer, word_of-signed}
use Rattle.cas_object_laws.proofs.Operands.{read_register, read_integer, read_symbol, read_label, read_mem, mem_read, address_in, free_mem}
use Rattle.cas_object_laws.proofs.Proper.{Follows, proper-integer, proper-mem}
use Rattle.cas_object_laws.proofs.Registers.{is_word-register}
use Rattle.cas_object_laws.proofs.Sequences.{no_comma, one_pieces, two_pieces, read_one, read_two, line_one, line_two, text-two, proper-one, proper-two}
use Rattle.cas_object_laws.proofs.Spelled.{integer_pieces, mem_pieces, text-integer, text-mem}

-- a line is read from its text: pieces that spell it, are proper, and are read as it
read_back : (t : List ℕ) (ps : List Piece) (l : Line) → text ps ≡ t → AreProper ps → code_line ps ≡ Ok (Code l) →
    code_line (pieces t) ≡ Ok (Code l)
read_back t ps l spelt proper is = ap code_line (ap pieces (sym spelt) ∙ pieces-text ps proper) ∙ is

abbrev as_line : Read → Result CodeLine LineFault
as_line r = made_of (λ (x : Instr (List ℕ)). Code (line.Run x)) r

-- a word alone
abbrev alone : List ℕ → List Piece
alone w = Word w ∷ []

text-alone : (w : List ℕ) → text (alone w) ≡ w
text-alone w = append-nil w

-- one operand
back_one : (x : Instr (List ℕ)) (mn : Mnemonic) (w : List ℕ) (xs : List Piece) (a : Operand) → mnemonic_of w ≡ Some mn →
    is_word w ≡ true → no_comma xs ≡ true → AreProper xs →
    operand_of xs ≡ Some a → unary mn a ≡ Ok x → instr x [] ≡ w ++ (codes " " ++ text xs) →
    code_line (pieces (line_text (line.Run x))) ≡ Ok (Code (line.Run x))
back_one x mn w xs a named worded free proper is made printed =
    read_back _ (one_pieces w xs) (line.Run x) (sym printed) (proper-one w xs worded proper)
    (line_one w xs ∙ ap as_line (read_one mn w xs a named free is ∙ made))

-- two operands
back_two : (x : Instr (List ℕ)) (mn : Mnemonic) (w : List ℕ) (xs ys : List Piece) (a b : Operand) →
    mnemonic_of w ≡ Some mn → is_word w ≡ true → no_comma xs ≡ true →
    AreProper xs → AreProper ys → operand_of xs ≡ Some a → operand_of ys ≡ Some b → binary mn a b ≡ Ok x →
    instr x [] ≡ w ++ (codes " " ++ (text xs ++ (codes ", " ++ text ys))) →
    code_line (pieces (line_text (line.Run x))) ≡ Ok (Code (line.Run x))
back_two x mn w xs ys a b named worded free proper_xs proper_ys is_a is_b made printed =
    read_back _ (two_pieces w xs ys) (line.Run x) (text-two w xs ys ∙ sym printed)
    (proper-two w xs ys worded proper_xs proper_ys)
    (line_two w xs ys ∙ ap as_line (read_two mn w xs ys a b named free is_a is_b ∙ made))

-- the pieces of operands
abbrev of_source : Source (List ℕ) → List Piece
of_source (source.Reg r) = alone (register r)
of_source (source.Num w) = integer_pieces (signed w) []
of_source (source.Mem place) = mem_pieces place []

abbrev read_source : Source (List ℕ) → Operand
read_source (source.Reg r) = operand.Reg r
read_source (source.Num w) = operand.Number (numeral_of (signed w))
read_source (source.Mem place) = operand.Memory (address_in place)

ended : Follows []
ended = record { apart = refl; proper = tt }

proper_register : (r : Reg) → AreProper (alone (register r))
proper_register r = (is_word-register r, refl, tt)

proper_source : (s : Source (List ℕ)) → IsFormedSource s → AreProper (of_source s)
proper_source (source.Reg r) h = proper_register r
proper_source (source.Num w) h = proper-integer (signed w) [] (signed_integer w h) ended
proper_source (source.Mem place) h = proper-mem place [] h record { apart = refl; proper = ((refl, refl), tt) }

text_source : (s : Source (List ℕ)) → text (of_source s) ≡ print.source s []
text_source (source.Reg r) = refl
text_source (source.Num w) = text-integer (signed w) []
text_source (source.Mem place) = text-mem place []

operand_source : (s : Source (List ℕ)) → IsFormedSource s → operand_of (of_source s) ≡ Some (read_source s)
operand_source (source.Reg r) h = read_register r
operand_source (source.Num w) h = read_integer (signed w) (signed_integer w h)
operand_source (source.Mem place) h = read_mem place h

-- the text before a register and a second operand
into_text : (w : List ℕ) (r : Reg) (rest : List ℕ) (ys : List Piece) → text ys ≡ rest →
    w ++ (codes " " ++ (register r ++ (codes ", " ++ rest))) ≡ w ++
    (codes " " ++ (text (alone (register r)) ++ (codes ", " ++ text ys)))
into_text w r rest ys is = rw (is, append-nil (register r)) refl

-- a register and a register, a number or memory
back_source : (x : Instr (List ℕ)) (mn : Mnemonic) (w : List ℕ) (r : Reg) (s : Source (List ℕ)) →
    mnemonic_of w ≡ Some mn → is_word w ≡ true → IsFormedSource s →
    binary mn (operand.Reg r) (read_source s) ≡ Ok x →
    instr x [] ≡ w ++ (codes " " ++ (register r ++ (codes ", " ++ print.source s []))) →
    code_line (pieces (line_text (line.Run x))) ≡ Ok (Code (line.Run x))
back_source x mn w r s named worded formed made printed =
    back_two x mn w (alone (register r)) (of_source s) (operand.Reg r) (read_source s) named worded refl
    (proper_register r) (proper_source s formed)
    (read_register r) (operand_source s formed) made (printed
    ∙ into_text w r (print.source s []) (of_source s) (text_source s))

mov_read : (r : Reg) (s : Source (List ℕ)) → IsFormedSource s →
    binary m.Mov (operand.Reg r) (read_source s) ≡ Ok (i.Mov r s)
mov_read r (source.Reg q) h = refl
mov_read r (source.Num w) h = rw (word_of-signed w h) refl
mov_read r (source.Mem place) h = rw (mem_read place h) refl

cmp_read : (r : Reg) (s : Source (List ℕ)) → IsFormedSource s →
    binary m.Cmp (operand.Reg r) (read_source s) ≡ Ok (i.Cmp r s)
cmp_read r (source.Reg q) h = refl
cmp_read r (source.Num w) h = rw (word_of-signed w h) refl
cmp_read r (source.Mem place) h = rw (mem_read place h) refl

-- operations
abbrev mnemonic_by : Operation → Mnemonic
mnemonic_by op.Add = m.Add
mnemonic_by op.Sub = m.Sub
mnemonic_by op.And = m.And
mnemonic_by op.Or = m.Or
mnemonic_by op.Xor = m.Xor
mnemonic_by op.Imul = m.Imul

operation_named : (what : Operation) → mnemonic_of (operation what) ≡ Some (mnemonic_by what)
operation_named op.Add = refl
operation_named op.Sub = refl
operation_named op.And = refl
operation_named op.Or = refl
operation_named op.Xor = refl
operation_named op.Imul = refl

operation_worded : (what : Operation) → is_word (operation what) ≡ true
operation_worded op.Add = refl
operation_worded op.Sub = refl
operation_worded op.And = refl
operation_worded op.Or = refl
operation_worded op.Xor = refl
operation_worded op.Imul = refl

operate_read : (what : Operation) (r : Reg) (s : Source (List ℕ)) → IsFormedSource s →
    binary (mnemonic_by what) (operand.Reg r) (read_source s) ≡ Ok (i.Operate what r s)
operate_read op.Add r (source.Reg q) h = refl
operate_read op.Sub r (source.Reg q) h = refl
operate_read op.And r (source.Reg q) h = refl
operate_read op.Or r (source.Reg q) h = refl
operate_read op.Xor r (source.Reg q) h = refl
operate_read op.Imul r (source.Reg q) h = refl
operate_read op.Add r (source.Num w) h = rw (word_of-signed w h) refl
operate_read op.Sub r (source.Num w) h = rw (word_of-signed w h) refl
operate_read op.And r (source.Num w) h = rw (word_of-signed w h) refl
operate_read op.Or r (source.Num w) h = rw (word_of-signed w h) refl
operate_read op.Xor r (source.Num w) h = rw (word_of-signed w h) refl
operate_read op.Imul r (source.Num w) h = rw (word_of-signed w h) refl
operate_read op.Add r (source.Mem place) h = rw (mem_read place h) refl
operate_read op.Sub r (source.Mem place) h = rw (mem_read place h) refl
operate_read op.And r (source.Mem place) h = rw (mem_read place h) refl
operate_read op.Or r (source.Mem place) h = rw (mem_read place h) refl
operate_read op.Xor r (source.Mem place) h = rw (mem_read place h) refl
operate_read op.Imul r (source.Mem place) h = rw (mem_read place h) refl

-- what is printed of a memory operand before more text
symbol_before : (s : Option (List ℕ)) (a b : List ℕ) → print.symbol_part s (a ++ b) ≡ print.symbol_part s a ++ b
symbol_before None a b = refl
symbol_before (Some x) a b = ap (λ (t : List ℕ). codes "@" ++ t) (sym (append_assoc x a b))

joint_before : (after : Bool) (a b : List ℕ) → print.joint after (a ++ b) ≡ print.joint after a ++ b
joint_before true a b = refl
joint_before false a b = refl

base_before : (after : Bool) (c : Option Reg) (a b : List ℕ) →
    print.base_part after c (a ++ b) ≡ print.base_part after c a ++ b
base_before after None a b = refl
base_before after (Some r) a b = ap (print.joint after) (sym (append_assoc (register r) a b))
    ∙ joint_before after (register r ++ a) b

index_before : (after : Bool) (c : Option (Reg × Bool)) (a b : List ℕ) →
    print.index_part after c (a ++ b) ≡ print.index_part after c a ++ b
index_before after None a b = refl
index_before after (Some c) a b =
    ap (print.joint after) (ap (λ (t : List ℕ). register c.0 ++ t) (sym (append_assoc (print.scale c.1) a b))
    ∙ sym (append_assoc (register c.0) (print.scale c.1 ++ a) b))
    ∙ joint_before after (register c.0 ++ (print.scale c.1 ++ a)) b

integer_before : (z : ℤ) (a b : List ℕ) → integer z (a ++ b) ≡ integer z a ++ b
unfolding integer
integer_before z a b = sym (append_assoc (signed_decimal z) a b)

number_before : (after : Bool) (z : ℤ) (a b : List ℕ) →
    print.number_part after z (a ++ b) ≡ print.number_part after z a ++ b
number_before after z a b = by_first (print.is_joined after z) (int_eq z (pos 0))
  where
    by_first : (t u : Bool) → cond t (integer z (a ++ b)) (cond u (a ++ b) (codes "+" ++ integer z (a ++ b))) ≡ cond t
        (integer z a) (cond u a (codes "+" ++ integer z a)) ++ b
    by_first true u = integer_before z a b
    by_first false true = refl
    by_first false false = ap (λ (t : List ℕ). codes "+" ++ t) (integer_before z a b)

pub mem_before : (place : Mem (List ℕ)) (rest : List ℕ) → print.mem place rest ≡ text (mem_pieces place []) ++ rest
mem_before place rest =
    ap (λ (t : List ℕ). codes "[" ++ t) (
    ap (print.symbol_part place.sym) (
    ap (print.base_part (print.is_there place.sym) place.base) (
    ap (print.index_part (print.is_there place.sym || print.is_there place.base) place.index) (
    number_before ((print.is_there place.sym || print.is_there place.base) || print.is_there place.index) place.disp
    (codes "]") rest)
    ∙ index_before (print.is_there place.sym || print.is_there place.base) place.index _ rest)
    ∙ base_before (print.is_there place.sym) place.base _ rest)
    ∙ symbol_before place.sym _ rest)
    ∙ ap (λ (t : List ℕ). t ++ rest) (sym (text-mem place []))

-- a place in memory and a register or a number
into_mem_text : (w : List ℕ) (place : Mem (List ℕ)) (rest : List ℕ) (ys : List Piece) → text ys ≡ rest →
    w ++ (codes " " ++ print.mem place (codes ", " ++ rest)) ≡ w ++
    (codes " " ++ (text (mem_pieces place []) ++ (codes ", " ++ text ys)))
into_mem_text w place rest ys is = ap (λ (t : List ℕ). w ++ (codes " " ++ t))
    (mem_before place (codes ", " ++ rest) ∙ ap (λ (t : List ℕ). text (mem_pieces place []) ++ (codes ", " ++ t))
    (sym is))

back_place : (x : Instr (List ℕ)) (mn : Mnemonic) (w : List ℕ) (place : Mem (List ℕ)) (ys : List Piece) (b : Operand)
    (rest : List ℕ) → mnemonic_of w ≡ Some mn → is_word w ≡ true → IsFormedMem place →
    AreProper ys → operand_of ys ≡ Some b → text ys ≡ rest → binary mn (operand.Memory (address_in place)) b ≡ Ok x →
    instr x [] ≡ w ++ (codes " " ++ print.mem place (codes ", " ++ rest)) →
    code_line (pieces (line_text (line.Run x))) ≡ Ok (Code (line.Run x))
back_place x mn w place ys b rest named worded formed proper is spelt made printed =
    back_two x mn w (mem_pieces place []) ys (operand.Memory (address_in place)) b named worded (free_mem place)
    (proper-mem place [] formed record { apart = refl; proper = ((refl, refl), tt) }) proper (read_mem place formed)
    is made
    (printed ∙ into_mem_text w place rest ys spelt)

-- a register alone
back_register : (x : Instr (List ℕ)) (mn : Mnemonic) (w : List ℕ) (r : Reg) → mnemonic_of w ≡ Some mn →
    is_word w ≡ true → unary mn (operand.Reg r) ≡ Ok x →
    instr x [] ≡ w ++ (codes " " ++ (register r ++ [])) →
    code_line (pieces (line_text (line.Run x))) ≡ Ok (Code (line.Run x))
back_register x mn w r named worded made printed =
    back_one x mn w (alone (register r)) (operand.Reg r) named worded refl (proper_register r) (read_register r)
    made printed

-- two registers
back_registers : (x : Instr (List ℕ)) (mn : Mnemonic) (w : List ℕ) (r q : Reg) → mnemonic_of w ≡ Some mn →
    is_word w ≡ true → binary mn (operand.Reg r) (operand.Reg q) ≡ Ok x →
    instr x [] ≡ w ++ (codes " " ++ (register r ++ (codes ", " ++ (register q ++ [])))) →
    code_line (pieces (line_text (line.Run x))) ≡ Ok (Code (line.Run x))
back_registers x mn w r q named worded made printed =
    back_source x mn w r (source.Reg q) named worded tt made printed

extension_back : (e : Extension) (r q : Reg) → code_line (pieces (line_text (line.Run (i.Extend e r q)))) ≡ Ok
    (Code (line.Run (i.Extend e r q)))
extension_back Sign8 r q = back_registers (i.Extend Sign8 r q) m.Movsx8 (codes "movsx8") r q refl refl refl refl
extension_back Sign16 r q = back_registers (i.Extend Sign16 r q) m.Movsx16 (codes "movsx16") r q refl refl refl refl
extension_back Zero8 r q = back_registers (i.Extend Zero8 r q) m.Movzx8 (codes "movzx8") r q refl refl refl refl
extension_back Zero16 r q = back_registers (i.Extend Zero16 r q) m.Movzx16 (codes "movzx16") r q refl refl refl refl

test_back : (r : Reg) (v : Value) → IsFormedValue v → code_line (pieces (line_text (line.Run (i.Test r v)))) ≡ Ok
    (Code (line.Run (i.Test r v)))
test_back r (value.Reg q) h = back_source (i.Test r (value.Reg q)) m.Test (codes "test") r
    (source.Reg q) refl refl tt refl refl
test_back r (value.Num w) h = back_source (i.Test r (value.Num w)) m.Test (codes "test") r (source.Num w) refl refl h
    (rw (word_of-signed w h) refl) refl

store_back : (place : Mem (List ℕ)) (v : Value) → IsFormedMem place → IsFormedValue v →
    code_line (pieces (line_text (line.Run (i.Store place v)))) ≡ Ok (Code (line.Run (i.Store place v)))
store_back place (value.Reg q) f h =
    back_place (i.Store place (value.Reg q)) m.Mov (codes "mov") place (alone (register q)) (operand.Reg q)
    (register q ++ []) refl refl f (proper_register q) (read_register q) refl (rw (mem_read place f) refl) refl
store_back place (value.Num w) f h =
    back_place (i.Store place (value.Num w)) m.Mov (codes "mov") place (integer_pieces (signed w) [])
    (operand.Number (numeral_of (signed w))) (print.word w []) refl refl f
    (proper-integer (signed w) [] (signed_integer w h) ended) (read_integer (signed w) (signed_integer w h))
    (text-integer (signed w) [])
    (rw (word_of-signed w h, mem_read place f) refl) refl

cmp_mem_back : (place : Mem (List ℕ)) (w : ℕ) → IsFormedMem place → w < 2 ^ 32 →
    code_line (pieces (line_text (line.Run (i.CmpMem place w)))) ≡ Ok (Code (line.Run (i.CmpMem place w)))
cmp_mem_back place w f h =
    back_place (i.CmpMem place w) m.Cmp (codes "cmp") place (integer_pieces (signed w) [])
    (operand.Number (numeral_of (signed w))) (print.word w []) refl refl f
    (proper-integer (signed w) [] (signed_integer w h) ended) (read_integer (signed w) (signed_integer w h))
    (text-integer (signed w) [])
    (rw (word_of-signed w h, mem_read place f) refl) refl

lockdec_back : (place : Mem (List ℕ)) → IsFormedMem place →
    code_line (pieces (line_text (line.Run (i.LockDec place)))) ≡ Ok (Code (line.Run (i.LockDec place)))
lockdec_back place f =
    back_one (i.LockDec place) m.Lockdec (codes "lockdec") (mem_pieces place []) (operand.Memory (address_in place))
    refl refl (free_mem place)
    (proper-mem place [] f record { apart = refl; proper = ((refl, refl), tt) }) (read_mem place f)
    (rw (mem_read place f) refl)
    (ap (λ (t : List ℕ). codes "lockdec " ++ t) (sym (text-mem place [])))

lea_back : (r : Reg) (place : Mem (List ℕ)) → IsFormedMem place →
    code_line (pieces (line_text (line.Run (i.Lea r place)))) ≡ Ok (Code (line.Run (i.Lea r place)))
lea_back r place f = back_source (i.Lea r place) m.Lea (codes "lea") r (source.Mem place) refl refl f
    (rw (mem_read place f) refl) refl

-- shifts
small_shift : (n : ℕ) → n < 32 → small_count false n ≡ Ok n
small_shift n h = grind (arith, nat_tests)

fixed_back : (k : ShiftKind) (mn : Mnemonic) (w : List ℕ) (r : Reg) (n : ℕ) → n < 32 → mnemonic_of w ≡ Some mn →
    is_word w ≡ true →
    binary mn (operand.Reg r) (operand.Number (record { negative = false; digits = decimal n })) ≡ Ok
    (i.Shift k r (count.Fixed n)) →
    instr (i.Shift k r (count.Fixed n)) [] ≡ w ++ (codes " " ++ (register r ++ (codes ", " ++ (decimal n ++ [])))) →
    code_line (pieces (line_text (line.Run (i.Shift k r (count.Fixed n))))) ≡ Ok
    (Code (line.Run (i.Shift k r (count.Fixed n))))
fixed_back k mn w r n small named worded made printed =
    back_two (i.Shift k r (count.Fixed n)) mn w (alone (register r)) (alone (decimal n)) (operand.Reg r)
    (operand.Number (numeral_of (pos n))) named worded refl (proper_register r)
    (is_word-decimal n (omega arith), refl, tt) (read_register r) (read_integer (pos n) (omega arith)) made
    (printed ∙ into_text w r (decimal n ++ []) (alone (decimal n)) refl)

shift_back : (k : ShiftKind) (r : Reg) (c : Count) → IsFormedCount c →
    code_line (pieces (line_text (line.Run (i.Shift k r c)))) ≡ Ok (Code (line.Run (i.Shift k r c)))
shift_back kind.Shl r count.Ecx h = back_source (i.Shift kind.Shl r count.Ecx) m.Shl (codes "shl") r (source.Reg Ecx)
    refl refl tt refl refl
shift_back kind.Shr r count.Ecx h = back_source (i.Shift kind.Shr r count.Ecx) m.Shr (codes "shr") r (source.Reg Ecx)
    refl refl tt refl refl
shift_back kind.Sar r count.Ecx h = back_source (i.Shift kind.Sar r count.Ecx) m.Sar (codes "sar") r (source.Reg Ecx)
    refl refl tt refl refl
shift_back kind.Shl r (count.Fixed n) h = fixed_back kind.Shl m.Shl (codes "shl") r n h refl refl
    (rw (number-decimal n (omega arith), small_shift n h) refl) refl
shift_back kind.Shr r (count.Fixed n) h = fixed_back kind.Shr m.Shr (codes "shr") r n h refl refl
    (rw (number-decimal n (omega arith), small_shift n h) refl) refl
shift_back kind.Sar r (count.Fixed n) h = fixed_back kind.Sar m.Sar (codes "sar") r n h refl refl
    (rw (number-decimal n (omega arith), small_shift n h) refl) refl

-- jumps and calls
symbol_proper : (x : List ℕ) → is_name x ≡ true → AreProper (Mark At ∷ Word x ∷ [])
symbol_proper x named = ((refl, refl), (is_word-name x named, refl, tt))

jmp_name_back : (x : List ℕ) → is_name x ≡ true → code_line (pieces (line_text (line.Run (i.Jmp (target.Function x)))))
    ≡ Ok (Code (line.Run (i.Jmp (target.Function x))))
jmp_name_back x named =
    back_one (i.Jmp (target.Function x)) m.Jmp (codes "jmp") (Mark At ∷ Word x ∷ []) (operand.Symbol x) refl refl refl
    (symbol_proper x named) (read_symbol x named) (rw named refl) refl

call_name_back : (x : List ℕ) → is_name x ≡ true → code_line
    (pieces (line_text (line.Run (i.Call (callee.Function x))))) ≡ Ok (Code (line.Run (i.Call (callee.Function x))))
call_name_back x named =
    back_one (i.Call (callee.Function x)) m.Call (codes "call") (Mark At ∷ Word x ∷ []) (operand.Symbol x)
    refl refl refl (symbol_proper x named) (read_symbol x named) (rw named refl) refl

label_proper : (n : ℕ) → n < 2 ^ 32 → AreProper (Mark Dot ∷ Word (decimal n) ∷ [])
label_proper n small = ((refl, refl), (is_word-decimal n (omega arith), refl, tt))

small_read : (n : ℕ) → n < 2 ^ 32 → label_of (decimal n) ≡ Ok n
small_read n small = rw (number-decimal n (omega arith)) (in_range n small)
  where
    in_range : (n : ℕ) → n < 2 ^ 32 → small_label n ≡ Ok n
    in_range n small = grind (arith, nat_tests)

jmp_label_back : (n : ℕ) → n < 2 ^ 32 → code_line (pieces (line_text (line.Run (i.Jmp (target.Label n))))) ≡ Ok
    (Code (line.Run (i.Jmp (target.Label n))))
jmp_label_back n small =
    back_one (i.Jmp (target.Label n)) m.Jmp (codes "jmp") (Mark Dot ∷ Word (decimal n) ∷ []) (operand.Label (decimal n))
    refl refl refl (label_proper n small) (read_label n (omega arith)) (rw (small_read n small) refl) refl

conditional : (on : Cond) (mn : Mnemonic) (w : List ℕ) (n : ℕ) → n < 2 ^ 32 → mnemonic_of w ≡ Some mn →
    is_word w ≡ true → unary mn (operand.Label (decimal n)) ≡ Ok (i.JumpIf on n) →
    instr (i.JumpIf on n) [] ≡ w ++ (codes " " ++ text (Mark Dot ∷ Word (decimal n) ∷ [])) →
    code_line (pieces (line_text (line.Run (i.JumpIf on n)))) ≡ Ok (Code (line.Run (i.JumpIf on n)))
conditional on mn w n small named worded made printed =
    back_one (i.JumpIf on n) mn w (Mark Dot ∷ Word (decimal n) ∷ []) (operand.Label (decimal n)) named worded refl
    (label_proper n small) (read_label n (omega arith)) made printed

-- conditional jumps
jump_back : (on : Cond) (n : ℕ) → n < 2 ^ 32 → code_line (pieces (line_text (line.Run (i.JumpIf on n)))) ≡ Ok
    (Code (line.Run (i.JumpIf on n)))
jump_back O n h = conditional O m.Jo (codes "jo") n h refl refl (rw (small_read n h) refl) refl
jump_back No n h = conditional No m.Jno (codes "jno") n h refl refl (rw (small_read n h) refl) refl
jump_back B n h = conditional B m.Jb (codes "jb") n h refl refl (rw (small_read n h) refl) refl
jump_back Ae n h = conditional Ae m.Jae (codes "jae") n h refl refl (rw (small_read n h) refl) refl
jump_back E n h = conditional E m.Je (codes "je") n h refl refl (rw (small_read n h) refl) refl
jump_back Ne n h = conditional Ne m.Jne (codes "jne") n h refl refl (rw (small_read n h) refl) refl
jump_back Be n h = conditional Be m.Jbe (codes "jbe") n h refl refl (rw (small_read n h) refl) refl
jump_back A n h = conditional A m.Ja (codes "ja") n h refl refl (rw (small_read n h) refl) refl
jump_back S n h = conditional S m.Js (codes "js") n h refl refl (rw (small_read n h) refl) refl
jump_back Ns n h = conditional Ns m.Jns (codes "jns") n h refl refl (rw (small_read n h) refl) refl
jump_back P n h = conditional P m.Jp (codes "jp") n h refl refl (rw (small_read n h) refl) refl
jump_back Np n h = conditional Np m.Jnp (codes "jnp") n h refl refl (rw (small_read n h) refl) refl
jump_back L n h = conditional L m.Jl (codes "jl") n h refl refl (rw (small_read n h) refl) refl
jump_back Ge n h = conditional Ge m.Jge (codes "jge") n h refl refl (rw (small_read n h) refl) refl
jump_back Le n h = conditional Le m.Jle (codes "jle") n h refl refl (rw (small_read n h) refl) refl
jump_back G n h = conditional G m.Jg (codes "jg") n h refl refl (rw (small_read n h) refl) refl

set_of : (on : Cond) (r : Reg) → is_word (condition on) ≡ true →
    operand_of (alone (condition on)) ≡ Some (operand.Word (condition on)) → condition_of (condition on) ≡ Some on →
    code_line (pieces (line_text (line.Run (i.Set on r)))) ≡ Ok (Code (line.Run (i.Set on r)))
set_of on r worded is on_is =
    back_two (i.Set on r) m.Set (codes "set") (alone (condition on)) (alone (register r)) (operand.Word (condition on))
    (operand.Reg r) refl refl refl (worded, refl, tt) (proper_register r)
    is (read_register r) (rw on_is refl) (rw (append-nil (condition on)) refl)

-- `set`
set_back : (on : Cond) (r : Reg) → code_line (pieces (line_text (line.Run (i.Set on r)))) ≡ Ok
    (Code (line.Run (i.Set on r)))
set_back O r = set_of O r refl refl refl
set_back No r = set_of No r refl refl refl
set_back B r = set_of B r refl refl refl
set_back Ae r = set_of Ae r refl refl refl
set_back E r = set_of E r refl refl refl
set_back Ne r = set_of Ne r refl refl refl
set_back Be r = set_of Be r refl refl refl
set_back A r = set_of A r refl refl refl
set_back S r = set_of S r refl refl refl
set_back Ns r = set_of Ns r refl refl refl
set_back P r = set_of P r refl refl refl
set_back Np r = set_of Np r refl refl refl
set_back L r = set_of L r refl refl refl
set_back Ge r = set_of Ge r refl refl refl
set_back Le r = set_of Le r refl refl refl
set_back G r = set_of G r refl refl refl

-- each instruction
instr_back : (x : Instr (List ℕ)) → IsFormedInstr x → code_line (pieces (line_text (line.Run x))) ≡ Ok
    (Code (line.Run x))
instr_back (i.Mov r from) h = back_source (i.Mov r from) m.Mov (codes "mov") r from refl refl h (mov_read r from h) refl
instr_back (i.Store place from) h = store_back place from h.0 h.1
instr_back (i.Extend e r q) h = extension_back e r q
instr_back (i.Lea r place) h = lea_back r place h
instr_back (i.Operate what r from) h = back_source (i.Operate what r from) (mnemonic_by what) (operation what) r from
    (operation_named what) (operation_worded what) h (operate_read what r from h) refl
instr_back (i.Cmp r from) h = back_source (i.Cmp r from) m.Cmp (codes "cmp") r from refl refl h (cmp_read r from h) refl
instr_back (i.CmpMem place w) h = cmp_mem_back place w h.0 h.1
instr_back (i.Test r with) h = test_back r with h
instr_back (i.Neg r) h = back_register (i.Neg r) m.Neg (codes "neg") r refl refl refl refl
instr_back (i.Not r) h = back_register (i.Not r) m.Not (codes "not") r refl refl refl refl
instr_back (i.Shift k r by) h = shift_back k r by h
instr_back i.Cdq h = read_back (codes "cdq") (alone (codes "cdq")) (line.Run i.Cdq) refl (refl, refl, tt) refl
instr_back (i.Idiv r) h = back_register (i.Idiv r) m.Idiv (codes "idiv") r refl refl refl refl
instr_back (i.Div r) h = back_register (i.Div r) m.Div (codes "div") r refl refl refl refl
instr_back (i.Push r) h = back_register (i.Push r) m.Push (codes "push") r refl refl refl refl
instr_back (i.Pop r) h = back_register (i.Pop r) m.Pop (codes "pop") r refl refl refl refl
instr_back (i.Jmp (target.Label n)) h = jmp_label_back n h
instr_back (i.Jmp (target.Function x)) h = jmp_name_back x h
instr_back (i.JumpIf on n) h = jump_back on n h
instr_back (i.Call callee.Lock) h = back_one (i.Call callee.Lock) m.Call (codes "call") (alone (codes "lock"))
    (operand.Word (codes "lock")) refl refl refl (refl, refl, tt) refl refl refl
instr_back (i.Call callee.Unlock) h = back_one (i.Call callee.Unlock) m.Call (codes "call") (alone (codes "unlock"))
    (operand.Word (codes "unlock")) refl refl refl (refl, refl, tt) refl refl refl
instr_back (i.Call (callee.Function x)) h = call_name_back x h
instr_back i.Ret h = read_back (codes "ret") (alone (codes "ret")) (line.Run i.Ret) refl (refl, refl, tt) refl
instr_back i.Out h = back_register i.Out m.Out (codes "out") Eax refl refl refl refl
instr_back (i.LockDec place) h = lockdec_back place h
instr_back (i.Set on r) h = set_back on r

label_back : (n : ℕ) → n < 2 ^ 32 → code_line (pieces (line_text (line.Label n))) ≡ Ok (Code (line.Label n))
label_back n small =
    read_back _ (Mark Dot ∷ Word (decimal n) ∷ []) (line.Label n) refl (label_proper n small)
    (rw (small_read n small) refl)

-- each line
pub line_back : (l : Line) → IsFormed l → code_line (pieces (line_text l)) ≡ Ok (Code l)
line_back (line.Label n) h = label_back n h
line_back (line.Run x) h = instr_back x h
