-- The lines of functions: a label, an instruction or `end`.
use Rattle.std.specs.Prelude.{ℕ, if◌then◌else◌, List, [], ◌∷◌, codes, Option, Some, None, Result, Ok, Err, take, drop}
use Rattle.std.specs.List.{position}
use Rattle.cas_asm.specs.declared.line.Line.TheVariants as line
use Rattle.cas_pieces.specs.declared.piece.Mark.TheVariants.{Space, Comma, Dot}
use Rattle.cas_pieces.specs.declared.piece.Piece.{Piece}
use Rattle.cas_pieces.specs.declared.piece.Piece.TheVariants.{Word, Mark}
use Rattle.cas_pieces.specs.Marks.{is_mark, spells}
use Rattle.cas_object_line.specs.declared.code.CodeLine.{CodeLine}
use Rattle.cas_object_line.specs.declared.code.CodeLine.TheVariants.{Code, End}
use Rattle.cas_object_line.specs.declared.fault.LineFault.{LineFault}
use Rattle.cas_object_line.specs.declared.fault.LineFault.TheVariants.{Form}
use Rattle.cas_object_line.specs.declared.mnemonic.Mnemonic.{Mnemonic}
use Rattle.cas_object_line.specs.declared.operand.Operand.{Operand}
use Rattle.cas_object_line.specs.Instructions.{Read, made_of, bare, unary, binary}
use Rattle.cas_object_line.specs.Numbers.{label_of}
use Rattle.cas_object_line.specs.Operands.{operand_of}
use Rattle.cas_object_line.specs.Tables.{mnemonic_of}

-- a mnemonic
abbrev pub mnemonic_piece : Piece → Option Mnemonic
mnemonic_piece (Word x) = mnemonic_of x
mnemonic_piece (Mark m) = None

abbrev pub one_operand : Mnemonic → Option Operand → Read
one_operand mnemonic None = Err Form
one_operand mnemonic (Some operand) = unary mnemonic operand

abbrev pub two_operands : Mnemonic → Option Operand → Option Operand → Read
two_operands mnemonic (Some first) (Some second) = binary mnemonic first second
two_operands mnemonic _ _ = Err Form

-- operands before a comma, and after it and a space
abbrev pub around_comma : Mnemonic → (front back : List Piece) → Read
around_comma mnemonic front (comma ∷ space ∷ rest) =
    if is_mark space Space then two_operands mnemonic (operand_of front) (operand_of rest) else Err Form
around_comma mnemonic front _ = Err Form

-- one operand, or two where there is a comma
abbrev pub operands_by : Option ℕ → Mnemonic → List Piece → Read
operands_by None mnemonic ps = one_operand mnemonic (operand_of ps)
operands_by (Some at) mnemonic ps = around_comma mnemonic (take at ps) (drop at ps)

abbrev pub operands : Mnemonic → List Piece → Read
operands mnemonic ps = operands_by (position (λ p. is_mark p Comma) ps) mnemonic ps

abbrev pub without_operands : Option Mnemonic → Read
without_operands None = Err Form
without_operands (Some mnemonic) = bare mnemonic

abbrev pub with_operands : Option Mnemonic → List Piece → Read
with_operands None ps = Err Form
with_operands (Some mnemonic) ps = operands mnemonic ps

-- an instruction: a mnemonic, and its operands after a space, with `, ` between
abbrev pub instruction : List Piece → Read
instruction [] = Err Form
instruction (word ∷ []) = without_operands (mnemonic_piece word)
instruction (word ∷ space ∷ rest) =
    if is_mark space Space then with_operands (mnemonic_piece word) rest else Err Form

-- a label
abbrev pub label_line : Piece → Result CodeLine LineFault
label_line (Word x) = made_of (λ n. Code (line.Label n)) (label_of x)
label_line (Mark m) = Err Form

abbrev pub instruction_line : List Piece → Result CodeLine LineFault
instruction_line ps = made_of (λ instr. Code (line.Run instr)) (instruction ps)

-- a line that may stand in a function
abbrev pub code_line : List Piece → Result CodeLine LineFault
code_line (word ∷ []) = if spells word (codes "end") then Ok End else instruction_line (word ∷ [])
code_line (dot ∷ label ∷ []) = if is_mark dot Dot then label_line label else instruction_line (dot ∷ label ∷ [])
code_line ps = instruction_line ps
