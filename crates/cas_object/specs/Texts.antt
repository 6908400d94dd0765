-- Texts of objects: what their lines are read as, one after another, and the first fault.
use Rattle.std.specs.Prelude.{ℕ, ◌+◌, if◌then◌else◌, nat_lt, List, [], ◌∷◌, ◌++◌, length, codes, Result, Ok, Err}
use Rattle.std.specs.List.{list_all}
use Rattle.cas_asm.specs.declared.line.AsmFun.{AsmFun}
use Rattle.cas_asm.specs.declared.line.Line.{Line}
use Rattle.cas_asm.specs.declared.line.Line.TheVariants as l
use Rattle.cas_base.specs.Decl.{words_of_form}
use Rattle.cas_base.specs.declared.decl.Unit.{Unit as Module}
use Rattle.cas_pieces.specs.Lines.{lines}
use Rattle.cas_pieces.specs.Pieces.{pieces}
use Rattle.cas_pieces.specs.declared.piece.Piece.{Piece}
use Rattle.cas_object_line.specs.Codes.{code_line}
use Rattle.cas_object_line.specs.declared.code.CodeLine.{CodeLine}
use Rattle.cas_object_line.specs.declared.code.CodeLine.TheVariants as c
use Rattle.cas_object_line.specs.declared.fault.LineFault.{LineFault}
use Rattle.cas_object_line.specs.declared.fault.LineFault.TheVariants as fault
use Rattle.cas_object_decl.specs.Data.{is_number}
use Rattle.cas_object_decl.specs.Fields.{fields, spells}
use Rattle.cas_object_decl.specs.Lines.{decl_line}
use Rattle.cas_object_decl.specs.declared.field.Field.{Field}
use Rattle.cas_object_decl.specs.declared.line.DeclLine.{DeclLine}
use Rattle.cas_object_decl.specs.declared.line.DeclLine.TheVariants.{Extern, Data, Function, End}
use Rattle.cas_object_text.specs.Labels.{is_set, uses_set}
use Rattle.cas_object.specs.Bodies.{Body, instructions, opened, with_line}
use Rattle.cas_object.specs.Drafts.{empty, words, with_extern, with_data, with_function}
use Rattle.cas_object.specs.declared.fault.ObjectCode.{ObjectCode}
use Rattle.cas_object.specs.declared.fault.ObjectCode.TheVariants.{B1, B2, B3, B4, B5}
use Rattle.cas_object.specs.declared.fault.ObjectFault.{ObjectFault}
use Rattle.cas_object.specs.declared.fault.ObjectFault.TheVariants.{Memory, At}
use Rattle.cas_object.specs.declared.inside.Inside.{Inside}
use Rattle.cas_object.specs.declared.inside.Inside.TheVariants as inside

-- what a text has given: its whole objects, and what is open after them
pub record Reading : Type 0 where
  pub units : List (Module AsmFun)
  pub inside : Inside

-- what is open after a line, or the fault of that line
abbrev pub Opens : Type 0
Opens = Result Inside ObjectFault

-- what is read after a line, by that line
abbrev pub and_then : {A B : Type 0} → (A → Result B ObjectFault) → Result A ObjectFault → Result B ObjectFault
and_then read (Ok x) = read x
and_then read (Err found) = Err found

-- the fault of the line with this number
abbrev pub refused : {A : Type 0} → ObjectCode → ℕ → Result A ObjectFault
refused code n = Err (At code n)

abbrev pub fault_of : LineFault → ℕ → ObjectFault
fault_of fault.Memory n = Memory
fault_of fault.Form n = At B2 n
fault_of fault.Range n = At B3 n

-- a line that is read, by its number
abbrev pub at_line : {A : Type 0} → ℕ → Result A LineFault → Result A ObjectFault
at_line n (Ok x) = Ok x
at_line n (Err found) = Err (fault_of found n)

-- the first line of an object: `object 1`
abbrev pub version : ℕ → Field → Opens
version n field =
    if spells field (codes "1") then Ok (inside.Object empty) else (
    if is_number field then refused B1 n else refused B2 n)

abbrev pub first_line : ℕ → List Field → Opens
first_line n (word ∷ field ∷ []) = if spells word (codes "object") then version n field else refused B2 n
first_line n _ = refused B2 n

-- a label is set once, and a function has at most 4194304 instructions
abbrev pub line : ℕ → Module AsmFun → Body → Line → Opens
line n unit body (l.Label m) =
    if is_set body.lines m then refused B3 n else Ok (inside.Function unit (with_line body (l.Label m)))
line n unit body (l.Run i) =
    if nat_lt (instructions body.lines) 4194304 then Ok (inside.Function unit (with_line body (l.Run i)))
    else refused B5 n

-- a line of a function; at its `end` each label that it uses is set
abbrev pub code : ℕ → Module AsmFun → Body → CodeLine → Opens
code n unit body (c.Code found) = line n unit body found
code n unit body c.End =
    if list_all (uses_set body.lines) body.lines then Ok (inside.Object (with_function unit body)) else refused B3 n

-- what is read, where a line opens or closes nothing but what is in the last object
abbrev pub going_on : List (Module AsmFun) → Inside → Reading
going_on units now = record { units = units; inside = now }

abbrev pub goes_on : List (Module AsmFun) → Opens → Result Reading ObjectFault
goes_on units (Ok now) = Ok (going_on units now)
goes_on units (Err found) = Err found

-- a global or lock: the object has at most 65536 words
abbrev pub data_line : ℕ → Module AsmFun → DeclLine → Opens
data_line n unit (Extern decl) = Ok (inside.Object (with_extern unit decl))
data_line n unit (Data global) =
    if nat_lt 65536 (words unit.globals + words_of_form global.decl.form) then refused B5 n
    else Ok (inside.Object (with_data unit global))
data_line n unit (Function decl) =
    if nat_lt (length unit.funs) 1024 then Ok (inside.Function unit (opened decl)) else refused B5 n
data_line n unit End = Ok inside.Text

-- a line of an object, outside functions
abbrev pub declared : ℕ → List (Module AsmFun) → Module AsmFun → DeclLine → Result Reading ObjectFault
declared n units unit End = Ok (going_on (units ++ unit ∷ []) inside.Text)
declared n units unit line = goes_on units (data_line n unit line)

-- what is read after one line more, which has this number
abbrev pub next : ℕ → List (Module AsmFun) → Inside → List Piece → Result Reading ObjectFault
next n units inside.Text ps = goes_on units (first_line n (fields ps))
next n units (inside.Object unit) ps = and_then (declared n units unit) (at_line n (decl_line (fields ps)))
next n units (inside.Function unit body) ps =
    goes_on units (and_then (code n unit body) (at_line n (code_line ps)))

-- the end of a text: its last line is ended, no object is open, and there is one
abbrev pub at_end : ℕ → List (Module AsmFun) → Inside → Result (List (Module AsmFun)) ObjectFault
at_end n [] inside.Text = refused B4 n
at_end n units inside.Text = Ok units
at_end n units now = refused B4 n

abbrev pub last_line : ℕ → Reading → List ℕ → Result (List (Module AsmFun)) ObjectFault
last_line n reading [] = at_end n reading.units reading.inside
last_line n reading (b ∷ bs) = refused B2 n

-- the objects of these lines, of which the first has this number, after what was read before
abbrev pub read_from : List (List ℕ) → ℕ → Reading → Result (List (Module AsmFun)) ObjectFault
read_from [] n reading = last_line n reading []
read_from (line ∷ []) n reading = last_line n reading line
read_from (line ∷ other ∷ others) n reading =
    and_then (read_from (other ∷ others) (n + 1)) (next n reading.units reading.inside (pieces line))

-- the objects of a text, or its first fault
abbrev pub read : List ℕ → Result (List (Module AsmFun)) ObjectFault
read text = read_from (lines text) 1 (going_on [] inside.Text)
