-- The lines that commands print, and that of a fault of a module.
use Rattle.std.specs.Prelude.{ℕ, ◌+◌, List, [], ◌∷◌, ◌++◌, map, Option, Some, None, codes}
use Rattle.std.specs.Fmt.{decimal, signed_decimal}
use Rattle.cas_base.specs.Word.{signed}
use Rattle.cas_base.specs.declared.place.Place.{Place}
use Rattle.cas_lex.specs.declared.code.ReadCode.{ReadCode}
use Rattle.cas_lex.specs.declared.code.ReadCode.TheVariants.{R1, R2, R3, R4, R5, R6, R7, R8}
use Rattle.cas_own.specs.Checked.{OwnFaultTree}
use Rattle.cas_own.specs.declared.fault.OwnCode.{OwnCode}
use Rattle.cas_own.specs.declared.fault.OwnCode.TheVariants.{O1, O2, O3, O4, O5, O6, O7, O8}
use Rattle.cas_typed.specs.Faults.{Fault, fault, limit}
use Rattle.cas_typed.specs.declared.fault.TypeCode.{TypeCode}
use Rattle.cas_typed.specs.declared.fault.TypeCode.TheVariants.{T1, T2, T3, T4, T5, T6, T7}
use Rattle.cas_typed.specs.declared.fault.TypeCount.{TypeCount}
use Rattle.cas_typed.specs.declared.fault.TypeCount.TheVariants.{Parameters, Cells, Nodes, Functions, Words}
use Rattle.cas_top.specs.Machine.{Report}
use Rattle.cas_top.specs.declared.machine.End.{End}
use Rattle.cas_top.specs.declared.machine.End.TheVariants as end

-- a line, with its line feed
abbrev pub line_of : List ℕ → List ℕ
line_of text = text ++ 10 ∷ []

-- `THREAD VALUE` of an output, the value in its signed reading
abbrev pub out_line : ℕ × ℕ → List ℕ
out_line p = line_of (decimal p.0 ++ codes " " ++ signed_decimal (signed p.1))

-- how a thread ended, in words
abbrev pub end_words : End → List ℕ
end_words end.Done = codes "done"
end_words end.Bad = codes "bad place"

-- `thread K END`
abbrev pub end_line : (thread : ℕ) → End → List ℕ
end_line k e = line_of (codes "thread " ++ decimal k ++ codes " " ++ end_words e)

-- a line for each thread from this one on, and its end
abbrev pub end_lines : (thread : ℕ) → List End → List (List ℕ)
end_lines k [] = []
end_lines k (e ∷ ends) = end_line k e ∷ end_lines (k + 1) ends

-- the lines of a report: its outputs in order, and then the ends of its threads
abbrev pub report_lines : Report → List (List ℕ)
report_lines r = map out_line r.out ++ end_lines 0 r.ends

-- `NAME:LINE:COL: REST`
abbrev pub place_line : (name : List ℕ) → Place → (rest : List ℕ) → List ℕ
place_line name p rest = line_of (name ++ codes ":" ++ decimal p.line ++ codes ":" ++ decimal p.col ++ codes ": " ++
    rest)

-- the code of a text's fault, in letters
abbrev pub code_letters : ReadCode → List ℕ
code_letters R1 = codes "R1"
code_letters R2 = codes "R2"
code_letters R3 = codes "R3"
code_letters R4 = codes "R4"
code_letters R5 = codes "R5"
code_letters R6 = codes "R6"
code_letters R7 = codes "R7"
code_letters R8 = codes "R8"

-- `NAME:LINE:COL: CODE`
abbrev pub fault_line : (name : List ℕ) → ReadCode → Place → List ℕ
fault_line name code p = place_line name p (code_letters code)

-- the code of a fault of typing, in letters
abbrev pub type_letters : TypeCode → List ℕ
type_letters T1 = codes "T1"
type_letters T2 = codes "T2"
type_letters T3 = codes "T3"
type_letters T4 = codes "T4"
type_letters T5 = codes "T5"
type_letters T6 = codes "T6"
type_letters T7 = codes "T7"

-- what is counted, in a word
abbrev pub count_word : TypeCount → List ℕ
count_word Parameters = codes "parameters"
count_word Cells = codes "cells"
count_word Nodes = codes "nodes"
count_word Functions = codes "functions"
count_word Words = codes "words"

-- the name that is kept, if there is one, after a space
abbrev pub kept_name : Option (List ℕ) → List ℕ
kept_name None = []
kept_name (Some name) = codes " " ++ name

-- a fault of typing in words: `CODE`, `CODE NAME`, or `T8 COUNT NUMBER`
abbrev pub type_fault_words : Fault → List ℕ
type_fault_words (fault code p kept) = type_letters code ++ kept_name kept
type_fault_words (limit p what n) = codes "T8 " ++ count_word what ++ codes " " ++ decimal n

-- its place
abbrev pub type_fault_place : Fault → Place
type_fault_place (fault code p kept) = p
type_fault_place (limit p what n) = p

-- `NAME:LINE:COL: ` and the fault
abbrev pub type_fault_line : (name : List ℕ) → Fault → List ℕ
type_fault_line name f = place_line name (type_fault_place f) (type_fault_words f)

-- the code of a fault of ownership, in letters
abbrev pub own_letters : OwnCode → List ℕ
own_letters O1 = codes "O1"
own_letters O2 = codes "O2"
own_letters O3 = codes "O3"
own_letters O4 = codes "O4"
own_letters O5 = codes "O5"
own_letters O6 = codes "O6"
own_letters O7 = codes "O7"
own_letters O8 = codes "O8"

-- `NAME:LINE:COL: CODE LOCK`
abbrev pub own_fault_line : (name : List ℕ) → OwnFaultTree → List ℕ
own_fault_line name f = place_line name f.place (own_letters f.code ++ codes " " ++ f.lock)

-- `NAME ok`, of a checked module
abbrev pub ok_line : (name : List ℕ) → List ℕ
ok_line name = line_of (name ++ codes " ok")

-- `NAME:1:1: R0`, of a module that isn't of the first form
abbrev pub form_line : (name : List ℕ) → List ℕ
form_line name = line_of (name ++ codes ":1:1: R0")
