-- The values of globals.
use Rattle.std.specs.Prelude.{ℕ, ◌==◌, Bool, true, false, ◌&&◌, if◌then◌else◌, List, length, Option, Some, None, Result, Err}
use Rattle.std.specs.List.{list_all}
use Rattle.cas_base.specs.declared.kind.Ty.{Ty}
use Rattle.cas_pieces.specs.Numbers.{is_numeral}
use Rattle.cas_object_line.specs.declared.fault.LineFault.{LineFault}
use Rattle.cas_object_line.specs.declared.fault.LineFault.TheVariants.{Form}
use Rattle.cas_object_line.specs.declared.operand.Numeral.{Numeral}
use Rattle.cas_object_line.specs.Instructions.{made_of}
use Rattle.cas_object_line.specs.Numbers.{word_of}
use Rattle.cas_object_line.specs.Operands.{is_positive}
use Rattle.cas_object_decl.specs.declared.field.Field.{Field}
use Rattle.cas_object_decl.specs.declared.field.Field.TheVariants.{Word, Negative}
use Rattle.cas_object_decl.specs.declared.kind.GlobalType.{GlobalType}
use Rattle.cas_object_decl.specs.Chain.{and_then, all_of}
use Rattle.cas_object_decl.specs.Types.{elements, ty_of}

-- a number, perhaps with `-`
abbrev pub numeral_of : Field → Option Numeral
numeral_of (Word x) = if is_numeral x then Some (record { negative = false; digits = x }) else None
numeral_of (Negative x) = if is_positive x then Some (record { negative = true; digits = x }) else None
numeral_of _ = None

abbrev pub is_there : {A : Type 0} → Option A → Bool
is_there None = false
is_there (Some x) = true

abbrev pub is_number : Field → Bool
is_number field = is_there (numeral_of field)

abbrev pub word_by : Option Numeral → Result ℕ LineFault
word_by None = Err Form
word_by (Some numeral) = word_of numeral

-- the word whose signed reading is a number
abbrev pub word_at : Field → Result ℕ LineFault
word_at field = word_by (numeral_of field)

-- the values of a global: one for each element
abbrev pub values : GlobalType → List Field → Result (List ℕ) LineFault
values type fields =
    if list_all is_number fields && (length fields == elements type) then all_of word_at fields else Err Form

-- the type of a global with its values
abbrev pub typed_values : GlobalType → List Field → Result (Ty × List ℕ) LineFault
typed_values type fields = and_then (λ found. made_of (λ ty. (ty, found)) (ty_of type)) (values type fields)
