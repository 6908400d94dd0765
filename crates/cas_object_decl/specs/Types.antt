-- Types as they are written.
use Rattle.std.specs.Prelude.{ℕ, ◌&&◌, if◌then◌else◌, nat_lt, nat_le, List, codes, Option, Some, None, Result, Ok, Err}
use Rattle.std.specs.Str.{bytes_eq}
use Rattle.cas_base.specs.declared.kind.Kind.{Kind}
use Rattle.cas_base.specs.declared.kind.Kind.TheVariants.{I8, U8, I16, U16, I32, U32}
use Rattle.cas_base.specs.declared.kind.Ty.{Ty}
use Rattle.cas_base.specs.declared.kind.Ty.TheVariants as ty
use Rattle.cas_pieces.specs.Numbers.{is_numeral, number}
use Rattle.cas_object_line.specs.declared.fault.LineFault.{LineFault}
use Rattle.cas_object_line.specs.declared.fault.LineFault.TheVariants.{Form, Range}
use Rattle.cas_object_decl.specs.declared.field.Field.{Field}
use Rattle.cas_object_decl.specs.declared.field.Field.TheVariants.{Word, Pointer, Array}
use Rattle.cas_object_decl.specs.declared.kind.GlobalType.{GlobalType}

-- the kind with a word
abbrev pub kind_of : List ℕ → Option Kind
kind_of x =
    if bytes_eq x (codes "i8") then Some I8 else (
    if bytes_eq x (codes "u8") then Some U8 else (
    if bytes_eq x (codes "i16") then Some I16 else (
    if bytes_eq x (codes "u16") then Some U16 else (
    if bytes_eq x (codes "int") then Some I32 else (
    if bytes_eq x (codes "unsigned") then Some U32 else None)))))

-- a global's type with a length, or without one
abbrev pub global_of : Option (List ℕ) → Option Kind → Option GlobalType
global_of len None = None
global_of len (Some kind) = Some (record { kind = kind; len = len })

-- the type of a global: a kind, or a kind with a length in brackets
abbrev pub global_type : Field → Option GlobalType
global_type (Word x) = global_of None (kind_of x)
global_type (Array x len) = if is_numeral len then global_of (Some len) (kind_of x) else None
global_type _ = None

abbrev pub or_zero : Option ℕ → ℕ
or_zero None = 0
or_zero (Some n) = n

abbrev pub elements_by : Option (List ℕ) → ℕ
elements_by None = 1
elements_by (Some len) = or_zero (number len)

-- how many elements a global has
abbrev pub elements : GlobalType → ℕ
elements type = elements_by type.len

-- an array has 1 to 65536 elements
abbrev pub small_array : Kind → ℕ → Result Ty LineFault
small_array kind n = if nat_lt 0 n && nat_le n 65536 then Ok (ty.Array kind n) else Err Range

abbrev pub array_by : Kind → Option ℕ → Result Ty LineFault
array_by kind None = Err Form
array_by kind (Some n) = small_array kind n

abbrev pub ty_by : Kind → Option (List ℕ) → Result Ty LineFault
ty_by kind None = Ok (ty.Int kind)
ty_by kind (Some len) = array_by kind (number len)

-- the type of a global
abbrev pub ty_of : GlobalType → Result Ty LineFault
ty_of type = ty_by type.kind type.len

abbrev pub scalar_or_fault : (Kind → Ty) → Option Kind → Result Ty LineFault
scalar_or_fault make None = Err Form
scalar_or_fault make (Some kind) = Ok (make kind)

-- the type of a parameter: a kind, perhaps with `*`
abbrev pub param_type : Field → Result Ty LineFault
param_type (Word x) = scalar_or_fault ty.Int (kind_of x)
param_type (Pointer x) = scalar_or_fault ty.Ptr (kind_of x)
param_type _ = Err Form

-- the type of a return: `void`, or as of a parameter
abbrev pub return_type : Field → Result Ty LineFault
return_type (Word x) = if bytes_eq x (codes "void") then Ok ty.Void else param_type (Word x)
return_type field = param_type field
