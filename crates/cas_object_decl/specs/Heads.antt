-- What a function takes and holds: its return, its parameters after their count, and its locks after their count.
use Rattle.std.specs.Prelude.{ℕ, ◌==◌, nat_le, if◌then◌else◌, List, [], ◌∷◌, length, take, drop, Option, Some, None, Result, Err}
use Rattle.cas_base.specs.declared.decl.Form.{Form as Declared}
use Rattle.cas_base.specs.declared.decl.Form.TheVariants as form
use Rattle.cas_base.specs.declared.kind.Ty.{Ty}
use Rattle.cas_pieces.specs.Numbers.{number}
use Rattle.cas_object_line.specs.declared.fault.LineFault.{LineFault}
use Rattle.cas_object_line.specs.declared.fault.LineFault.TheVariants.{Form}
use Rattle.cas_object_line.specs.Instructions.{made_of, name_of}
use Rattle.cas_object_decl.specs.declared.field.Field.{Field}
use Rattle.cas_object_decl.specs.declared.field.Field.TheVariants.{Word}
use Rattle.cas_object_decl.specs.Chain.{and_then, all_of}
use Rattle.cas_object_decl.specs.Types.{param_type, return_type}

-- a name
abbrev pub name_at : Field → Result (List ℕ) LineFault
name_at (Word x) = name_of x
name_at _ = Err Form

-- a count
abbrev pub count_of : Field → Option ℕ
count_of (Word x) = number x
count_of _ = None

-- so many fields, and what follows them
abbrev pub cut_at : Option ℕ → List Field → Option (List Field × List Field)
cut_at None fields = None
cut_at (Some n) fields = if nat_le n (length fields) then Some (take n fields, drop n fields) else None

-- as many fields as the count before them says, and what follows them
abbrev pub counted : List Field → Option (List Field × List Field)
counted [] = None
counted (count ∷ rest) = cut_at (count_of count) rest

-- locks, with nothing after them
abbrev pub held : Option (List Field × List Field) → Result (List (List ℕ)) LineFault
held None = Err Form
held (Some cut) = if length cut.1 == 0 then all_of name_at cut.0 else Err Form

abbrev pub with_params : Ty → Option (List Field × List Field) → Result Declared LineFault
with_params ret None = Err Form
with_params ret (Some cut) =
    and_then (λ params. made_of (λ holds. form.Function ret params holds) (held (counted cut.1)))
    (all_of param_type cut.0)

-- a function
abbrev pub function_form : List Field → Result Declared LineFault
function_form [] = Err Form
function_form (ret ∷ fields) = and_then (λ ty. with_params ty (counted fields)) (return_type ret)
