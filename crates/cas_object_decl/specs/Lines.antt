-- The lines of an objects text outside functions.
use Rattle.std.specs.Prelude.{ℕ, true, false, if◌then◌else◌, List, [], ◌∷◌, codes, Option, Some, None, Result, Ok, Err}
use Rattle.cas_base.specs.declared.decl.Decl.{Decl}
use Rattle.cas_base.specs.declared.decl.Form.{Form as Declared}
use Rattle.cas_base.specs.declared.decl.Form.TheVariants as form
use Rattle.cas_object_line.specs.declared.fault.LineFault.{LineFault}
use Rattle.cas_object_line.specs.declared.fault.LineFault.TheVariants.{Form}
use Rattle.cas_object_line.specs.Instructions.{made_of}
use Rattle.cas_object_decl.specs.declared.field.Field.{Field}
use Rattle.cas_object_decl.specs.declared.kind.GlobalType.{GlobalType}
use Rattle.cas_object_decl.specs.declared.line.DeclLine.{DeclLine}
use Rattle.cas_object_decl.specs.declared.line.DeclLine.TheVariants.{Extern, Data, Function, End}
use Rattle.cas_object_decl.specs.declared.line.Sort.{Sort}
use Rattle.cas_object_decl.specs.declared.line.Sort.TheVariants as sort
use Rattle.cas_object_decl.specs.Chain.{and_then}
use Rattle.cas_object_decl.specs.Data.{typed_values}
use Rattle.cas_object_decl.specs.Fields.{spells}
use Rattle.cas_object_decl.specs.Heads.{name_at, function_form}
use Rattle.cas_object_decl.specs.Types.{global_type, ty_of}

-- a line, or why it is none
abbrev pub Read : Type 0
Read = Result DeclLine LineFault

-- what is declared, or why that can't be read
abbrev pub ReadForm : Type 0
ReadForm = Result Declared LineFault

-- the sort of a declaration, by its first word
abbrev pub sort_of : Field → Option Sort
sort_of field =
    if spells field (codes "lock") then Some sort.Lock else (
    if spells field (codes "shared") then Some sort.Shared else (
    if spells field (codes "const") then Some sort.Const else (
    if spells field (codes "function") then Some sort.Function else None)))

-- a lock
abbrev pub lock_form : List Field → ReadForm
lock_form [] = Ok form.Lock
lock_form _ = Err Form

-- a shared global, without values
abbrev pub shared_by : Option GlobalType → Field → ReadForm
shared_by None lock = Err Form
shared_by (Some type) lock =
    and_then (λ lock. made_of (λ ty. form.Shared ty lock) (ty_of type)) (name_at lock)

abbrev pub shared_form : List Field → ReadForm
shared_form (type ∷ lock ∷ []) = shared_by (global_type type) lock
shared_form _ = Err Form

-- a table of constants, without values
abbrev pub table_by : Option GlobalType → ReadForm
table_by None = Err Form
table_by (Some type) = made_of (λ ty. form.Table ty) (ty_of type)

abbrev pub table_form : List Field → ReadForm
table_form (type ∷ []) = table_by (global_type type)
table_form _ = Err Form

-- what is declared of a name that another object defines
abbrev pub extern_form : Sort → List Field → ReadForm
extern_form sort.Lock fields = lock_form fields
extern_form sort.Shared fields = shared_form fields
extern_form sort.Const fields = table_form fields
extern_form sort.Function fields = function_form fields

abbrev pub decl_by : Option Sort → List Field → Result Decl LineFault
decl_by None fields = Err Form
decl_by (Some s) [] = Err Form
decl_by (Some s) (name ∷ fields) =
    and_then (λ x. made_of (λ form. record { name = x; form = form; defined = false }) (extern_form s fields))
    (name_at name)

-- a name that another object defines
abbrev pub extern_line : List Field → Read
extern_line [] = Err Form
extern_line (word ∷ fields) = made_of Extern (decl_by (sort_of word) fields)

-- a definition with its values
abbrev pub global : List ℕ → Declared → List ℕ → DeclLine
global name form values = Data (record { decl = record { name = name; form = form; defined = true }; values = values })

-- a lock
abbrev pub lock_line : List ℕ → List Field → Read
lock_line name fields = made_of (λ form. global name form []) (lock_form fields)

-- a shared global
abbrev pub shared_data : List ℕ → Option GlobalType → Field → List Field → Read
shared_data name None lock values = Err Form
shared_data name (Some type) lock values =
    and_then (λ lock. made_of (λ typed. global name (form.Shared typed.0 lock) typed.1) (typed_values type values))
    (name_at lock)

abbrev pub shared_line : List ℕ → List Field → Read
shared_line name (type ∷ lock ∷ values) = shared_data name (global_type type) lock values
shared_line name _ = Err Form

-- a table of constants
abbrev pub table_data : List ℕ → Option GlobalType → List Field → Read
table_data name None values = Err Form
table_data name (Some type) values =
    made_of (λ typed. global name (form.Table typed.0) typed.1) (typed_values type values)

abbrev pub table_line : List ℕ → List Field → Read
table_line name [] = Err Form
table_line name (type ∷ values) = table_data name (global_type type) values

-- the first line of a function
abbrev pub function_line : List ℕ → List Field → Read
function_line name fields =
    made_of (λ form. Function (record { name = name; form = form; defined = true })) (function_form fields)

-- a definition of a name
abbrev pub definition : Sort → List Field → List ℕ → Read
definition sort.Lock fields name = lock_line name fields
definition sort.Shared fields name = shared_line name fields
definition sort.Const fields name = table_line name fields
definition sort.Function fields name = function_line name fields

abbrev pub definition_line : Option Sort → Field → List Field → Read
definition_line None name fields = Err Form
definition_line (Some s) name fields = and_then (definition s fields) (name_at name)

-- the last line of an object
abbrev pub end_line : List Field → Read
end_line (word ∷ []) = if spells word (codes "object") then Ok End else Err Form
end_line _ = Err Form

-- the first two fields of a definition, and the others
abbrev pub defined_line : Field → List Field → Read
defined_line word [] = Err Form
defined_line word (name ∷ fields) = definition_line (sort_of word) name fields

-- a line that may stand in an object, outside functions
abbrev pub decl_line : List Field → Read
decl_line [] = Err Form
decl_line (word ∷ fields) =
    if spells word (codes "extern") then extern_line fields else (
    if spells word (codes "end") then end_line fields else defined_line word fields)
