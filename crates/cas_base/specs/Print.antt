-- How a declaration is printed: as a line of an objects text, without `extern` and without values.
use Rattle.std.specs.Prelude.{ℕ, List, ◌++◌, length, codes}
use Rattle.std.specs.List.{flat_map}
use Rattle.std.specs.Fmt.{decimal}
use Rattle.cas_base.specs.declared.kind.Kind.{Kind}
use Rattle.cas_base.specs.declared.kind.Kind.TheVariants.{I8, U8, I16, U16, I32, U32}
use Rattle.cas_base.specs.declared.kind.Ty.{Ty}
use Rattle.cas_base.specs.declared.kind.Ty.TheVariants.{Void, Int, Ptr, Array}
use Rattle.cas_base.specs.declared.decl.Form.{Form}
use Rattle.cas_base.specs.declared.decl.Form.TheVariants.{Lock, Shared, Table, Function}
use Rattle.cas_base.specs.declared.decl.Decl.{Decl}

-- the word of a kind
abbrev pub kind_text : Kind → List ℕ
kind_text I8 = codes "i8"
kind_text U8 = codes "u8"
kind_text I16 = codes "i16"
kind_text U16 = codes "u16"
kind_text I32 = codes "int"
kind_text U32 = codes "unsigned"

-- a type: a pointer ends in `*`, an array in its length in brackets
abbrev pub ty_text : Ty → List ℕ
ty_text Void = codes "void"
ty_text (Int kind) = kind_text kind
ty_text (Ptr kind) = kind_text kind ++ codes "*"
ty_text (Array kind len) = kind_text kind ++ codes "[" ++ decimal len ++ codes "]"

-- how many types there are, and then each, behind a space
abbrev pub types_text : List Ty → List ℕ
types_text types = decimal (length types) ++ flat_map (λ ty. codes " " ++ ty_text ty) types

-- how many names there are, and then each, behind a space
abbrev pub names_text : List (List ℕ) → List ℕ
names_text names = decimal (length names) ++ flat_map (λ name. codes " " ++ name) names

-- the line of a function: its name, its return, its parameters and the locks that it holds
abbrev pub function_text : (name : List ℕ) (ret : Ty) (params : List Ty) (holds : List (List ℕ)) → List ℕ
function_text name ret params holds =
    codes "function " ++
    (name ++ (codes " " ++ (ty_text ret ++ (codes " " ++ (types_text params ++ (codes " " ++ names_text holds))))))

-- the line of a declaration: its sort, its name, and its type and the lock that guards it
abbrev pub form_text : (name : List ℕ) → Form → List ℕ
form_text name Lock = codes "lock " ++ name
form_text name (Shared ty lock) = codes "shared " ++ (name ++ (codes " " ++ (ty_text ty ++ (codes " " ++ lock))))
form_text name (Table ty) = codes "const " ++ (name ++ (codes " " ++ ty_text ty))
form_text name (Function ret params holds) = function_text name ret params holds

-- the line of a declaration
abbrev pub decl_text : Decl → List ℕ
decl_text decl = form_text decl.name decl.form
