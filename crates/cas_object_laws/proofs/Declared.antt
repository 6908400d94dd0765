-- What is read of a line outside functions: names of other objects aren't defined, definitions are, and a global has a
-- value for each of its words.
use Rattle.std.proofs.Common.{◌≡◌, ℕ, ◌==◌, Bool, true, false, ◌&&◌, nat_lt, nat_le, List, [], ◌∷◌, length, codes, cond, Option, Some, None, Result, Ok, Err, refl, sym, ◌∙◌}
use Rattle.std.specs.List.{list_all}
use Rattle.std.proofs.lemmas.Bool.{eqb-true}
use Rattle.cas_base.specs.Decl.{is_function}
use Rattle.cas_base.specs.Ty.{words_of_ty}
use Rattle.cas_base.specs.declared.kind.Kind.{Kind}
use Rattle.cas_base.specs.declared.kind.Ty.{Ty}
use Rattle.cas_base.specs.declared.kind.Ty.TheVariants as ty
use Rattle.cas_pieces.specs.Numbers.{number}
use Rattle.cas_object_line.specs.declared.fault.LineFault.{LineFault}
use Rattle.cas_object_line.specs.declared.fault.LineFault.TheVariants.{Form, Range}
use Rattle.cas_object_text.specs.Values.{HasValues, IsOfWords, IsTyped}
use Rattle.cas_object_decl.specs.Chain.{all_of}
use Rattle.cas_object_decl.specs.Data.{is_number, word_at, values, typed_values}
use Rattle.cas_object_decl.specs.Fields.{spells}
use Rattle.cas_object_decl.specs.Heads.{name_at, counted, held, with_params, function_form}
use Rattle.cas_object_decl.specs.Lines.{sort_of, extern_form, decl_by, extern_line, lock_line, shared_data, shared_line, table_data, table_line, function_line, definition, definition_line, end_line, defined_line, decl_line}
use Rattle.cas_object_decl.specs.Types.{global_type, param_type, return_type, or_zero, elements, elements_by, array_by, ty_by, ty_of}
use Rattle.cas_object_decl.specs.declared.field.Field.{Field}
use Rattle.cas_object_decl.specs.declared.kind.GlobalType.{GlobalType}
use Rattle.cas_object_decl.specs.declared.line.DeclLine.{DeclLine}
use Rattle.cas_object_decl.specs.declared.line.DeclLine.TheVariants.{Extern, Data, Function, End}
use Rattle.cas_object_decl.specs.declared.line.Sort.{Sort}
use Rattle.cas_object_decl.specs.declared.line.Sort.TheVariants as sort
use Rattle.cas_object_laws.proofs.Giving.{Gives, gives-if, gives-then, gives-made, gives-any, gives-all, gives-more}

abbrev pub IsRight : DeclLine → Type 0
IsRight (Extern decl) = decl.defined ≡ false
IsRight (Data global) =
    (global.decl.defined ≡ true) × (is_function global.decl.form ≡ false) × IsTyped global.decl.form × HasValues global
IsRight (Function decl) = (decl.defined ≡ true) × (is_function decl.form ≡ true)
IsRight End = Unit {0}

and-second : (a b : Bool) → (a && b) ≡ true → b ≡ true
and-second true b e = e
and-second false b e = absurd cc

-- a type of words, of so many
abbrev HasElements : ℕ → Ty → Type 0
HasElements n type = (words_of_ty type ≡ n) × IsOfWords type

array-words : (kind : Kind) (n : Option ℕ) → Gives (HasElements (or_zero n)) (array_by kind n)
array-words kind None = tt
array-words kind (Some n) =
    let small = nat_lt 0 n && nat_le n 65536 in
    let found : Result Ty LineFault = Ok (ty.Array kind n) in
    gives-if (HasElements n) small found (Err Range) (λ e. (refl, tt)) tt

ty-words : (kind : Kind) (len : Option (List ℕ)) → Gives (HasElements (elements_by len)) (ty_by kind len)
ty-words kind None = (refl, tt)
ty-words kind (Some len) = array-words kind (number len)

values-count : (type : GlobalType) (fields : List Field) →
    Gives (λ found. length found ≡ elements type) (values type fields)
values-count type fields =
    let numbers = list_all is_number fields in
    let counted = length fields == elements type in
    gives-if (λ found. length found ≡ elements type) (numbers && counted) (all_of word_at fields) (Err Form)
    (λ e. gives-more (λ found. length found ≡ elements type) (λ found. length found ≡ length fields)
    (all_of word_at fields) (gives-all word_at fields)
    (λ found same. same ∙ eqb-true (length fields) (elements type) (and-second numbers counted e)))
    tt

-- a type of words, and as many values
abbrev IsFilled : Ty × List ℕ → Type 0
IsFilled typed = IsOfWords typed.0 × (length typed.1 ≡ words_of_ty typed.0)

typed-count : (type : GlobalType) (fields : List Field) → Gives IsFilled (typed_values type fields)
typed-count type fields =
    gives-then _ (λ found. length found ≡ elements type) _ (values type fields) (values-count type fields)
    (λ found h. gives-made _ (HasElements (elements type)) _ (ty_of type) (ty-words type.kind type.len)
    (λ ty k. (k.1, h ∙ sym k.0)))

params-function : (ret : Ty) (cut : Option (List Field × List Field)) →
    Gives (λ form. is_function form ≡ true) (with_params ret cut)
params-function ret None = tt
params-function ret (Some cut) =
    gives-then _ (λ params. Unit {0}) _ (all_of param_type cut.0) (gives-any _)
    (λ params any. gives-made _ (λ holds. Unit {0}) _ (held (counted cut.1)) (gives-any _) (λ holds some. refl))

form-function : (fields : List Field) → Gives (λ form. is_function form ≡ true) (function_form fields)
form-function [] = tt
form-function (ret ∷ fields) =
    gives-then _ (λ ty. Unit {0}) _ (return_type ret) (gives-any _) (λ ty any. params-function ty (counted fields))

decl-extern : (s : Option Sort) (fields : List Field) → Gives (λ decl. decl.defined ≡ false) (decl_by s fields)
decl-extern None fields = tt
decl-extern (Some s) [] = tt
decl-extern (Some s) (name ∷ fields) =
    gives-then _ (λ x. Unit {0}) _ (name_at name) (gives-any _)
    (λ x any. gives-made _ (λ form. Unit {0}) _ (extern_form s fields) (gives-any _) (λ form some. refl))

extern-right : (fields : List Field) → Gives IsRight (extern_line fields)
extern-right [] = tt
extern-right (word ∷ fields) =
    gives-made IsRight (λ decl. decl.defined ≡ false) Extern (decl_by (sort_of word) fields)
    (decl-extern (sort_of word) fields) (λ decl h. h)

lock-right : (name : List ℕ) (fields : List Field) → Gives IsRight (lock_line name fields)
lock-right name [] = (refl, refl, tt, λ e. absurd cc)
lock-right name (field ∷ fields) = tt

shared-right : (name : List ℕ) (type : Option GlobalType) (lock : Field) (found : List Field) →
    Gives IsRight (shared_data name type lock found)
shared-right name None lock found = tt
shared-right name (Some type) lock found =
    gives-then IsRight (λ x. Unit {0}) _ (name_at lock) (gives-any _)
    (λ x any. gives-made IsRight IsFilled _ (typed_values type found)
    (typed-count type found) (λ typed h. (refl, refl, h.0, λ e. h.1)))

shared-line-right : (name : List ℕ) (fields : List Field) → Gives IsRight (shared_line name fields)
shared-line-right name [] = tt
shared-line-right name (type ∷ []) = tt
shared-line-right name (type ∷ lock ∷ found) = shared-right name (global_type type) lock found

table-right : (name : List ℕ) (type : Option GlobalType) (found : List Field) →
    Gives IsRight (table_data name type found)
table-right name None found = tt
table-right name (Some type) found =
    gives-made IsRight IsFilled _ (typed_values type found)
    (typed-count type found) (λ typed h. (refl, refl, h.0, λ e. h.1))

table-line-right : (name : List ℕ) (fields : List Field) → Gives IsRight (table_line name fields)
table-line-right name [] = tt
table-line-right name (type ∷ found) = table-right name (global_type type) found

function-right : (name : List ℕ) (fields : List Field) → Gives IsRight (function_line name fields)
function-right name fields =
    gives-made IsRight (λ form. is_function form ≡ true) _ (function_form fields) (form-function fields)
    (λ form h. (refl, h))

definition-right : (s : Sort) (fields : List Field) (name : List ℕ) → Gives IsRight (definition s fields name)
definition-right sort.Lock fields name = lock-right name fields
definition-right sort.Shared fields name = shared-line-right name fields
definition-right sort.Const fields name = table-line-right name fields
definition-right sort.Function fields name = function-right name fields

sorted-right : (s : Option Sort) (name : Field) (fields : List Field) → Gives IsRight (definition_line s name fields)
sorted-right None name fields = tt
sorted-right (Some s) name fields =
    gives-then IsRight (λ x. Unit {0}) (definition s fields) (name_at name) (gives-any _)
    (λ x any. definition-right s fields x)

defined-right : (word : Field) (fields : List Field) → Gives IsRight (defined_line word fields)
defined-right word [] = tt
defined-right word (name ∷ fields) = sorted-right (sort_of word) name fields

end-right : (fields : List Field) → Gives IsRight (end_line fields)
end-right [] = tt
end-right (word ∷ []) = gives-if IsRight (spells word (codes "object")) (Ok End) (Err Form) (λ e. tt) tt
end-right (word ∷ another ∷ fields) = tt

pub line-right : (fields : List Field) → Gives IsRight (decl_line fields)
line-right [] = tt
line-right (word ∷ fields) =
    let closes = spells word (codes "end") in
    gives-if IsRight (spells word (codes "extern")) (extern_line fields)
    (cond closes (end_line fields) (defined_line word fields)) (λ e. extern-right fields)
    (gives-if IsRight closes (end_line fields) (defined_line word fields) (λ e. end-right fields)
    (defined-right word fields))
