-- A line of a declaration that is read has the fields of the declaration as it is printed.
use Rattle.std.proofs.Common.{◌≡◌, ℕ, suc, zero, ◌<◌, ◌≤◌, ◌^◌, nat_lt, nat_le, eqb, true, false, ◌&&◌, cond, bytes_eq, List, [], ◌∷◌, ◌++◌, map, codes, take, drop, length, Option, Some, None, Result, Ok, Err, refl, ap, sym, subst, ◌∙◌, arith}
use Rattle.std.specs.Prelude.{ℤ, pos, negsuc}
use Rattle.std.specs.Fmt.{decimal}
use Rattle.std.specs.List.{list_all}
use Rattle.std.proofs.lemmas.Bool.{eqb-true}
use Rattle.std.proofs.lemmas.Bool.Decides.{nat_tests}
use Rattle.std.proofs.lemmas.List.{take-append-drop}
use Rattle.cas_base.specs.Decl.{is_lock}
use Rattle.cas_base.specs.Name.{is_name}
use Rattle.cas_base.specs.Print.{kind_text}
use Rattle.cas_base.specs.Word.{signed}
use Rattle.cas_base.specs.declared.decl.Decl.{Decl}
use Rattle.cas_base.specs.declared.decl.Form.{Form as Declared}
use Rattle.cas_base.specs.declared.decl.Form.TheVariants as form
use Rattle.cas_base.specs.declared.kind.Kind.{Kind}
use Rattle.cas_base.specs.declared.kind.Kind.TheVariants.{I8, U8, I16, U16, I32, U32}
use Rattle.cas_base.specs.declared.kind.Ty.{Ty}
use Rattle.cas_base.specs.declared.kind.Ty.TheVariants as ty
use Rattle.cas_pieces.specs.Numbers.{number, is_numeral}
use Rattle.cas_pieces.proofs.Numerals.{decimal-number}
use Rattle.cas_pieces.proofs.Tables.{bytes_eq-same}
use Rattle.cas_object_line.specs.Numbers.{word_of}
use Rattle.cas_object_line.specs.Operands.{is_positive}
use Rattle.cas_object_line.specs.declared.fault.LineFault.{LineFault}
use Rattle.cas_object_line.specs.declared.fault.LineFault.TheVariants.{Form, Range}
use Rattle.cas_object_line.specs.declared.operand.Numeral.{Numeral}
use Rattle.cas_object_decl.specs.Chain.{all_of}
use Rattle.cas_object_decl.specs.Data.{numeral_of, word_by, word_at, values, is_number, typed_values}
use Rattle.cas_object_decl.specs.Fields.{spells}
use Rattle.cas_object_decl.specs.Heads.{name_at, count_of, cut_at, counted, held, with_params, function_form}
use Rattle.cas_object_decl.specs.Lines.{sort_of, lock_form, shared_by, shared_form, table_by, table_form, extern_form, decl_by, extern_line, lock_line, shared_data, shared_line, table_data, table_line, function_line, definition, definition_line, end_line, defined_line, decl_line}
use Rattle.cas_object_decl.specs.Types.{kind_of, global_of, global_type, elements, small_array, array_by, ty_by, ty_of, scalar_or_fault, param_type, return_type}
use Rattle.cas_object_decl.specs.declared.field.Field.{Field}
use Rattle.cas_object_decl.specs.declared.field.Field.TheVariants.{Word, Negative, Pointer, Array, Other}
use Rattle.cas_object_decl.specs.declared.kind.GlobalType.{GlobalType}
use Rattle.cas_object_decl.specs.declared.line.DeclLine.{DeclLine}
use Rattle.cas_object_decl.specs.declared.line.DeclLine.TheVariants.{Extern, Data, Function, End}
use Rattle.cas_object_decl.specs.declared.line.Sort.{Sort}
use Rattle.cas_object_decl.specs.declared.line.Sort.TheVariants as sort
use Rattle.cas_object_laws.proofs.Giving.{Gives, gives-if, gives-then, gives-made, gives-more}
use Rattle.cas_object_laws.proofs.Numerals as laws
use Rattle.cas_object_spelling.proofs.Marks.{May, may-if}
use Rattle.cas_object_spelling.proofs.Numbers.{IsSigned, numeral-signed}

gives-from : {A : Type 0} (P : A → Type 0) (r : Result A LineFault) → ((x : A) → r ≡ Ok x → P x) → Gives P r
gives-from P (Ok x) f = f x refl
gives-from P (Err fault) f = tt

-- The fields of a declaration as it is printed.

abbrev pub kind_field : Kind → Field
kind_field kind = Word (kind_text kind)

abbrev pub ty_field : Ty → Field
ty_field ty.Void = Word (codes "void")
ty_field (ty.Int kind) = Word (kind_text kind)
ty_field (ty.Ptr kind) = Pointer (kind_text kind)
ty_field (ty.Array kind n) = Array (kind_text kind) (decimal n)

abbrev pub integer_field : ℤ → Field
integer_field (pos n) = Word (decimal n)
integer_field (negsuc n) = Negative (decimal (suc n))

abbrev pub value_field : ℕ → Field
value_field w = integer_field (signed w)

-- a count, and then so many fields
abbrev pub counted_fields : List Field → List Field → List Field
counted_fields fs rest = Word (decimal (length fs)) ∷ (fs ++ rest)

abbrev pub form_fields : List ℕ → Declared → List Field → List Field
form_fields x form.Lock rest = Word (codes "lock") ∷ Word x ∷ rest
form_fields x (form.Shared t lock) rest = Word (codes "shared") ∷ Word x ∷ ty_field t ∷ Word lock ∷ rest
form_fields x (form.Table t) rest = Word (codes "const") ∷ Word x ∷ ty_field t ∷ rest
form_fields x (form.Function ret params holds) rest =
    Word (codes "function") ∷ Word x ∷ ty_field ret
    ∷ counted_fields (map ty_field params) (counted_fields (map Word holds) rest)

abbrev pub decl_fields : Decl → List Field → List Field
decl_fields decl rest = form_fields decl.name decl.form rest

abbrev pub line_fields : DeclLine → List Field
line_fields (Extern decl) = Word (codes "extern") ∷ decl_fields decl []
line_fields (Data global) = decl_fields global.decl (map value_field global.values)
line_fields (Function decl) = decl_fields decl []
line_fields End = Word (codes "end") ∷ Word (codes "object") ∷ []

-- Words and names.

pub spelt : (f : Field) (x : List ℕ) → spells f x ≡ true → f ≡ Word x
spelt (Word y) x h = ap Word (sym (bytes_eq-same y x h))
spelt _ x h = absurd cc

name-field : (f : Field) → Gives (λ x. f ≡ Word x) (name_at f)
name-field (Word x) = gives-if (λ y. Word x ≡ Word y) (is_name x) (Ok x) (Err Form) (λ e. refl) tt
name-field _ = tt

-- Types.

kind-word : (x : List ℕ) → May (λ kind. x ≡ kind_text kind) (kind_of x)
kind-word x =
    let u32 : Option Kind = cond (bytes_eq x (codes "unsigned")) (Some U32) None in
    let i32 : Option Kind = cond (bytes_eq x (codes "int")) (Some I32) u32 in
    let u16 : Option Kind = cond (bytes_eq x (codes "u16")) (Some U16) i32 in
    let i16 : Option Kind = cond (bytes_eq x (codes "i16")) (Some I16) u16 in
    let u8 : Option Kind = cond (bytes_eq x (codes "u8")) (Some U8) i16 in
    may-if (λ kind. x ≡ kind_text kind) (bytes_eq x (codes "i8")) (Some I8) u8 (λ e. sym (bytes_eq-same x _ e))
    (λ e. may-if (λ kind. x ≡ kind_text kind) (bytes_eq x (codes "u8")) (Some U8) i16 (λ f. sym (bytes_eq-same x _ f))
    (λ f. may-if (λ kind. x ≡ kind_text kind) (bytes_eq x (codes "i16")) (Some I16) u16
    (λ g. sym (bytes_eq-same x _ g))
    (λ g. may-if (λ kind. x ≡ kind_text kind) (bytes_eq x (codes "u16")) (Some U16) i32
    (λ h. sym (bytes_eq-same x _ h))
    (λ h. may-if (λ kind. x ≡ kind_text kind) (bytes_eq x (codes "int")) (Some I32) u32
    (λ k. sym (bytes_eq-same x _ k))
    (λ k. may-if (λ kind. x ≡ kind_text kind) (bytes_eq x (codes "unsigned")) (Some U32) None
    (λ l. sym (bytes_eq-same x _ l)) (λ l. tt))))))

-- a global's type, with the digits of its length
abbrev type_field : Kind → Option (List ℕ) → Field
type_field kind None = Word (kind_text kind)
type_field kind (Some len) = Array (kind_text kind) len

global-word : (x : List ℕ) (len : Option (List ℕ)) (make : List ℕ → Field) (o : Option Kind) →
    ((kind : Kind) → make (kind_text kind) ≡ type_field kind len) → May (λ kind. x ≡ kind_text kind) o →
    May (λ t. make x ≡ type_field t.kind t.len) (global_of len o)
global-word x len make None same h = tt
global-word x len make (Some kind) same h = ap make h ∙ same kind

global-field : (f : Field) → May (λ t. f ≡ type_field t.kind t.len) (global_type f)
global-field (Word x) = global-word x None Word (kind_of x) (λ kind. refl) (kind-word x)
global-field (Array x len) =
    may-if (λ t. Array x len ≡ type_field t.kind t.len) (is_numeral len) (global_of (Some len) (kind_of x)) None
    (λ e. global-word x (Some len) (λ y. Array y len) (kind_of x) (λ kind. refl) (kind-word x)) (λ e. tt)
global-field (Negative x) = tt
global-field (Pointer x) = tt
global-field Other = tt

small-array : (kind : Kind) (len : List ℕ) (n : ℕ) → number len ≡ Some n →
    Gives (λ t. type_field kind (Some len) ≡ ty_field t) (small_array kind n)
small-array kind len n e =
    let found : Result Ty LineFault = Ok (ty.Array kind n) in
    gives-if (λ t. type_field kind (Some len) ≡ ty_field t) (nat_lt 0 n && nat_le n 65536) found (Err Range)
    (λ small. ap (Array (kind_text kind)) (decimal-number n len (bounded n small) e)) tt
  where
    bounded : (k : ℕ) → (nat_lt 0 k && nat_le k 65536) ≡ true → k < 2 ^ 64
    bounded k small = grind (arith, nat_tests)

array-field : (kind : Kind) (len : List ℕ) (o : Option ℕ) → number len ≡ o →
    Gives (λ t. type_field kind (Some len) ≡ ty_field t) (array_by kind o)
array-field kind len None e = tt
array-field kind len (Some n) e = small-array kind len n e

type-field : (kind : Kind) (len : Option (List ℕ)) → Gives (λ t. type_field kind len ≡ ty_field t) (ty_by kind len)
type-field kind None = refl
type-field kind (Some len) = array-field kind len (number len) refl

scalar-field : (f : Field) (make : Kind → Ty) (spell : List ℕ → Field) (x : List ℕ) (o : Option Kind) →
    f ≡ spell x → ((kind : Kind) → spell (kind_text kind) ≡ ty_field (make kind)) →
    May (λ kind. x ≡ kind_text kind) o → Gives (λ t. f ≡ ty_field t) (scalar_or_fault make o)
scalar-field f make spell x None is same h = tt
scalar-field f make spell x (Some kind) is same h = is ∙ (ap spell h ∙ same kind)

param-field : (f : Field) → Gives (λ t. f ≡ ty_field t) (param_type f)
param-field (Word x) = scalar-field (Word x) ty.Int Word x (kind_of x) refl (λ kind. refl) (kind-word x)
param-field (Pointer x) = scalar-field (Pointer x) ty.Ptr Pointer x (kind_of x) refl (λ kind. refl) (kind-word x)
param-field (Negative x) = tt
param-field (Array x len) = tt
param-field Other = tt

return-field : (f : Field) → Gives (λ t. f ≡ ty_field t) (return_type f)
return-field (Word x) =
    gives-if (λ t. Word x ≡ ty_field t) (bytes_eq x (codes "void")) (Ok ty.Void) (param_type (Word x))
    (λ e. ap Word (sym (bytes_eq-same x (codes "void") e))) (param-field (Word x))
return-field (Pointer x) = param-field (Pointer x)
return-field (Negative x) = tt
return-field (Array x len) = tt
return-field Other = tt

-- Lists of fields.

all-fields : {A : Type 0} (read : Field → Result A LineFault) (field : A → Field) →
    ((f : Field) → Gives (λ x. f ≡ field x) (read f)) → (fs : List Field) →
    Gives (λ xs. fs ≡ map field xs) (all_of read fs)
all-fields read field each [] = refl
all-fields read field each (f ∷ fs) =
    gives-then (λ xs. f ∷ fs ≡ map field xs) (λ x. f ≡ field x) _ (read f) (each f)
    (λ x e. gives-made (λ xs. f ∷ fs ≡ map field xs) (λ xs. fs ≡ map field xs) (λ xs. x ∷ xs) (all_of read fs)
    (all-fields read field each fs) (λ xs h. both e h))
  where
    both : {g : Field} {gs : List Field} → f ≡ g → fs ≡ gs → f ∷ fs ≡ g ∷ gs
    both a b = cc

-- Values.

abbrev numeral_field : Numeral → Field
numeral_field n = cond n.negative (Negative n.digits) (Word n.digits)

abbrev IsNumeral : Field → Numeral → Type 0
IsNumeral f n = (f ≡ numeral_field n) × IsSigned n

numeral-field : (f : Field) → May (IsNumeral f) (numeral_of f)
numeral-field (Word x) =
    let n : Numeral = record { negative = false; digits = x } in
    may-if (IsNumeral (Word x)) (is_numeral x) (Some n) None (λ e. (refl, λ s. absurd cc)) (λ e. tt)
numeral-field (Negative x) =
    let n : Numeral = record { negative = true; digits = x } in
    may-if (IsNumeral (Negative x)) (is_positive x) (Some n) None (λ e. (refl, λ s. e)) (λ e. tt)
numeral-field (Pointer x) = tt
numeral-field (Array x len) = tt
numeral-field Other = tt

numeral-integer : (z : ℤ) → numeral_field (laws.numeral_of z) ≡ integer_field z
numeral-integer (pos n) = refl
numeral-integer (negsuc n) = refl

value-by : (f : Field) (o : Option Numeral) → May (IsNumeral f) o → Gives (λ w. f ≡ value_field w) (word_by o)
value-by f None h = tt
value-by f (Some n) h =
    gives-from (λ w. f ≡ value_field w) (word_of n)
    (λ w e. h.0 ∙ (ap numeral_field (numeral-signed n w h.1 e) ∙ numeral-integer (signed w)))

value-spelt : (f : Field) → Gives (λ w. f ≡ value_field w) (word_at f)
value-spelt f = value-by f (numeral_of f) (numeral-field f)

values-spelt : (t : GlobalType) (fs : List Field) → Gives (λ vs. fs ≡ map value_field vs) (values t fs)
values-spelt t fs =
    gives-if (λ vs. fs ≡ map value_field vs) (list_all is_number fs && (eqb (length fs) (elements t)))
    (all_of word_at fs) (Err Form) (λ e. all-fields word_at value_field value-spelt fs) tt

abbrev IsTyped : Kind → Option (List ℕ) → List Field → Ty × List ℕ → Type 0
IsTyped kind len fs typed = (type_field kind len ≡ ty_field typed.0) × (fs ≡ map value_field typed.1)

typed-spelt : (t : GlobalType) (fs : List Field) → Gives (IsTyped t.kind t.len fs) (typed_values t fs)
typed-spelt t fs =
    gives-then (IsTyped t.kind t.len fs) (λ vs. fs ≡ map value_field vs) _ (values t fs) (values-spelt t fs)
    (λ vs h. gives-made (IsTyped t.kind t.len fs) (λ x. type_field t.kind t.len ≡ ty_field x) (λ x. (x, vs)) (ty_of t)
    (type-field t.kind t.len) (λ x k. (k, h)))

-- Counts.

abbrev IsCut : List Field → List Field × List Field → Type 0
IsCut fs cut = fs ≡ counted_fields cut.0 cut.1

length-taken : (n : ℕ) (fs : List Field) → n ≤ length fs → length (take n fs) ≡ n
length-taken zero fs h = refl
length-taken (suc n) [] h = absurd (omega (arith, h))
length-taken (suc n) (f ∷ fs) h = ap suc (length-taken n fs (omega (arith, h)))

word-count : (f : Field) (n : ℕ) → n < 2 ^ 64 → count_of f ≡ Some n → f ≡ Word (decimal n)
word-count (Word x) n small e = ap Word (decimal-number n x small e)
word-count (Negative x) n small e = absurd cc
word-count (Pointer x) n small e = absurd cc
word-count (Array x len) n small e = absurd cc
word-count Other n small e = absurd cc

cut-spelt : (f : Field) (fs : List Field) (o : Option ℕ) → count_of f ≡ o → length fs < 2 ^ 64 →
    May (IsCut (f ∷ fs)) (cut_at o fs)
cut-spelt f fs None e small = tt
cut-spelt f fs (Some n) e small =
    may-if (IsCut (f ∷ fs)) (nat_le n (length fs)) (Some (take n fs, drop n fs)) None
    (λ h. found (fits n (length fs) h)) (λ h. tt)
  where
    fits : (m k : ℕ) → nat_le m k ≡ true → m ≤ k
    fits m k h = grind (arith, nat_tests)

    both : {g : Field} {gs : List Field} → f ≡ g → fs ≡ gs → f ∷ fs ≡ g ∷ gs
    both a b = cc

    found : n ≤ length fs → IsCut (f ∷ fs) (take n fs, drop n fs)
    found h =
        both (word-count f n (omega (arith, h, small)) e ∙ ap (λ k. Word (decimal k)) (sym (length-taken n fs h)))
        (sym (take-append-drop n fs))

counted-spelt : (fs : List Field) → length fs < 2 ^ 64 → May (IsCut fs) (counted fs)
counted-spelt [] small = tt
counted-spelt (f ∷ fs) small = cut-spelt f fs (count_of f) refl (omega (arith, small))

-- Functions.

length-zero : (fs : List Field) → eqb (length fs) 0 ≡ true → fs ≡ []
length-zero [] h = refl
length-zero (f ∷ fs) h = absurd (omega (arith, eqb-true (suc (length fs)) 0 h))

held-spelt : (fs : List Field) (o : Option (List Field × List Field)) → May (IsCut fs) o →
    Gives (λ holds. fs ≡ counted_fields (map Word holds) []) (held o)
held-spelt fs None h = tt
held-spelt fs (Some cut) h =
    gives-if (λ holds. fs ≡ counted_fields (map Word holds) []) (eqb (length cut.1) 0) (all_of name_at cut.0)
    (Err Form)
    (λ e. gives-more (λ holds. fs ≡ counted_fields (map Word holds) []) (λ holds. cut.0 ≡ map Word holds)
    (all_of name_at cut.0) (all-fields name_at Word name-field cut.0)
    (λ holds k. h ∙ (ap (counted_fields cut.0) (length-zero cut.1 e) ∙ ap (λ gs. counted_fields gs []) k)))
    tt

abbrev IsForm : List ℕ → List Field → Declared → Type 0
IsForm x fs f = Word (codes "function") ∷ Word x ∷ fs ≡ form_fields x f []

length-rest : (fs gs : List Field) (n : ℕ) → length (counted_fields fs gs) < n → length gs < n
length-rest fs gs n h = omega (arith, h, lengths fs)
  where
    lengths : (hs : List Field) → length gs ≤ length (hs ++ gs)
    lengths [] = omega arith
    lengths (k ∷ hs) = omega (arith, lengths hs)

params-spelt : (x : List ℕ) (f : Field) (fs : List Field) (ret : Ty) (o : Option (List Field × List Field)) →
    f ≡ ty_field ret → length fs < 2 ^ 64 → May (IsCut fs) o → Gives (IsForm x (f ∷ fs)) (with_params ret o)
params-spelt x f fs ret None e small h = tt
params-spelt x f fs ret (Some cut) e small h =
    gives-then (IsForm x (f ∷ fs)) (λ params. cut.0 ≡ map ty_field params) _ (all_of param_type cut.0)
    (all-fields param_type ty_field param-field cut.0)
    (λ params p. gives-made (IsForm x (f ∷ fs)) (λ holds. cut.1 ≡ counted_fields (map Word holds) [])
    (λ holds. form.Function ret params holds) (held (counted cut.1))
    (held-spelt cut.1 (counted cut.1)
    (counted-spelt cut.1 (length-rest cut.0 cut.1 (2 ^ 64) (subst (λ gs. length gs < 2 ^ 64) h small))))
    (λ holds q. all e (h ∙ (ap (λ gs. counted_fields gs cut.1) p ∙ ap (counted_fields (map ty_field params)) q))))
  where
    all : {g : Field} {gs : List Field} → f ≡ g → fs ≡ gs →
        Word (codes "function") ∷ Word x ∷ f ∷ fs ≡ Word (codes "function") ∷ Word x ∷ g ∷ gs
    all a b = cc

function-spelt : (x : List ℕ) (fs : List Field) → length fs < 2 ^ 64 → Gives (IsForm x fs) (function_form fs)
function-spelt x [] small = tt
function-spelt x (f ∷ fs) small =
    gives-then (IsForm x (f ∷ fs)) (λ t. f ≡ ty_field t) _ (return_type f) (return-field f)
    (λ t e. params-spelt x f fs t (counted fs) e (omega (arith, small)) (counted-spelt fs (omega (arith, small))))

-- Names that other objects define.

abbrev sort_word : Sort → List ℕ
sort_word sort.Lock = codes "lock"
sort_word sort.Shared = codes "shared"
sort_word sort.Const = codes "const"
sort_word sort.Function = codes "function"

sort-spelt : (f : Field) → May (λ s. f ≡ Word (sort_word s)) (sort_of f)
sort-spelt f =
    let function : Option Sort = cond (spells f (codes "function")) (Some sort.Function) None in
    let const : Option Sort = cond (spells f (codes "const")) (Some sort.Const) function in
    let shared : Option Sort = cond (spells f (codes "shared")) (Some sort.Shared) const in
    may-if (λ s. f ≡ Word (sort_word s)) (spells f (codes "lock")) (Some sort.Lock) shared
    (λ e. spelt f (codes "lock") e)
    (λ e. may-if (λ s. f ≡ Word (sort_word s)) (spells f (codes "shared")) (Some sort.Shared) const
    (λ g. spelt f (codes "shared") g)
    (λ g. may-if (λ s. f ≡ Word (sort_word s)) (spells f (codes "const")) (Some sort.Const) function
    (λ h. spelt f (codes "const") h)
    (λ h. may-if (λ s. f ≡ Word (sort_word s)) (spells f (codes "function")) (Some sort.Function) None
    (λ k. spelt f (codes "function") k) (λ k. tt))))

-- the fields of a form after its sort and its name
abbrev Forms : Sort → List ℕ → List Field → Declared → Type 0
Forms s x fs f = Word (sort_word s) ∷ Word x ∷ fs ≡ form_fields x f []

lock-spelt : (x : List ℕ) (fs : List Field) → Gives (Forms sort.Lock x fs) (lock_form fs)
lock-spelt x [] = refl
lock-spelt x (f ∷ fs) = tt

-- a type and the lock that guards
shared-spelt : (x : List ℕ) (f g : Field) (o : Option GlobalType) → May (λ t. f ≡ type_field t.kind t.len) o →
    Gives (Forms sort.Shared x (f ∷ g ∷ [])) (shared_by o g)
shared-spelt x f g None h = tt
shared-spelt x f g (Some t) h =
    gives-then (Forms sort.Shared x (f ∷ g ∷ [])) (λ lock. g ≡ Word lock) _ (name_at g) (name-field g)
    (λ lock e. gives-made (Forms sort.Shared x (f ∷ g ∷ [])) (λ y. type_field t.kind t.len ≡ ty_field y)
    (λ y. form.Shared y lock) (ty_of t) (type-field t.kind t.len) (λ y k. all (h ∙ k) e))
  where
    all : {p q : Field} → f ≡ p → g ≡ q →
        Word (codes "shared") ∷ Word x ∷ f ∷ g ∷ [] ≡ Word (codes "shared") ∷ Word x ∷ p ∷ q ∷ []
    all a b = cc

shared-form : (x : List ℕ) (fs : List Field) → Gives (Forms sort.Shared x fs) (shared_form fs)
shared-form x [] = tt
shared-form x (f ∷ []) = tt
shared-form x (f ∷ g ∷ []) = shared-spelt x f g (global_type f) (global-field f)
shared-form x (f ∷ g ∷ h ∷ hs) = tt

table-spelt : (x : List ℕ) (f : Field) (o : Option GlobalType) → May (λ t. f ≡ type_field t.kind t.len) o →
    Gives (Forms sort.Const x (f ∷ [])) (table_by o)
table-spelt x f None h = tt
table-spelt x f (Some t) h =
    gives-made (Forms sort.Const x (f ∷ [])) (λ y. type_field t.kind t.len ≡ ty_field y) form.Table (ty_of t)
    (type-field t.kind t.len) (λ y k. ap (λ g. Word (codes "const") ∷ Word x ∷ g ∷ []) (h ∙ k))

table-form : (x : List ℕ) (fs : List Field) → Gives (Forms sort.Const x fs) (table_form fs)
table-form x [] = tt
table-form x (f ∷ []) = table-spelt x f (global_type f) (global-field f)
table-form x (f ∷ g ∷ gs) = tt

extern-form : (s : Sort) (x : List ℕ) (fs : List Field) → length fs < 2 ^ 64 →
    Gives (Forms s x fs) (extern_form s fs)
extern-form sort.Lock x fs small = lock-spelt x fs
extern-form sort.Shared x fs small = shared-form x fs
extern-form sort.Const x fs small = table-form x fs
extern-form sort.Function x fs small = function-spelt x fs small

abbrev IsExtern : List Field → Decl → Type 0
IsExtern fs decl = fs ≡ decl_fields decl []

extern-spelt : (f : Field) (fs : List Field) (o : Option Sort) → May (λ s. f ≡ Word (sort_word s)) o →
    length fs < 2 ^ 64 → Gives (IsExtern (f ∷ fs)) (decl_by o fs)
extern-spelt f fs None h small = tt
extern-spelt f [] (Some s) h small = tt
extern-spelt f (g ∷ fs) (Some s) h small =
    gives-then (IsExtern (f ∷ g ∷ fs)) (λ x. g ≡ Word x) _ (name_at g) (name-field g)
    (λ x e. gives-made (IsExtern (f ∷ g ∷ fs)) (Forms s x fs) _ (extern_form s fs)
    (extern-form s x fs (omega (arith, small))) (λ y k. both h e ∙ k))
  where
    both : {p q : Field} → f ≡ p → g ≡ q → f ∷ g ∷ fs ≡ p ∷ q ∷ fs
    both a b = cc

-- Definitions.

-- a lock has no values
abbrev pub HasNoLockValues : DeclLine → Type 0
HasNoLockValues (Data global) = is_lock global.decl.form ≡ true → global.values ≡ []
HasNoLockValues _ = Unit {0}

abbrev pub IsLine : List Field → DeclLine → Type 0
IsLine fs line = (fs ≡ line_fields line) × HasNoLockValues line

lock-line : (x : List ℕ) (fs : List Field) →
    Gives (IsLine (Word (codes "lock") ∷ Word x ∷ fs)) (lock_line x fs)
lock-line x [] = (refl, λ e. refl)
lock-line x (f ∷ fs) = tt

shared-data : (x : List ℕ) (f g : Field) (fs : List Field) (o : Option GlobalType) →
    May (λ t. f ≡ type_field t.kind t.len) o →
    Gives (IsLine (Word (codes "shared") ∷ Word x ∷ f ∷ g ∷ fs)) (shared_data x o g fs)
shared-data x f g fs None h = tt
shared-data x f g fs (Some t) h =
    gives-then (IsLine (Word (codes "shared") ∷ Word x ∷ f ∷ g ∷ fs)) (λ lock. g ≡ Word lock) _ (name_at g)
    (name-field g)
    (λ lock e. gives-made (IsLine (Word (codes "shared") ∷ Word x ∷ f ∷ g ∷ fs)) (IsTyped t.kind t.len fs) _
    (typed_values t fs) (typed-spelt t fs) (λ typed k. (all (h ∙ k.0) e k.1, λ g. absurd cc)))
  where
    all : {p q : Field} {hs : List Field} → f ≡ p → g ≡ q → fs ≡ hs →
        Word (codes "shared") ∷ Word x ∷ f ∷ g ∷ fs ≡ Word (codes "shared") ∷ Word x ∷ p ∷ q ∷ hs
    all a b c = cc

shared-line : (x : List ℕ) (fs : List Field) →
    Gives (IsLine (Word (codes "shared") ∷ Word x ∷ fs)) (shared_line x fs)
shared-line x [] = tt
shared-line x (f ∷ []) = tt
shared-line x (f ∷ g ∷ fs) = shared-data x f g fs (global_type f) (global-field f)

table-data : (x : List ℕ) (f : Field) (fs : List Field) (o : Option GlobalType) →
    May (λ t. f ≡ type_field t.kind t.len) o →
    Gives (IsLine (Word (codes "const") ∷ Word x ∷ f ∷ fs)) (table_data x o fs)
table-data x f fs None h = tt
table-data x f fs (Some t) h =
    gives-made (IsLine (Word (codes "const") ∷ Word x ∷ f ∷ fs)) (IsTyped t.kind t.len fs) _ (typed_values t fs)
    (typed-spelt t fs) (λ typed k. (all (h ∙ k.0) k.1, λ g. absurd cc))
  where
    all : {p : Field} {hs : List Field} → f ≡ p → fs ≡ hs →
        Word (codes "const") ∷ Word x ∷ f ∷ fs ≡ Word (codes "const") ∷ Word x ∷ p ∷ hs
    all a b = cc

table-line : (x : List ℕ) (fs : List Field) →
    Gives (IsLine (Word (codes "const") ∷ Word x ∷ fs)) (table_line x fs)
table-line x [] = tt
table-line x (f ∷ fs) = table-data x f fs (global_type f) (global-field f)

function-line : (x : List ℕ) (fs : List Field) → length fs < 2 ^ 64 →
    Gives (IsLine (Word (codes "function") ∷ Word x ∷ fs)) (function_line x fs)
function-line x fs small =
    gives-made (IsLine (Word (codes "function") ∷ Word x ∷ fs)) (IsForm x fs) _ (function_form fs)
    (function-spelt x fs small) (λ f k. (k, tt))

definition-spelt : (s : Sort) (x : List ℕ) (fs : List Field) → length fs < 2 ^ 64 →
    Gives (IsLine (Word (sort_word s) ∷ Word x ∷ fs)) (definition s fs x)
definition-spelt sort.Lock x fs small = lock-line x fs
definition-spelt sort.Shared x fs small = shared-line x fs
definition-spelt sort.Const x fs small = table-line x fs
definition-spelt sort.Function x fs small = function-line x fs small

definition-line : (f g : Field) (fs : List Field) (o : Option Sort) → May (λ s. f ≡ Word (sort_word s)) o →
    length fs < 2 ^ 64 → Gives (IsLine (f ∷ g ∷ fs)) (definition_line o g fs)
definition-line f g fs None h small = tt
definition-line f g fs (Some s) h small =
    gives-then (IsLine (f ∷ g ∷ fs)) (λ x. g ≡ Word x) (definition s fs) (name_at g) (name-field g)
    (λ x e. subst (λ hs. Gives (IsLine hs) (definition s fs x)) (sym (both h e)) (definition-spelt s x fs small))
  where
    both : {p q : Field} → f ≡ p → g ≡ q → f ∷ g ∷ fs ≡ p ∷ q ∷ fs
    both a b = cc

defined-line : (f : Field) (fs : List Field) → length fs < 2 ^ 64 → Gives (IsLine (f ∷ fs)) (defined_line f fs)
defined-line f [] small = tt
defined-line f (g ∷ fs) small =
    definition-line f g fs (sort_of f) (sort-spelt f) (omega (arith, small))

end-line : (fs : List Field) → Gives (IsLine (Word (codes "end") ∷ fs)) (end_line fs)
end-line [] = tt
end-line (f ∷ []) =
    gives-if (IsLine (Word (codes "end") ∷ f ∷ [])) (spells f (codes "object")) (Ok End) (Err Form)
    (λ e. (ap (λ g. Word (codes "end") ∷ g ∷ []) (spelt f (codes "object") e), tt)) tt
end-line (f ∷ g ∷ fs) = tt

extern-line : (fs : List Field) → length fs < 2 ^ 64 →
    Gives (IsLine (Word (codes "extern") ∷ fs)) (extern_line fs)
extern-line [] small = tt
extern-line (f ∷ fs) small =
    gives-made (IsLine (Word (codes "extern") ∷ f ∷ fs)) (IsExtern (f ∷ fs)) Extern (decl_by (sort_of f) fs)
    (extern-spelt f fs (sort_of f) (sort-spelt f) (omega (arith, small)))
    (λ decl k. (ap (λ gs. Word (codes "extern") ∷ gs) k, tt))

-- a line that is read has the fields of what it declares
pub decl-spelt : (fs : List Field) → length fs < 2 ^ 64 → Gives (IsLine fs) (decl_line fs)
decl-spelt [] small = tt
decl-spelt (f ∷ fs) small =
    let closes = spells f (codes "end") in
    gives-if (IsLine (f ∷ fs)) (spells f (codes "extern")) (extern_line fs)
    (cond closes (end_line fs) (defined_line f fs))
    (λ e. subst (λ g. Gives (IsLine (g ∷ fs)) (extern_line fs)) (sym (spelt f (codes "extern") e))
    (extern-line fs (omega (arith, small))))
    (gives-if (IsLine (f ∷ fs)) closes (end_line fs) (defined_line f fs)
    (λ e. subst (λ g. Gives (IsLine (g ∷ fs)) (end_line fs)) (sym (spelt f (codes "end") e)) (end-line fs))
    (defined-line f fs (omega (arith, small))))
