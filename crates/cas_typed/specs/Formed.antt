-- What holds of each module that a text is read as, typed or not: its literals and the lengths of arrays are words,
-- its initial values are values of their kinds, and each of its items declares what it is. (A tree may be made in
-- other ways too.)
use Rattle.std.specs.Prelude.{◌≡◌, ◌⊎◌, ⊤, ◌<◌, ◌^◌, ℕ, true, false, IsTrue, List, [], ◌∷◌, length, Option, Some, None, slice_get, All}
use Rattle.cas_base.specs.Kind.{is_of_kind}
use Rattle.cas_base.specs.declared.decl.Decl.{Decl}
use Rattle.cas_base.specs.declared.decl.Form.{Form}
use Rattle.cas_base.specs.declared.decl.Form.TheVariants.{Lock, Shared, Table, Function}
use Rattle.cas_base.specs.declared.kind.Kind.{Kind}
use Rattle.cas_base.specs.declared.kind.Ty.{Ty}
use Rattle.cas_base.specs.declared.kind.Ty.TheVariants.{Void, Int, Ptr, Array}
use Rattle.cas_base.specs.declared.place.Place.{Place}
use Rattle.cas_syntax.specs.Tree.{ExprTree, literal, name, index, deref, address, address_index, unary, cast, binary, and_also, or_else, conditional, TargetTree, to_name, to_index, to_deref, InitTree, nothing, value, called, StmtTree, skip, declare, assign, call, block, if_, while_, do_, for_, break_, continue_, return_, lock, unlock, print, StmtOption, absent, present, StmtList, no_more, one_more, ItemTree, global, prototype, define, ModuleTree}
use Rattle.cas_typed.specs.Counts.{parameter_types}
use Rattle.cas_typed.specs.Modules.{elements_of}
use Rattle.cas_typed.specs.Types.{variable_type}

-- the types of locals, with lengths that are words
abbrev pub IsLocalType : Ty → Type 0
IsLocalType Void = ⊥
IsLocalType (Int k) = ⊤
IsLocalType (Ptr k) = ⊤
IsLocalType (Array k n) = n < 2 ^ 32

-- the types of parameters
abbrev pub IsPassed : Ty → Type 0
IsPassed Void = ⊥
IsPassed (Int k) = ⊤
IsPassed (Ptr k) = ⊤
IsPassed (Array k n) = ⊥

abbrev pub ArePassed : List Ty → Type 0
ArePassed [] = ⊤
ArePassed (ty ∷ tys) = IsPassed ty × ArePassed tys

-- the types of what functions return
abbrev pub IsReturned : Ty → Type 0
IsReturned Void = ⊤
IsReturned (Int k) = ⊤
IsReturned (Ptr k) = ⊤
IsReturned (Array k n) = ⊥

-- the literals in a tree are words, and its locals have such types

abbrev pub ExprIsFormed : ExprTree → Type 0
ExprIsFormed (literal n k) = n < 2 ^ 32
ExprIsFormed (name x) = ⊤
ExprIsFormed (index x a) = ExprIsFormed a
ExprIsFormed (deref a) = ExprIsFormed a
ExprIsFormed (address x) = ⊤
ExprIsFormed (address_index x a) = ExprIsFormed a
ExprIsFormed (unary op a) = ExprIsFormed a
ExprIsFormed (cast k a) = ExprIsFormed a
ExprIsFormed (binary op a b) = ExprIsFormed a × ExprIsFormed b
ExprIsFormed (and_also a b) = ExprIsFormed a × ExprIsFormed b
ExprIsFormed (or_else a b) = ExprIsFormed a × ExprIsFormed b
ExprIsFormed (conditional c a b) = ExprIsFormed c × ExprIsFormed a × ExprIsFormed b

abbrev pub ExprsAreFormed : List ExprTree → Type 0
ExprsAreFormed [] = ⊤
ExprsAreFormed (a ∷ args) = ExprIsFormed a × ExprsAreFormed args

abbrev pub OptionalIsFormed : Option ExprTree → Type 0
OptionalIsFormed None = ⊤
OptionalIsFormed (Some a) = ExprIsFormed a

abbrev pub TargetIsFormed : TargetTree → Type 0
TargetIsFormed (to_name x) = ⊤
TargetIsFormed (to_index x a) = ExprIsFormed a
TargetIsFormed (to_deref a) = ExprIsFormed a

abbrev pub InitIsFormed : InitTree → Type 0
InitIsFormed nothing = ⊤
InitIsFormed (value a) = ExprIsFormed a
InitIsFormed (called f args) = ExprsAreFormed args

abbrev mutual
  pub StmtIsFormed : StmtTree → Type 0
  StmtIsFormed (skip p) = ⊤
  StmtIsFormed (declare p ty x a) = IsLocalType ty × InitIsFormed a
  StmtIsFormed (assign p target op a) = TargetIsFormed target × ExprIsFormed a
  StmtIsFormed (call p x f args) = ExprsAreFormed args
  StmtIsFormed (block p bs) = BodyIsFormed bs
  StmtIsFormed (if_ p c a otherwise) = ExprIsFormed c × StmtIsFormed a × PartIsFormed otherwise
  StmtIsFormed (while_ p c a) = ExprIsFormed c × StmtIsFormed a
  StmtIsFormed (do_ p a c) = StmtIsFormed a × ExprIsFormed c
  StmtIsFormed (for_ p first c after a) = PartIsFormed first × OptionalIsFormed c × PartIsFormed after × StmtIsFormed a
  StmtIsFormed (break_ p) = ⊤
  StmtIsFormed (continue_ p) = ⊤
  StmtIsFormed (return_ p a) = OptionalIsFormed a
  StmtIsFormed (lock p x) = ⊤
  StmtIsFormed (unlock p x) = ⊤
  StmtIsFormed (print p a) = ExprIsFormed a

  pub PartIsFormed : StmtOption → Type 0
  PartIsFormed absent = ⊤
  PartIsFormed (present a) = StmtIsFormed a

  pub BodyIsFormed : StmtList → Type 0
  BodyIsFormed no_more = ⊤
  BodyIsFormed (one_more a bs) = StmtIsFormed a × BodyIsFormed bs

-- these are values of the kind
abbrev pub AreOfKind : Kind → List ℕ → Type 0
AreOfKind k vs = All (λ v. IsTrue (is_of_kind v k)) vs

-- the initial values of a global of this type: of an integer, or of an array of integers, whose length is a word
abbrev pub AreValuesOf : Ty → List ℕ → Type 0
AreValuesOf Void vs = ⊥
AreValuesOf (Int k) vs = AreOfKind k vs
AreValuesOf (Ptr k) vs = ⊥
AreValuesOf (Array k n) vs = (n < 2 ^ 32) × AreOfKind k vs

-- what is declared with these initial values: a lock, which has none, or a variable
abbrev pub IsGlobal : Form → List ℕ → Type 0
IsGlobal Lock vs = vs ≡ []
IsGlobal (Shared ty guard) vs = AreValuesOf ty vs
IsGlobal (Table ty) vs = AreValuesOf ty vs
IsGlobal (Function ret params holds) vs = ⊥

-- a function is declared
abbrev pub IsFunctionForm : Form → Type 0
IsFunctionForm Lock = ⊥
IsFunctionForm (Shared ty guard) = ⊥
IsFunctionForm (Table ty) = ⊥
IsFunctionForm (Function ret params holds) = IsReturned ret × ArePassed params

-- a global has values only if it is defined, a prototype declares a function without defining it, and what has a
-- body defines one, each of whose parameters has a name
abbrev pub ItemIsFormed : ItemTree → Type 0
ItemIsFormed (global d vs p) = IsGlobal d.form vs × ((d.defined ≡ true) ⊎ (vs ≡ []))
ItemIsFormed (prototype d held p) = IsFunctionForm d.form × (d.defined ≡ false)
ItemIsFormed (define f) =
    IsFunctionForm f.decl.form × (f.decl.defined ≡ true) × (length f.params ≡ length (parameter_types f.decl.form)) ×
    BodyIsFormed f.body

abbrev pub ItemsAreFormed : List ItemTree → Type 0
ItemsAreFormed [] = ⊤
ItemsAreFormed (a ∷ items) = ItemIsFormed a × ItemsAreFormed items

-- a module is formed
abbrev pub IsFormed : ModuleTree → Type 0
IsFormed m = ItemsAreFormed m.items

-- each variable that is defined has as many initial values as elements
abbrev pub IsFilled : ModuleTree → Type 0
IsFilled m = (n : ℕ) (d : Decl) (vs : List ℕ) (p : Place) → slice_get m.items n ≡ Some (global d vs p) →
    d.defined ≡ true →
    length vs ≡ elements_of (variable_type d.form)
