-- Where a unit's functions are its defined declarations in their order, they are those that it declares as defined, and
-- the outside may enter exactly these at an edge that
-- fits it.
use Rattle.std.specs.Prelude.{map}
use Rattle.std.specs.List.{AllByRecursion}
use Rattle.std.proofs.Common.{◌≡◌, List, [], ◌∷◌, ◌++◌, Bool, true, false, ◌&&◌, if◌then◌else◌, refl, sym, ap, ◌∙◌}
use Rattle.cas_base.specs.declared.decl.Decl.{Decl}
use Rattle.cas_base.specs.declared.decl.Form.{Form}
use Rattle.cas_base.specs.declared.decl.Form.TheVariants.{Lock, Shared, Table, Function}
use Rattle.cas_base.specs.declared.decl.Unit.{Unit as UnitOf}
use Rattle.cas_base.specs.Decl.{functions_of}
use Rattle.cas_base.specs.Unit.{IsInOrder}
use Rattle.cas_runs.specs.Label.{NameBytes, same_name}
use Rattle.cas_runs.specs.Edge.{Signature}
use Rattle.cas_runs.specs.Unit.{Setting, Language, defined_as, defines, has_function, AreDefined, OnlyInside, all_decls, all_functions, FitsUnit}

-- one of the declarations has this name
abbrev has_named : List Decl → NameBytes → Bool
has_named [] name = false
has_named (d ∷ ds) name = if same_name d.name name then true else has_named ds name

pub dropped : (t x : Bool) → (if t && false then true else x) ≡ x
dropped true x = refl
dropped false x = refl

pub taken : (t x : Bool) → (if t then true else x) ≡ (if t && true then true else x)
taken true x = refl
taken false x = refl

one_more : (n : NameBytes) (form : Form) (defined : Bool) (ds : List Decl) (name : NameBytes) →
    has_named (functions_of ds) name ≡ defines ds name →
    has_named (functions_of (record { name = n; form = form; defined = defined } ∷ ds)) name ≡ defines
    (record { name = n; form = form; defined = defined } ∷ ds) name
one_more n Lock false ds name h = h ∙ sym (dropped (same_name n name) (defines ds name))
one_more n (Shared ty lock) false ds name h = h ∙ sym (dropped (same_name n name) (defines ds name))
one_more n (Table ty) false ds name h = h ∙ sym (dropped (same_name n name) (defines ds name))
one_more n (Function ret params holds) false ds name h = h ∙ sym (dropped (same_name n name) (defines ds name))
one_more n Lock true ds name h = h ∙ sym (dropped (same_name n name) (defines ds name))
one_more n (Shared ty lock) true ds name h = h ∙ sym (dropped (same_name n name) (defines ds name))
one_more n (Table ty) true ds name h = h ∙ sym (dropped (same_name n name) (defines ds name))
one_more n (Function ret params holds) true ds name h = ap (λ (x : Bool). if same_name n name then true else x) h
    ∙ taken (same_name n name) (defines ds name)

defined_named : (ds : List Decl) (name : NameBytes) → has_named (functions_of ds) name ≡ defines ds name
defined_named [] name = refl
defined_named (d ∷ ds) name = one_more d.name d.form d.defined ds name (defined_named ds name)

-- of two lists, it is so of one or the other

either_more : (t x y z : Bool) → x ≡ (if y then true else z) →
    (if t then true else x) ≡ (if (if t then true else y) then true else z)
either_more true x y z e = refl
either_more false x y z e = e

defines_either : (ds es : List Decl) (name : NameBytes) →
    defines (ds ++ es) name ≡ (if defines ds name then true else defines es name)
defines_either [] es name = refl
defines_either (d ∷ ds) es name = either_more (same_name d.name name && defined_as d.form d.defined)
    (defines (ds ++ es) name) (defines ds name) (defines es name) (defines_either ds es name)

has_either : {F S : Type 0} (l : Language F S) (fs gs : List F) (name : NameBytes) →
    has_function l (fs ++ gs) name ≡ (if has_function l fs name then true else has_function l gs name)
has_either l [] gs name = refl
has_either l (f ∷ fs) gs name = either_more (same_name (l.name f) name) (has_function l (fs ++ gs) name)
    (has_function l fs name) (has_function l gs name) (has_either l fs gs name)

module _ {F S : Type 0} (l : Language F S) (decl_of : F → Decl) (names : (f : F) → (decl_of f).name ≡ l.name f) where
  named_too : (fs : List F) (name : NameBytes) → has_named (map decl_of fs) name ≡ has_function l fs name
  named_too [] name = refl
  named_too (f ∷ fs) name = ap (λ (n : NameBytes). if same_name n name then true else has_named (map decl_of fs) name)
      (names f) ∙ ap (λ (x : Bool). if same_name (l.name f) name then true else x) (named_too fs name)

  -- the functions are those that are declared as defined
  pub in_order_defined : (unit : UnitOf F) → IsInOrder decl_of unit → AreDefined l unit.decls unit.funs
  in_order_defined unit order name = sym (named_too unit.funs name) ∙ ap (λ ds. has_named ds name) order.functions
      ∙ defined_named unit.decls name

  -- so it is in a program of such units
  pub all_in_order_defined : (units : List (UnitOf F)) → AllByRecursion (IsInOrder decl_of) units →
      AreDefined l (all_decls units) (all_functions units)
  all_in_order_defined [] all name = refl
  all_in_order_defined (u ∷ us) all name =
      has_either l u.funs (all_functions us) name
      ∙ ap (λ (x : Bool). if x then true else has_function l (all_functions us) name) (in_order_defined u all.0 name)
      ∙ ap (λ (x : Bool). if defines u.decls name then true else x) (all_in_order_defined us all.1 name)
      ∙ sym (defines_either u.decls (all_decls us) name)

  only_these : (test other : NameBytes → Bool) → ((name : NameBytes) → test name ≡ other name) → (gs : List Signature) →
      OnlyInside test gs → OnlyInside other gs
  only_these test other same [] h = tt
  only_these test other same (g ∷ gs) h = (h.0 ∙ same g.name, only_these test other same gs h.1)

  pub entered_functions : (unit : UnitOf F) → IsInOrder decl_of unit → (setting : Setting) →
      FitsUnit setting unit.decls unit.globals → OnlyInside (has_function l unit.funs) setting.edge.functions
  entered_functions unit order setting fits =
      only_these (defines unit.decls) (has_function l unit.funs) (λ name. sym (in_order_defined unit order name))
      setting.edge.functions fits.entered
