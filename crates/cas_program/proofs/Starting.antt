-- The words with which a program begins are values of its kinds.
use Rattle.std.proofs.Common.{arith, ◌≡◌, ℕ, zero, suc, ◌+◌, ◌<◌, Bool, true, false, cond, List, [], ◌∷◌, ◌++◌, length, map, replicate, Option, Some, None, refl, sym, ap, subst, ◌∙◌, IsTrue}
use Rattle.std.specs.Prelude.{slice_get}
use Rattle.std.specs.List.{flat_map, AllByRecursion}
use Rattle.std.proofs.lemmas.List.Elements.{recursion_from_All, filter-append}
use Rattle.std.proofs.lemmas.List.{append_assoc}
use Rattle.std.proofs.lemmas.Option.{slice_get_within}
use Rattle.cas_base.specs.Decl.{definitions, is_lock, words_of_form}
use Rattle.cas_base.specs.Kind.{is_of_kind}
use Rattle.cas_base.specs.Ty.{words_of_ty}
use Rattle.cas_base.specs.declared.decl.Decl.{Decl}
use Rattle.cas_base.specs.declared.decl.Form.{Form}
use Rattle.cas_base.specs.declared.decl.Form.TheVariants.{Lock, Shared, Table, Function as AFunction}
use Rattle.cas_base.specs.declared.kind.Kind.{Kind}
use Rattle.cas_base.specs.declared.kind.Ty.{Ty}
use Rattle.cas_base.specs.declared.kind.Ty.TheVariants.{Void, Int, Ptr, Array}
use Rattle.cas_base.specs.declared.place.Place.{Place}
use Rattle.cas_settle.specs.Settle.{all_decls}
use Rattle.cas_step.specs.Env.{shared}
use Rattle.cas_step.specs.Well_formed.{kind_of, AreWellTypedWords}
use Rattle.cas_syntax.specs.Tree.{ItemTree, global, prototype, define}
use Rattle.cas_typed.specs.Formed.{AreValuesOf, IsGlobal, IsFunctionForm, ItemsAreFormed}
use Rattle.cas_typed.specs.Modules.{decl_of, elements_of, decls_of}
use Rattle.cas_typed.specs.Resolved.{TypedModuleTree}
use Rattle.cas_typed.specs.Types.{variable_type}
use Rattle.cas_typed.proofs.Filled.{IsTyped-enough}
use Rattle.cas_program.specs.Laws.{InitialStoreIsWellTyped, GuardsAreWords}
use Rattle.cas_program.specs.Program.{IsProgram, units_of, kinds_of_form, first_words, item_words, initial_words, env_of}
use Rattle.cas_program.proofs.Laid_out.{kinds_in, kinds_at, lock_begins}
use Rattle.cas_program.proofs.Locking.{shared_is}
use Rattle.cas_program.proofs.Meanings.{module_typed, module_formed}
use Rattle.cas_program.proofs.Meanings as meant

-- words fit one part after another

fit_both : (ks : List (Option Kind)) (ns : List ℕ) (js : List (Option Kind)) (ms : List ℕ) → AreWellTypedWords ks ns →
    AreWellTypedWords js ms → AreWellTypedWords (ks ++ js) (ns ++ ms)
fit_both [] [] js ms first second = second
fit_both [] (n ∷ ns) js ms first second = absurd first
fit_both (k ∷ ks) [] js ms first second = absurd first
fit_both (k ∷ ks) (n ∷ ns) js ms first second = (first.0, fit_both ks ns js ms first.1 second)

pub fit_length : (ks : List (Option Kind)) (ns : List ℕ) → AreWellTypedWords ks ns → length ns ≡ length ks
fit_length [] [] fits = refl
fit_length [] (n ∷ ns) fits = absurd fits
fit_length (k ∷ ks) [] fits = absurd fits
fit_length (k ∷ ks) (n ∷ ns) fits = ap suc (fit_length ks ns fits.1)

fit_values : (k : Kind) (vs : List ℕ) (n : ℕ) → length vs ≡ n → AllByRecursion (λ v. IsTrue (is_of_kind v k)) vs →
    AreWellTypedWords (replicate n (Some k)) vs
fit_values k [] zero is all = tt
fit_values k [] (suc n) is all = absurd (omega (arith, is))
fit_values k (v ∷ vs) zero is all = absurd (omega (arith, is))
fit_values k (v ∷ vs) (suc n) is all = (all.0, fit_values k vs n (omega (arith, is)) all.1)

-- the values of a variable fit
fit_variable : (ty : Ty) (vs : List ℕ) → AreValuesOf ty vs → length vs ≡ words_of_ty ty →
    AreWellTypedWords (replicate (words_of_ty ty) (kind_of ty)) vs
fit_variable Void vs values is = absurd values
fit_variable (Int k) vs values is = fit_values k vs 1 is (recursion_from_All (λ v. IsTrue (is_of_kind v k)) vs values)
fit_variable (Ptr k) vs values is = absurd values
fit_variable (Array k n) vs values is = fit_values k vs n is
    (recursion_from_All (λ v. IsTrue (is_of_kind v k)) vs values.1)

-- the words of what is defined fit
pub fit_form : (form : Form) (vs : List ℕ) → IsGlobal form vs → length vs ≡ elements_of (variable_type form) →
    AreWellTypedWords (kinds_of_form form) (first_words form vs)
fit_form Lock vs is count = (tt, tt)
fit_form (Shared ty guard) vs is count = fit_variable ty vs is count
fit_form (Table ty) vs is count = fit_variable ty vs is count
fit_form (AFunction ret params holds) vs is count = absurd is

-- the kinds and words of items

fit_global : (d : Decl) (vs : List ℕ) (ds : List Decl) (ws : List ℕ) (b : Bool) → IsGlobal d.form vs →
    (b ≡ true → length vs ≡ elements_of (variable_type d.form)) → AreWellTypedWords (kinds_in ds) ws →
    AreWellTypedWords (kinds_in (cond b (d ∷ ds) ds)) (cond b (first_words d.form vs) [] ++ ws)
fit_global d vs ds ws true is count rest = fit_both (kinds_of_form d.form) (first_words d.form vs) (kinds_in ds) ws
    (fit_form d.form vs is (count refl)) rest
fit_global d vs ds ws false is count rest = rest

no_kinds : (form : Form) → IsFunctionForm form → kinds_of_form form ≡ []
no_kinds Lock is = absurd is
no_kinds (Shared ty guard) is = absurd is
no_kinds (Table ty) is = absurd is
no_kinds (AFunction ret params holds) is = refl

-- a function has no words, defined or not
fit_function : (d : Decl) (ds : List Decl) (ws : List ℕ) (b : Bool) → IsFunctionForm d.form →
    AreWellTypedWords (kinds_in ds) ws → AreWellTypedWords (kinds_in (cond b (d ∷ ds) ds)) ws
fit_function d ds ws true is rest = subst (λ ks. AreWellTypedWords (ks ++ kinds_in ds) ws) (sym (no_kinds d.form is))
    rest
fit_function d ds ws false is rest = rest

-- each variable among these that is defined has as many values as elements
abbrev pub AreFilled : List ItemTree → Type 0
AreFilled items = (n : ℕ) (d : Decl) (vs : List ℕ) (p : Place) → slice_get items n ≡ Some (global d vs p) →
    d.defined ≡ true → length vs ≡ elements_of (variable_type d.form)

pub fit_items : (items : List ItemTree) → ItemsAreFormed items → AreFilled items →
    AreWellTypedWords (kinds_in (definitions (map decl_of items))) (flat_map item_words items)
fit_items [] formed filled = tt
fit_items (global d vs p ∷ rest) formed filled =
    fit_global d vs (definitions (map decl_of rest)) (flat_map item_words rest) d.defined formed.0.0
    (λ is. filled zero d vs p refl is) (fit_items rest formed.1 (λ n. filled (suc n)))
fit_items (prototype d hs p ∷ rest) formed filled =
    fit_function d (definitions (map decl_of rest)) (flat_map item_words rest) d.defined formed.0.0
    (fit_items rest formed.1 (λ n. filled (suc n)))
fit_items (define f ∷ rest) formed filled =
    fit_function f.decl (definitions (map decl_of rest)) (flat_map item_words rest) f.decl.defined formed.0.0
    (fit_items rest formed.1 (λ n. filled (suc n)))

-- of modules

kinds_append : (ds es : List Decl) → kinds_in (ds ++ es) ≡ kinds_in ds ++ kinds_in es
kinds_append [] es = refl
kinds_append (d ∷ ds) es = ap (λ ks. kinds_of_form d.form ++ ks) (kinds_append ds es)
    ∙ sym (append_assoc (kinds_of_form d.form) (kinds_in ds) (kinds_in es))

abbrev WordsFit : TypedModuleTree → Type 0
WordsFit m = AreWellTypedWords (kinds_in (definitions (decls_of m))) (flat_map item_words m.module_tree.items)

fit_modules : (ms : List TypedModuleTree) → ((n : ℕ) (m : TypedModuleTree) → slice_get ms n ≡ Some m → WordsFit m) →
    AreWellTypedWords (kinds_in (definitions (all_decls (units_of ms)))) (initial_words ms)
fit_modules [] fit = tt
fit_modules (m ∷ ms) fit =
    subst (λ ks. AreWellTypedWords ks (initial_words (m ∷ ms)))
    (sym (ap kinds_in (filter-append (λ (d : Decl). d.defined) (decls_of m) (all_decls (units_of ms)))
    ∙ kinds_append (definitions (decls_of m)) (definitions (all_decls (units_of ms)))))
    (fit_both (kinds_in (definitions (decls_of m))) (flat_map item_words m.module_tree.items)
    (kinds_in (definitions (all_decls (units_of ms)))) (initial_words ms)
    (fit zero m refl) (fit_modules ms (λ n. fit (suc n))))

-- of a program

is_lock_form : (form : Form) → is_lock form ≡ true → form ≡ Lock
is_lock_form Lock is = refl
is_lock_form (Shared ty guard) is = absurd (cc is)
is_lock_form (Table ty) is = absurd (cc is)
is_lock_form (AFunction ret params holds) is = absurd (cc is)

module _ (modules : List TypedModuleTree) (names : List (List ℕ)) (program : IsProgram modules names) where
  module_fits : (n : ℕ) (m : TypedModuleTree) → slice_get modules n ≡ Some m → WordsFit m
  module_fits n m is = fit_items m.module_tree.items (module_formed modules names program n m is)
      (IsTyped-enough m.module_tree m (module_typed modules names program n m is))

  pub words_fit : AreWellTypedWords (env_of modules).kinds (initial_words modules)
  words_fit = fit_modules modules module_fits

  pub as_many : length (initial_words modules) ≡ length (env_of modules).kinds
  as_many = fit_length (env_of modules).kinds (initial_words modules) words_fit

  lock_kind : (d : Decl) (w : ℕ) → d.form ≡ Lock → slice_get (env_of modules).kinds (w + 0) ≡ slice_get
      (kinds_of_form d.form) 0 → slice_get (env_of modules).kinds w ≡ Some None
  lock_kind d w form is = let e : w ≡ w + 0 = omega arith in ap (slice_get (env_of modules).kinds) e ∙ is
      ∙ ap (λ f. slice_get (kinds_of_form f) 0) form

  pub guard_word : (n g first len w : ℕ) → (env_of modules).entity n g ≡ Some (shared first len (Some w)) →
      (w < length (initial_words modules)) × (slice_get (env_of modules).kinds w ≡ Some None)
  guard_word n g first len w entity =
      let (_, _, _, name, _, named) = shared_is modules names program n g first len (Some w) entity in
      let (d, begins, lock) = lock_begins 0 (meant.defined modules names program) name w named in
      let form = is_lock_form d.form lock in
      let kind =
      lock_kind d w form (kinds_at (meant.defined modules names program) d w 0 begins
      (omega (arith, ap words_of_form form))) in
      (omega (arith, as_many, slice_get_within (env_of modules).kinds w None kind), kind)

pub initial_store_is_well_typed : InitialStoreIsWellTyped
initial_store_is_well_typed modules names program = (as_many modules names program, words_fit modules names program)

pub guards_are_words : GuardsAreWords
guards_are_words modules names program n g first len w entity = guard_word modules names program n g first len w entity
