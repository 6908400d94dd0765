-- The entries of a program are functions where threads may begin, one for each name.
use Rattle.std.proofs.Common.{arith, ◌≡◌, ℕ, zero, suc, ◌^◌, ◌≤◌, true, ◌&&◌, List, [], ◌∷◌, length, Option, Some, None, refl, sym, ap, subst, ◌∙◌, IsTrue}
use Rattle.std.specs.Prelude.{◌==◌, slice_get, IsSomeAnd}
use Rattle.std.specs.List.{cons_option, AllByRecursion}
use Rattle.std.specs.Option.{option_map}
use Rattle.std.specs.Cmp.Lexicographic.{pointwise}
use Rattle.std.proofs.lemmas.Bool.{eqb-true}
use Rattle.std.proofs.lemmas.List.Elements.{recursion_from_All}
use Rattle.std.proofs.lemmas.Option.{slice_get-map}
use Rattle.cas_base.specs.Decl.{is_entry, is_function, definition_of}
use Rattle.cas_base.specs.Ty.{same_ty}
use Rattle.cas_base.specs.declared.decl.Decl.{Decl}
use Rattle.cas_base.specs.declared.decl.Form.{Form}
use Rattle.cas_base.specs.declared.decl.Form.TheVariants.{Lock, Shared, Table, Function as AFunction}
use Rattle.cas_base.specs.declared.kind.Kind.TheVariants.{I32}
use Rattle.cas_base.specs.declared.kind.Ty.TheVariants.{Void, Int}
use Rattle.cas_own.specs.Locks.{holds_of, holds_of_form, of_declared}
use Rattle.cas_settle.specs.Settle.{place_of as place_named}
use Rattle.cas_step.specs.Env.{FunctionAt}
use Rattle.cas_step.specs.Well_formed.{IsAt, HasSignature, AreEntries}
use Rattle.cas_typed.specs.Counts.{parameter_types}
use Rattle.cas_typed.specs.Modules.{decl_of, return_type, decls_of}
use Rattle.cas_typed.specs.Resolved.{TypedFunTree, TypedModuleTree}
use Rattle.cas_program.specs.Laws.{AreInOrder, EntriesAreInOrder, EntriesAreEntered, EntriesHoldNone}
use Rattle.cas_program.specs.Program.{IsProgram, units_of, env_of, entries_of}
use Rattle.cas_program.proofs.Agreeing.{both_true, same_ty_is, same_tys_are}
use Rattle.cas_program.proofs.Meanings.{IsFound, found_at, found_is_at}
use Rattle.cas_program.proofs.Meanings as meant
use Rattle.cas_program.proofs.Environments.{found_signature}

no_holds : (holds : List (List ℕ)) → (length holds == 0) ≡ true → holds ≡ []
no_holds [] is = refl
no_holds (name ∷ names) is = absurd (omega (arith, eqb-true (length (name ∷ names)) 0 is))

-- what a thread may enter
pub entry_form : (form : Form) → is_entry form ≡ true → form ≡ AFunction Void (Int I32 ∷ []) []
entry_form Lock is = absurd (cc is)
entry_form (Shared t l) is = absurd (cc is)
entry_form (Table t) is = absurd (cc is)
entry_form (AFunction ret params holds) is =
    let first = both_true (same_ty ret Void && pointwise same_ty params (Int I32 ∷ [])) (length holds == 0) is in
    let second = both_true (same_ty ret Void) (pointwise same_ty params (Int I32 ∷ [])) first.0 in
    λ i. AFunction (same_ty_is ret Void second.0 i) (same_tys_are params (Int I32 ∷ []) second.1 i)
    (no_holds holds first.1 i)

-- the function at the place of a name
abbrev at_place : Option (ℕ × ℕ) → Option FunctionAt
at_place o = option_map (λ (p : ℕ × ℕ). record { unit = p.0; place = p.1 }) o

module _ (modules : List TypedModuleTree) (names : List (List ℕ)) (program : IsProgram modules names) where
  -- the name of a function that a thread may enter
  abbrev IsEntryName : List ℕ → Type 0
  IsEntryName name = IsSomeAnd (definition_of (meant.defined modules names program) name)
      (λ (d : Decl). IsTrue (is_entry d.form))

  -- the function that an entry is
  pub record IsEntry (name : List ℕ) (f : FunctionAt) : Type 0 where
    pub definition : Decl
    pub found : IsFound modules names program name definition
    pub form : definition.form ≡ AFunction Void (Int I32 ∷ []) []
    pub is : found.f ≡ f

  entry_by : (name : List ℕ) (o : Option Decl) → definition_of (meant.defined modules names program) name ≡ o →
      IsSomeAnd o (λ (d : Decl). IsTrue (is_entry d.form)) → (f : FunctionAt) × IsEntry name f
  entry_by name None is h = absurd h
  entry_by name (Some d) is h =
      let form = entry_form d.form h in
      let found = found_at modules names program name d is (ap is_function form) in
      (found.f, record { definition = d; found = found; form = form; is = refl })

  entry_place : (name : List ℕ) (f : FunctionAt) → IsEntry name f →
      place_named (units_of modules) name ≡ Some (f.unit, f.place)
  entry_place name f entry = entry.found.place ∙ ap (λ (g : FunctionAt). Some (g.unit, g.place)) entry.is

  entries_with : (name : List ℕ) (rest : List (List ℕ)) (f : FunctionAt) → IsEntry name f →
      entries_of modules (name ∷ rest) ≡ f ∷ entries_of modules rest
  entries_with name rest f entry = ap (λ o. cons_option (at_place o) (entries_of modules rest))
      (entry_place name f entry)

  -- in the order of the names

  first_each : (name : List ℕ) (rest : List (List ℕ)) (f : FunctionAt) → IsEntry name f → AreInOrder modules rest →
      (thread : ℕ) (n : List ℕ) → slice_get (name ∷ rest) thread ≡ Some n →
      (g : FunctionAt) × (place_named (units_of modules) n ≡ Some (g.unit, g.place))
      × (slice_get (f ∷ entries_of modules rest) thread ≡ Some g)
  first_each name rest f entry ordered zero n is = let same : name ≡ n =
      cc is in (f, ap (place_named (units_of modules)) (sym same) ∙ entry_place name f entry, refl)
  first_each name rest f entry ordered (suc thread) n is = ordered.each thread n is

  in_order : (xs : List (List ℕ)) → AllByRecursion IsEntryName xs → AreInOrder modules xs
  in_order [] all = record { count = refl; each = λ thread name is. absurd (cc is) }
  in_order (name ∷ rest) all =
      let (f, entry) = entry_by name (definition_of (meant.defined modules names program) name) refl all.0 in
      let ordered = in_order rest all.1 in
      let entries = entries_with name rest f entry in
      record {
        count = ap length entries ∙ ap suc ordered.count;
        each = λ thread n is. subst (λ fs. (g : FunctionAt)
            × (place_named (units_of modules) n ≡ Some (g.unit, g.place)) × (slice_get fs thread ≡ Some g))
            (sym entries) (first_each name rest f entry ordered thread n is);
      }

  -- each is an entry

  entry_first : (name : List ℕ) (rest : List (List ℕ)) (f g : FunctionAt) → IsEntry name f →
      ((thread : ℕ) → slice_get (entries_of modules rest) thread ≡ Some g → (n : List ℕ) × IsEntry n g) →
      (thread : ℕ) → slice_get (f ∷ entries_of modules rest) thread ≡ Some g → (n : List ℕ) × IsEntry n g
  entry_first name rest f g entry later zero is = let same : f ≡ g = cc is in (name, subst (IsEntry name) same entry)
  entry_first name rest f g entry later (suc thread) is = later thread is

  entry_of : (xs : List (List ℕ)) → AllByRecursion IsEntryName xs → (g : FunctionAt) (thread : ℕ) →
      slice_get (entries_of modules xs) thread ≡ Some g → (n : List ℕ) × IsEntry n g
  entry_of [] all g thread is = absurd (cc is)
  entry_of (name ∷ rest) all g thread is =
      let (f, entry) = entry_by name (definition_of (meant.defined modules names program) name) refl all.0 in
      entry_first name rest f g entry (entry_of rest all.1 g) thread
      (ap (λ fs. slice_get fs thread) (sym (entries_with name rest f entry)) ∙ is)

  all_entries : AllByRecursion IsEntryName names
  all_entries = recursion_from_All IsEntryName names program.settled.entered

  pub ordered_entries : AreInOrder modules names
  ordered_entries = in_order names all_entries

  abbrev TakesNumber : FunctionAt → Type 0
  TakesNumber f = (unit : TypedModuleTree) × (it : TypedFunTree) × IsAt modules f unit it
      × HasSignature ((env_of modules).function f) Void (Int I32 ∷ [])

  takes_number : (name : List ℕ) (f : FunctionAt) → IsEntry name f → TakesNumber f
  takes_number name f entry =
      subst TakesNumber entry.is (
        entry.found.unit,
        entry.found.defined_there.it,
        found_is_at modules names program name entry.definition entry.found,
        subst (λ form. HasSignature ((env_of modules).function entry.found.f) (return_type form) (parameter_types form))
            entry.form (found_signature modules names program name entry.definition entry.found),
      )

  pub entered : length names ≤ 2 ^ 32 → AreEntries modules (env_of modules) (entries_of modules names)
  entered few = record {
    count = omega (arith, few, ordered_entries.count);
    each = λ thread f is. let (name, entry) = entry_of names all_entries f thread is in takes_number name f entry;
  }

  abbrev HoldsNone : FunctionAt → Type 0
  HoldsNone f = (unit : TypedModuleTree) × (it : TypedFunTree) × IsAt modules f unit it
      × (holds_of (decls_of unit) it.item ≡ [])

  holds_none : (name : List ℕ) (f : FunctionAt) → IsEntry name f → HoldsNone f
  holds_none name f entry =
      let there = entry.found.defined_there in
      let decls = decls_of entry.found.unit in
      subst HoldsNone entry.is (
        entry.found.unit,
        there.it,
        found_is_at modules names program name entry.definition entry.found,
        ap (of_declared (holds_of_form decls) [])
            (slice_get-map decl_of entry.found.unit.module_tree.items there.it.item
            ∙ ap (option_map decl_of) there.is_of.item)
            ∙ ap (λ (d : Decl). holds_of_form decls d.form) there.decl ∙ ap (holds_of_form decls) entry.form,
      )

  pub none_held : (thread : ℕ) (f : FunctionAt) → slice_get (entries_of modules names) thread ≡ Some f → HoldsNone f
  none_held thread f is = let (name, entry) = entry_of names all_entries f thread is in holds_none name f entry

pub entries_are_in_order : EntriesAreInOrder
entries_are_in_order modules names program = ordered_entries modules names program

pub entries_are_entered : EntriesAreEntered
entries_are_entered modules names program few = entered modules names program few

pub entries_hold_none : EntriesHoldNone
entries_hold_none modules names program thread f is = none_held modules names program thread f is
