-- A program from what settling its modules gives.
use Rattle.std.proofs.Common.{◌≡◌, ℕ, ◌<◌, ◌^◌, List, [], ◌∷◌, length, map, Option, Some, refl, sym, ap, subst, ◌∙◌}
use Rattle.std.specs.Prelude.{slice_get, Result}
use Rattle.std.specs.List.{cons_option}
use Rattle.std.specs.Option.{option_map}
use Rattle.std.proofs.lemmas.List.Elements.{All-from_recursion}
use Rattle.cas_base.specs.declared.decl.Decl.{Decl}
use Rattle.cas_settle.specs.Refusal.{IsRefusedBy}
use Rattle.cas_settle.specs.Settle.{IsSettled, cells_of, first_refusal, place_of}
use Rattle.cas_settle.specs.declared.link.LinkFault.{LinkFault}
use Rattle.cas_settle.specs.declared.link.CellRow.{CellRow}
use Rattle.cas_memory.specs.declared.entity.Entity.{Entity}
use Rattle.cas_typed.specs.Formed.{IsFormed}
use Rattle.cas_typed.specs.Modules.{IsTyped}
use Rattle.cas_typed.specs.Resolved.{TypedModuleTree}
use Rattle.cas_typed.specs.declared.typed.Typed.{Typed}
use Rattle.cas_program.specs.Program.{IsProgram, units_of, item_entity, entries_of}
use Rattle.cas_whole.specs.Names.{units_in}
use Rattle.cas_whole.specs.Whole.{AreTyped, AreProgramOf, function_at, entity_at}
use Rattle.cas_whole.proofs.Units.{typed_units, typed_count}
use Rattle.std.specs.List.{AllByRecursion}

all_typed : (ts : List Typed) (ms : List TypedModuleTree) → AreTyped ts ms →
    AllByRecursion (λ m. IsTyped m.module_tree m) ms
all_typed [] [] are = tt
all_typed [] (m ∷ ms) are = absurd are
all_typed (t ∷ ts) [] are = absurd are
all_typed (t ∷ ts) (m ∷ ms) are = (are.0.typed, all_typed ts ms are.1)

all_formed : (ts : List Typed) (ms : List TypedModuleTree) → AreTyped ts ms →
    AllByRecursion (λ m. IsFormed m.module_tree) ms
all_formed [] [] are = tt
all_formed [] (m ∷ ms) are = absurd are
all_formed (t ∷ ts) [] are = absurd are
all_formed (t ∷ ts) (m ∷ ms) are = (subst IsFormed (sym are.0.module_tree) are.0.formed, all_formed ts ms are.1)

-- the entries are where the functions of the names stand
entries_so : (ms : List TypedModuleTree) (places : List (ℕ × ℕ)) (names : List (List ℕ)) →
    map (λ place. Some place) places ≡ map (place_of (units_of ms)) names → map function_at places ≡ entries_of ms names
entries_so ms [] [] is = refl
entries_so ms [] (name ∷ names) is = absurd (cc is)
entries_so ms (p ∷ places) [] is = absurd (cc is)
entries_so ms (p ∷ places) (name ∷ names) is =
    let first : Some p ≡ place_of (units_of ms) name = cc is in
    let others : map (λ place. Some place) places ≡ map (place_of (units_of ms)) names = cc is in
    λ i. cons_option (option_map function_at (first i)) (entries_so ms places names others i)

module _ (ts : List Typed) (ms : List TypedModuleTree) (are : AreTyped ts ms) (names : List (List ℕ)) where
  program_so : IsSettled (units_in ts) names → IsProgram ms names
  program_so settled = record {
    typed = All-from_recursion (λ m. IsTyped m.module_tree m) ms (all_typed ts ms are);
    formed = All-from_recursion (λ m. IsFormed m.module_tree) ms (all_formed ts ms are);
    settled = subst (λ us. IsSettled us names) (sym (typed_units ts ms are)) settled;
  }

  pub made_program : (cells : List CellRow) (places : List (ℕ × ℕ)) (items : List (List (Option Entity))) →
      length ts < 2 ^ 32 → length names < 2 ^ 32 → IsSettled (units_in ts) names → cells ≡ cells_of (units_in ts) →
      map (λ place. Some place) places ≡ map (place_of (units_in ts)) names →
      map length items ≡ map length (units_in ts) →
      ((n g : ℕ) → entity_at items n g ≡ item_entity (units_in ts) g (slice_get (units_in ts) n)) →
      AreProgramOf ts cells places items ms names
  made_program cells places items few few_names settled cells_so places_so rows entities = record {
    typed = are;
    program = program_so settled;
    few_modules = subst (λ n. n < 2 ^ 32) (typed_count ts ms are) few;
    few_entries = few_names;
    cells_are = cells_so ∙ ap cells_of (sym (typed_units ts ms are));
    entries_are =
        entries_so ms places names (places_so ∙ ap (λ us. map (place_of us) names) (sym (typed_units ts ms are)));
    rows = rows ∙ ap (map length) (sym (typed_units ts ms are));
    entities = λ n g. entities n g ∙ ap (λ us. item_entity us g (slice_get us n)) (sym (typed_units ts ms are));
  }

-- refusals

-- what the modules are refused by, as their roster is
pub refused_so : {T : Type 0} (result : Result T LinkFault) (ts : List Typed) (units : List (List Decl))
    (names : List (List ℕ)) → units ≡ units_in ts → IsRefusedBy result (first_refusal units names) →
    (ms : List TypedModuleTree) → AreTyped ts ms → IsRefusedBy result (first_refusal (units_of ms) names)
refused_so result ts units names is refused ms are = subst (λ us. IsRefusedBy result (first_refusal us names))
    (is ∙ sym (typed_units ts ms are)) refused

-- as the code has it: these are the modules, and those of the roster
pub made_so : (shown ts again : List Typed) (units : List (List Decl)) (names : List (List ℕ)) (cells : List CellRow)
    (places : List (ℕ × ℕ)) (items : List (List (Option Entity))) → shown ≡ ts → units ≡ units_in ts → again ≡ ts →
    length ts < 2 ^ 32 → length names < 2 ^ 32 → IsSettled units names → cells ≡ cells_of units →
    map (λ place. Some place) places ≡ map (place_of units) names → map length items ≡ map length (units_in again) →
    ((n g : ℕ) → entity_at items n g ≡ item_entity (units_in again) g (slice_get (units_in again) n)) →
    (ms : List TypedModuleTree) → AreTyped ts ms → AreProgramOf shown cells places items ms names
made_so shown ts again units names cells places items same units_is also few few_names settled cells_so places_so rows
    entities ms are =
    subst (λ ts. AreProgramOf ts cells places items ms names) (sym same)
    (made_program ts ms are names cells places items few few_names
    (subst (λ us. IsSettled us names) units_is settled)
    (cells_so ∙ ap cells_of units_is)
    (places_so ∙ ap (λ us. map (place_of us) names) units_is)
    (rows ∙ ap (λ ts. map length (units_in ts)) also)
    (λ n g. entities n g ∙ ap (λ ts. item_entity (units_in ts) g (slice_get (units_in ts) n)) also))
