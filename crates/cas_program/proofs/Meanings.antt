-- What the declarations of a program stand for.
use Rattle.std.proofs.Common.{arith, ◌≡◌, ℕ, zero, suc, true, false, List, [], ◌∷◌, map, Option, Some, None, refl, ap, subst, ◌∙◌}
use Rattle.std.specs.Prelude.{slice_get, All}
use Rattle.std.specs.Option.{option_map}
use Rattle.std.proofs.lemmas.Option.{slice_get_within, get_or_from_slice_get}
use Rattle.cas_base.specs.Decl.{is_function, functions_of, definitions, definition_of}
use Rattle.cas_base.specs.declared.decl.Decl.{Decl}
use Rattle.cas_base.specs.declared.decl.Form.{Form}
use Rattle.cas_base.specs.declared.decl.Form.TheVariants.{Lock, Shared, Table, Function as AFunction}
use Rattle.cas_program.specs.Laws.{Declares}
use Rattle.cas_program.specs.Program.{IsProgram, units_of, entity_of_cell, cell_named, stands_for, declared_entity, item_entity, env_of}
use Rattle.cas_settle.specs.Settle.{all_decls, cell_of, lock_word, place_of as place_named}
use Rattle.cas_step.specs.Env.{FunctionAt, Entity, Env}
use Rattle.cas_step.specs.Well_formed.{IsAt}
use Rattle.cas_typed.specs.Bodies.{IsDefined}
use Rattle.cas_typed.specs.Formed.{IsFormed}
use Rattle.cas_typed.specs.Modules.{IsTyped, decls_of}
use Rattle.cas_typed.specs.Resolved.{TypedModuleTree}
use Rattle.cas_typed.proofs.Defined.{IsTyped-defined}
use Rattle.cas_program.proofs.Agreeing.{AreAlike, alike_functions, among_all, HasDefinition, settled_defined}
use Rattle.cas_program.proofs.Laid_out.{IsLaid, laid_out}
use Rattle.cas_program.proofs.Placed.{placed_at}

-- lists

pub all_at : {X : Type 0} (P : X → Type 0) (xs : List X) (k : ℕ) (x : X) → slice_get xs k ≡ Some x → All P xs → P x
all_at P xs k x is all = subst P (get_or_from_slice_get xs k x x is) (all k x (slice_get_within xs k x is))

pub unmapped : {X Y : Type 0} (f : X → Y) (xs : List X) (n : ℕ) (y : Y) → slice_get (map f xs) n ≡ Some y → (x : X)
    × (slice_get xs n ≡ Some x) × (f x ≡ y)
unmapped f [] n y is = absurd (cc is)
unmapped f (x ∷ xs) zero y is = let same : f x ≡ y = cc is in (x, refl, same)
unmapped f (x ∷ xs) (suc n) y is = unmapped f xs n y is

-- names

-- a global or a lock stands for the cell of its name
pub data_named : (units : List (List Decl)) (name : List ℕ) (form : Form) → is_function form ≡ false →
    stands_for units name form ≡ option_map entity_of_cell (cell_named units name)
data_named units name Lock is = refl
data_named units name (Shared ty guard) is = refl
data_named units name (Table ty) is = refl
data_named units name (AFunction ret params holds) is = absurd (cc is)

-- declarations that are alike stand for the same where they have one name
pub stands_alike : (units : List (List Decl)) (name : List ℕ) (f g : Form) → AreAlike f g →
    stands_for units name f ≡ stands_for units name g
stands_alike units name _ _ AreAlike.locks = refl
stands_alike units name _ _ (AreAlike.shared_ones t l) = refl
stands_alike units name _ _ (AreAlike.tables t) = refl
stands_alike units name _ _ (AreAlike.functions ret params holds held same) = refl

module _ (modules : List TypedModuleTree) (names : List (List ℕ)) (program : IsProgram modules names) where
  abbrev pub units : List (List Decl)
  units = units_of modules

  abbrev pub defined : List Decl
  defined = definitions (all_decls units)

  abbrev pub env : Env
  env = env_of modules

  abbrev pub word_of : List ℕ → Option ℕ
  word_of = lock_word 0 defined

  -- what stands at an item is what its declaration stands for
  pub declared_is : (n g : ℕ) (d : Decl) → Declares modules n g d → env.entity n g ≡ stands_for units d.name d.form
  declared_is n g d (decls, at, is) = ap (item_entity units g) at ∙ ap (declared_entity units) is

  -- what stands for something is declared
  pub is_declared : (n g : ℕ) (it : Entity) → env.entity n g ≡ Some it → (d : Decl) × Declares modules n g d
      × (stands_for units d.name d.form ≡ Some it)
  is_declared n g it is = by (slice_get units n) refl is
    where
      within : (decls : List Decl) → slice_get units n ≡ Some decls → (o : Option Decl) → slice_get decls g ≡ o →
          declared_entity units o ≡ Some it → (d : Decl) × Declares modules n g d
          × (stands_for units d.name d.form ≡ Some it)
      within decls at None here is = absurd (cc is)
      within decls at (Some d) here is = (d, (decls, at, here), is)

      by : (o : Option (List Decl)) → slice_get units n ≡ o → item_entity units g o ≡ Some it → (d : Decl)
          × Declares modules n g d × (stands_for units d.name d.form ≡ Some it)
      by None at is = absurd (cc is)
      by (Some decls) at is = within decls at (slice_get decls g) refl is

  pub definition_is : (n g : ℕ) (d : Decl) → Declares modules n g d → HasDefinition units d
  definition_is n g d (decls, at, is) = settled_defined units names d program.settled
      (among_all units n g decls d at is)

  -- a global or a lock stands for the cell of its definition
  pub cell_is : (d : Decl) (of : HasDefinition units d) → is_function d.form ≡ false →
      (laid : IsLaid word_of 0 defined d.name of.definition)
      × (stands_for units d.name d.form ≡ option_map entity_of_cell
      (cell_of word_of laid.word of.definition.name of.definition.form))
  cell_is d of is =
      let laid = laid_out word_of 0 defined d.name of.definition of.found
      (alike_functions of.definition.form d.form of.alike ∙ is) in
      (laid, data_named units d.name d.form is ∙ ap (option_map entity_of_cell) laid.cell)

  -- a module of the program
  pub module_typed : (n : ℕ) (unit : TypedModuleTree) → slice_get modules n ≡ Some unit → IsTyped unit.module_tree unit
  module_typed n unit is = all_at (λ m. IsTyped m.module_tree m) modules n unit is program.typed

  pub module_formed : (n : ℕ) (unit : TypedModuleTree) → slice_get modules n ≡ Some unit → IsFormed unit.module_tree
  module_formed n unit is = all_at (λ m. IsFormed m.module_tree) modules n unit is program.formed

  -- a function that is found by its name stands where its definition is
  pub record IsFound (name : List ℕ) (d : Decl) : Type 0 where
    pub f : FunctionAt
    pub place : place_named units name ≡ Some (f.unit, f.place)
    pub unit : TypedModuleTree
    pub unit_is : slice_get modules f.unit ≡ Some unit
    pub defined_there : IsDefined unit f.place d

  pub found_at : (name : List ℕ) (d : Decl) → definition_of defined name ≡ Some d → is_function d.form ≡ true →
      IsFound name d
  found_at name d found is =
      let placed = placed_at 0 units name d found is in
      let (unit, unit_is, declares) = unmapped decls_of modules placed.behind placed.decls placed.unit_is in
      record {
        f = record { unit = placed.behind; place = placed.place };
        place = placed.placed ∙ ap (λ u. Some (u, placed.place)) (omega arith);
        unit = unit;
        unit_is = unit_is;
        defined_there = IsTyped-defined unit.module_tree unit placed.place d (module_formed placed.behind unit unit_is)
            (module_typed placed.behind unit unit_is)
            (ap (λ ds. slice_get (functions_of ds) placed.place) declares ∙ placed.function_is);
      }

  -- where it is
  pub found_is_at : (name : List ℕ) (d : Decl) (found : IsFound name d) →
      IsAt modules found.f found.unit found.defined_there.it
  found_is_at name d found = record { unit_is = found.unit_is; function_is = found.defined_there.function }
