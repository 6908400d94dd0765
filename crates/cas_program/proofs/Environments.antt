-- The environment of a program suits its modules.
use Rattle.std.proofs.Common.{arith, ◌≡◌, ℕ, zero, suc, ◌+◌, ◌<◌, ◌≤◌, Bool, true, false, List, map, replicate, Option, Some, None, refl, sym, ap, subst, ◌∙◌}
use Rattle.std.specs.Prelude.{slice_get, slice_index_or}
use Rattle.std.specs.Option.{option_map}
use Rattle.std.proofs.lemmas.Option.{slice_get-map}
use Rattle.cas_base.specs.Decl.{is_function, words_of_form}
use Rattle.cas_base.specs.Ty.{words_of_ty}
use Rattle.cas_base.specs.declared.decl.Decl.{Decl}
use Rattle.cas_base.specs.declared.decl.Form.{Form}
use Rattle.cas_base.specs.declared.decl.Form.TheVariants.{Lock, Shared, Table, Function as AFunction}
use Rattle.cas_base.specs.declared.kind.Kind.{Kind}
use Rattle.cas_syntax.specs.Tree.{FunTree, define}
use Rattle.cas_typed.specs.Counts.{parameter_types}
use Rattle.cas_typed.specs.Literals.{BodyHasWords}
use Rattle.cas_typed.specs.Modules.{return_type, decls_of}
use Rattle.cas_typed.specs.Resolved.{TypedFunTree, TypedModuleTree}
use Rattle.cas_typed.proofs.Bodied.{IsTyped-bodies}
use Rattle.cas_typed.proofs.Kept_words.{IsTyped-words}
use Rattle.cas_typed.proofs.Sorted.{IsTyped-sorted}
use Rattle.cas_settle.specs.Settle.{cell_of, place_of as place_named}
use Rattle.cas_step.specs.Env.{FunctionAt, Entity, function, shared, table, lock}
use Rattle.cas_step.specs.Well_formed.{IsAt, IsFunctionOf, HasSignature, kind_of, StandsFor, HasWord, IsWellFormed}
use Rattle.cas_program.specs.Laws.{Declares, EnvironmentsAreWellFormed}
use Rattle.cas_program.specs.Program.{IsProgram, units_of, body_item, function_with, function_of, function_in, entity_of_cell, function_entity, kinds_of_form, stands_for, env_of}
use Rattle.cas_program.proofs.Agreeing.{AreAlike, alike_functions, HasDefinition}
use Rattle.cas_program.proofs.Laid_out.{Begins, begin_apart, kinds_at}
use Rattle.cas_program.proofs.Meanings.{all_at, declared_is, is_declared, definition_is, cell_is, module_typed, module_formed, IsFound, found_at, found_is_at}
use Rattle.cas_program.proofs.Meanings as meant

repeated_get : (n i : ℕ) (k : Option Kind) → i < n → slice_get (replicate n k) i ≡ Some k
repeated_get zero i k less = absurd (omega (arith, less))
repeated_get (suc n) zero k less = refl
repeated_get (suc n) (suc i) k less = repeated_get n i k (omega (arith, less))

-- the words of an entity of a cell are the cell's
in_cell : (word_of : List ℕ → Option ℕ) (own : List ℕ) (form : Form) (at w : ℕ) (it : Entity) →
    option_map entity_of_cell (cell_of word_of at own form) ≡ Some it → HasWord it w → (at ≤ w)
    × (w < at + words_of_form form)
in_cell word_of own Lock at w it is has =
    let same : lock at ≡ it = cc is in
    let here : at ≡ w = subst (λ x. HasWord x w) (sym same) has in (omega (arith, here), omega (arith, here))
in_cell word_of own (Shared t l) at w it is has = let same : shared at (words_of_ty t) (word_of l) ≡ it =
    cc is in subst (λ x. HasWord x w) (sym same) has
in_cell word_of own (Table t) at w it is has = let same : table at (words_of_ty t) ≡ it =
    cc is in subst (λ x. HasWord x w) (sym same) has
in_cell word_of own (AFunction ret params holds) at w it is has = absurd (cc is)

no_word : (o : Option (ℕ × ℕ)) (it : Entity) (w : ℕ) → option_map function_entity o ≡ Some it → HasWord it w → ⊥
no_word None it w is has = absurd (cc is)
no_word (Some at) it w is has = let same : function (record { unit = at.0; place = at.1 }) ≡ it =
    cc is in subst (λ x. HasWord x w) (sym same) has

-- what has words is no function
data_form : (units : List (List Decl)) (name : List ℕ) (form : Form) (it : Entity) (w : ℕ) →
    stands_for units name form ≡ Some it → HasWord it w → is_function form ≡ false
data_form units name Lock it w is has = refl
data_form units name (Shared t l) it w is has = refl
data_form units name (Table t) it w is has = refl
data_form units name (AFunction ret params holds) it w is has = absurd (no_word (place_named units name) it w is has)

module _ (modules : List TypedModuleTree) (names : List (List ℕ)) (program : IsProgram modules names) where
  -- functions

  function_value : (f : FunctionAt) (unit : TypedModuleTree) (it : TypedFunTree) → IsAt modules f unit it →
      (tree : FunTree) → slice_get unit.module_tree.items it.item ≡ Some (define tree) →
      (meant.env modules names program).function f ≡ function_with it (Some tree)
  function_value f unit it at_place tree item =
      ap (function_in f.place) at_place.unit_is ∙ ap (function_of unit.module_tree.items) at_place.function_is
      ∙ ap (λ o. function_with it (body_item o)) item

  function_is : (f : FunctionAt) (unit : TypedModuleTree) (it : TypedFunTree) → IsAt modules f unit it →
      IsFunctionOf unit it ((env_of modules).function f)
  function_is f unit it at_place =
      let typed = module_typed modules names program f.unit unit at_place.unit_is in
      let (tree, _, of) = (IsTyped-bodies unit.module_tree unit typed).each f.place it at_place.function_is in
      subst (IsFunctionOf unit it) (sym (function_value f unit it at_place tree of.item))
      (record {
        tree = tree;
        item = of.item;
        ret = refl;
        locals = refl;
        body = refl;
        closing = refl;
        literals = all_at (λ g. BodyHasWords g.body) unit.functions f.place it at_place.function_is
            (IsTyped-words unit.module_tree unit (module_formed modules names program f.unit unit at_place.unit_is)
            typed);
      })

  -- the function of a definition has its signature
  pub found_signature : (name : List ℕ) (d : Decl) (found : IsFound modules names program name d) →
      HasSignature ((env_of modules).function found.f) (return_type d.form) (parameter_types d.form)
  found_signature name d found =
      let there = found.defined_there in
      subst (λ g. HasSignature g (return_type d.form) (parameter_types d.form))
      (sym (function_value found.f found.unit there.it (found_is_at modules names program name d found)
      there.tree there.is_of.item))
      (record { returns_so = ap (λ (x : Decl). return_type x.form) there.decl; takes = there.parameters })

  -- what declarations stand for

  data_stands : (own : List ℕ) (f g : Form) (w : ℕ) → AreAlike f g → is_function g ≡ false →
      ((i : ℕ) → i < words_of_form f → slice_get (env_of modules).kinds (w + i) ≡ slice_get (kinds_of_form f) i) →
      StandsFor modules (env_of modules) g
      (option_map entity_of_cell (cell_of (meant.word_of modules names program) w own f))
  data_stands own _ _ w AreAlike.locks is kinds = let e : w ≡ w + 0 =
      omega arith in ap (slice_get (env_of modules).kinds) e ∙ kinds 0 (omega arith)
  data_stands own _ _ w (AreAlike.shared_ones t l) is kinds =
      (refl, λ i less. kinds i less ∙ repeated_get (words_of_ty t) i (kind_of t) less)
  data_stands own _ _ w (AreAlike.tables t) is kinds =
      (refl, λ i less. kinds i less ∙ repeated_get (words_of_ty t) i (kind_of t) less)
  data_stands own _ _ w (AreAlike.functions ret params holds held same) is kinds = absurd (cc is)

  cell_stands : (d : Decl) → HasDefinition (units_of modules) d → is_function d.form ≡ false →
      StandsFor modules (env_of modules) d.form (stands_for (units_of modules) d.name d.form)
  cell_stands d of is =
      let (laid, same) = cell_is modules names program d of is in
      subst (StandsFor modules (env_of modules) d.form) (sym same)
      (data_stands of.definition.name of.definition.form d.form laid.word of.alike is
      (λ i less. kinds_at (meant.defined modules names program) of.definition laid.word i laid.begins less))

  function_stands : (name : List ℕ) (definition : Decl) (f g : Form) → definition.form ≡ f → AreAlike f g →
      is_function g ≡ true → IsFound modules names program name definition →
      StandsFor modules (env_of modules) g (stands_for (units_of modules) name g)
  function_stands name definition _ _ same AreAlike.locks is found = absurd (cc is)
  function_stands name definition _ _ same (AreAlike.shared_ones t l) is found = absurd (cc is)
  function_stands name definition _ _ same (AreAlike.tables t) is found = absurd (cc is)
  function_stands name definition _ _ same (AreAlike.functions ret params holds held names_same) is found =
      subst (λ o. StandsFor modules (env_of modules) (AFunction ret params held) (option_map function_entity o))
      (sym found.place) (
        found.unit,
        found.defined_there.it,
        found_is_at modules names program name definition found,
        subst (λ form. HasSignature ((env_of modules).function found.f) (return_type form) (parameter_types form)) same
            (found_signature name definition found),
      )

  declared_stands : (d : Decl) → HasDefinition (units_of modules) d →
      StandsFor modules (env_of modules) d.form (stands_for (units_of modules) d.name d.form)
  declared_stands d of = by (is_function d.form) refl
    where
      by : (b : Bool) → is_function d.form ≡ b → StandsFor modules (env_of modules) d.form
          (stands_for (units_of modules) d.name d.form)
      by false is = cell_stands d of is
      by true is = function_stands d.name of.definition of.definition.form d.form refl of.alike is
          (found_at modules names program d.name of.definition of.found
          (alike_functions of.definition.form d.form of.alike ∙ is))

  entity_stands : (n g : ℕ) (unit : TypedModuleTree) (d : Decl) → slice_get modules n ≡ Some unit →
      slice_get (decls_of unit) g ≡ Some d → StandsFor modules (env_of modules) d.form ((env_of modules).entity n g)
  entity_stands n g unit d unit_is is =
      let declares : Declares modules n g d = (
        decls_of unit,
        slice_get-map decls_of modules n
            ∙ ap (option_map decls_of) unit_is,
        is,
      ) in
      subst (StandsFor modules (env_of modules) d.form) (sym (declared_is modules names program n g d declares))
      (declared_stands d (definition_is modules names program n g d declares))

  -- words

  -- an entity with a word is that of the definition whose word it is
  pub record HasOwner (w : ℕ) (it : Entity) : Type 0 where
    pub definition : Decl
    pub first : ℕ
    pub begins : Begins 0 (meant.defined modules names program) definition first
    pub within : (first ≤ w) × (w < first + words_of_form definition.form)
    pub is : option_map entity_of_cell
        (cell_of (meant.word_of modules names program) first definition.name definition.form) ≡ Some it

  pub owner_is : (n g w : ℕ) (it : Entity) → (env_of modules).entity n g ≡ Some it → HasWord it w → HasOwner w it
  owner_is n g w it entity has =
      let (d, declares, stands) = is_declared modules names program n g it entity in
      let of = definition_is modules names program n g d declares in
      let (laid, same) = cell_is modules names program d of (data_form (units_of modules) d.name d.form it w stands has)
      in
      let is = sym same ∙ stands in
      record {
        definition = of.definition;
        first = laid.word;
        begins = laid.begins;
        within = in_cell (meant.word_of modules names program) of.definition.name of.definition.form laid.word w it is
            has;
        is = is;
      }

  pub words_apart : (n g m h w : ℕ) (it other : Entity) → (env_of modules).entity n g ≡ Some it →
      (env_of modules).entity m h ≡ Some other → HasWord it w → HasWord other w → it ≡ other
  words_apart n g m h w it other is also has holds =
      let one = owner_is n g w it is has in
      let two = owner_is m h w other also holds in
      let same = begin_apart 0 (meant.defined modules names program) one.definition two.definition one.first two.first w
      one.begins two.begins one.within.0 one.within.1 two.within.0 two.within.1 in
      let both : Some it ≡ Some other =
      sym one.is
      ∙ (λ i. option_map entity_of_cell (cell_of (meant.word_of modules names program) (same.1 i) (same.0 i).name
      (same.0 i).form)) ∙ two.is in cc both

  pub program_is_well_formed : IsWellFormed modules (env_of modules)
  program_is_well_formed = record {
    sorted = λ k d less. IsTyped-sorted (slice_index_or modules k d).module_tree (slice_index_or modules k d)
        (program.typed k d less);
    functions = function_is;
    entities = entity_stands;
    apart = words_apart;
  }

pub environments_are_well_formed : EnvironmentsAreWellFormed
environments_are_well_formed modules names program = program_is_well_formed modules names program
