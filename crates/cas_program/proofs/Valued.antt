-- The words with which a program begins, one by one: the values of definitions, each at its words, and 1 at a lock's.
use Rattle.std.proofs.Common.{arith, ◌≡◌, ◌⊎◌, inl, inr, ℕ, zero, suc, ◌+◌, Bool, true, false, cond, List, [], ◌∷◌, ◌++◌, length, map, length-append, Option, Some, None, refl, sym, ap, subst, ◌∙◌}
use Rattle.std.specs.Prelude.{slice_get}
use Rattle.std.specs.List.{flat_map}
use Rattle.std.specs.Option.{option_map}
use Rattle.std.proofs.lemmas.List.Elements.{filter-append}
use Rattle.std.proofs.lemmas.Option.{slice_get_within}
use Rattle.cas_base.specs.Decl.{definitions, is_function, words_of_form}
use Rattle.cas_base.specs.declared.decl.Decl.{Decl}
use Rattle.cas_base.specs.declared.decl.Form.{Form}
use Rattle.cas_base.specs.declared.decl.Form.TheVariants.{Lock, Shared, Table, Function as AFunction}
use Rattle.cas_base.specs.declared.place.Place.{Place}
use Rattle.cas_settle.specs.Settle.{all_decls, cell_of}
use Rattle.cas_step.specs.Env.{Entity, function, lock}
use Rattle.cas_syntax.specs.Tree.{ItemTree, global, prototype, define}
use Rattle.cas_typed.specs.Formed.{IsFunctionForm, ItemsAreFormed}
use Rattle.cas_typed.specs.Modules.{decl_of, decls_of}
use Rattle.cas_typed.specs.Resolved.{TypedModuleTree}
use Rattle.cas_typed.proofs.Filled.{IsTyped-enough}
use Rattle.cas_program.proofs.Agreeing.{alike_functions, found_name}
use Rattle.cas_program.proofs.Laid_out.{kinds_in, kinds_length, get_front, get_behind, Begins}
use Rattle.cas_program.proofs.Locking.{no_function_form}
use Rattle.cas_program.proofs.Meanings.{is_declared, declared_is, definition_is, cell_is, module_typed, module_formed}
use Rattle.cas_program.proofs.Meanings as meant
use Rattle.cas_program.proofs.Starting.{fit_length, fit_form, fit_items, AreFilled}
use Rattle.cas_program.specs.Laws.{Declares, IsCell, HasValues, InitialValuesStand, LocksBeginFree}
use Rattle.cas_program.specs.Program.{IsProgram, units_of, entity_of_cell, stands_for, kinds_of_form, first_words, item_words, initial_words, env_of}

-- among these words, of which the first has the number `first`, those from the word `at` on begin with these values
record BeginWith (first : ℕ) (words : List ℕ) (at : ℕ) (values : List ℕ) : Type 0 where
  behind : ℕ
  from : first + behind ≡ at
  each : (k n : ℕ) → slice_get values k ≡ Some n → slice_get words (k + behind) ≡ Some n

begin_here : (first : ℕ) (values more : List ℕ) → BeginWith first (values ++ more) first values
begin_here first values more = record {
  behind = 0;
  from = omega arith;
  each = λ k n is.
      let same : k + 0 ≡ k = omega arith in
      ap (slice_get (values ++ more)) same ∙ get_front values more k (slice_get_within values k n is) ∙ is;
}

begin_later : (first later : ℕ) (front words : List ℕ) (at : ℕ) (values : List ℕ) → later ≡ first + length front →
    BeginWith later words at values → BeginWith first (front ++ words) at values
begin_later first later front words at values is begins = record {
  behind = begins.behind + length front;
  from = omega (arith, begins.from, is);
  each = λ k n value.
      let same : k + (begins.behind + length front) ≡ (k + begins.behind) + length front = omega arith in
      ap (slice_get (front ++ words)) same ∙ get_behind front words (k + begins.behind) ∙ begins.each k n value;
}

begin_further : (first : ℕ) (words more : List ℕ) (at : ℕ) (values : List ℕ) → BeginWith first words at values →
    BeginWith first (words ++ more) at values
begin_further first words more at values begins = record {
  behind = begins.behind;
  from = begins.from;
  each = λ k n value.
      let there = begins.each k n value in
      get_front words more (k + begins.behind) (slice_get_within words (k + begins.behind) n there) ∙ there;
}

-- definitions that begin at words are among the first of them, or behind these

begins_split : (first : ℕ) (xs ys : List Decl) (d : Decl) (w : ℕ) → Begins first (xs ++ ys) d w → Begins first xs d w
    ⊎ Begins (first + length (kinds_in xs)) ys d w
begins_split first [] ys d w h = let same : first ≡ first + 0 = omega arith in inr (subst (λ n. Begins n ys d w) same h)
begins_split first (x ∷ xs) ys d w (inl h) = inl (inl h)
begins_split first (x ∷ xs) ys d w (inr h) = by (begins_split (first + words_of_form x.form) xs ys d w h)
  where
    by : Begins (first + words_of_form x.form) xs d w ⊎ Begins ((first + words_of_form x.form) + length (kinds_in xs))
        ys d w → Begins first (x ∷ xs) d w ⊎ Begins (first + length (kinds_in (x ∷ xs))) ys d w
    by (inl k) = inl (inr k)
    by (inr k) =
        let same : (first + words_of_form x.form) + length (kinds_in xs) ≡ first + length (kinds_in (x ∷ xs)) =
        omega (arith, kinds_length x.form, length-append (kinds_of_form x.form) (kinds_in xs)) in
        inr (subst (λ n. Begins n ys d w) same k)

-- in a module

-- among these items one defines this, with its values, at this word
record IsAmong (first : ℕ) (items : List ItemTree) (words : List ℕ) (d : Decl) (at : ℕ) : Type 0 where
  item : ℕ
  values : List ℕ
  place : Place
  is : slice_get items item ≡ Some (global d values place)
  defines : d.defined ≡ true
  count : length (first_words d.form values) ≡ words_of_form d.form
  begins : BeginWith first words at (first_words d.form values)

among_later : (first later : ℕ) (x : ItemTree) (items : List ItemTree) (front words : List ℕ) (d : Decl) (at : ℕ) →
    later ≡ first + length front → IsAmong later items words d at →
    IsAmong first (x ∷ items) (front ++ words) d at
among_later first later x items front words d at is among = record {
  item = suc among.item;
  values = among.values;
  place = among.place;
  is = among.is;
  defines = among.defines;
  count = among.count;
  begins = begin_later first later front words at (first_words d.form among.values) is among.begins;
}

among_first : (first : ℕ) (d : Decl) (vs : List ℕ) (p : Place) (items : List ItemTree) (words : List ℕ) →
    d.defined ≡ true → length (first_words d.form vs) ≡ words_of_form d.form →
    IsAmong first (global d vs p ∷ items) (first_words d.form vs ++ words) d first
among_first first d vs p items words is count = record {
  item = 0;
  values = vs;
  place = p;
  is = refl;
  defines = is;
  count = count;
  begins = begin_here first (first_words d.form vs) words;
}

module _ (d : Decl) (at : ℕ) (is_data : is_function d.form ≡ false) where
  among_global : (first : ℕ) (e : Decl) (vs : List ℕ) (p : Place) (items : List ItemTree) (ds : List Decl)
      (words : List ℕ) (b : Bool) → e.defined ≡ b →
      (b ≡ true → length (first_words e.form vs) ≡ words_of_form e.form) →
      ((later : ℕ) → Begins later ds d at → IsAmong later items words d at) →
      Begins first (cond b (e ∷ ds) ds) d at → IsAmong first (global e vs p ∷ items)
      (cond b (first_words e.form vs) [] ++ words) d at
  among_global first e vs p items ds words true is count rest (inl h) =
      subst (λ x. IsAmong first (global e vs p ∷ items) (first_words e.form vs ++ words) x at) h.0
      (subst (IsAmong first (global e vs p ∷ items) (first_words e.form vs ++ words) e) h.1
      (among_first first e vs p items words is (count refl)))
  among_global first e vs p items ds words true is count rest (inr h) =
      among_later first (first + words_of_form e.form) (global e vs p) items (first_words e.form vs) words d at
      (omega (arith, count refl)) (rest (first + words_of_form e.form) h)
  among_global first e vs p items ds words false is count rest h =
      among_later first first (global e vs p) items [] words d at (omega arith) (rest first h)

  function_size : (form : Form) → IsFunctionForm form → (is_function form ≡ true) × (words_of_form form ≡ 0)
  function_size Lock is = absurd is
  function_size (Shared ty guard) is = absurd is
  function_size (Table ty) is = absurd is
  function_size (AFunction ret params holds) is = (refl, refl)

  among_function : (first : ℕ) (x : ItemTree) (e : Decl) (items : List ItemTree) (ds : List Decl) (words : List ℕ)
      (b : Bool) → IsFunctionForm e.form →
      ((later : ℕ) → Begins later ds d at → IsAmong later items words d at) → Begins first (cond b (e ∷ ds) ds) d at →
      IsAmong first (x ∷ items) words d at
  among_function first x e items ds words true is rest (inl h) =
      let fails : is_function d.form ≡ true = subst (λ (y : Decl). is_function y.form ≡ true) h.0
      (function_size e.form is).0 in
      absurd (cc (sym is_data ∙ fails))
  among_function first x e items ds words true is rest (inr h) =
      among_later first (first + words_of_form e.form) x items [] words d at
      (omega (arith, (function_size e.form is).1)) (rest (first + words_of_form e.form) h)
  among_function first x e items ds words false is rest h =
      among_later first first x items [] words d at (omega arith) (rest first h)

  among_items : (first : ℕ) (items : List ItemTree) → ItemsAreFormed items → AreFilled items →
      Begins first (definitions (map decl_of items)) d at →
      IsAmong first items (flat_map item_words items) d at
  among_items first [] formed filled h = absurd h
  among_items first (global e vs p ∷ rest) formed filled h =
      among_global first e vs p rest (definitions (map decl_of rest)) (flat_map item_words rest) e.defined refl
      (λ is. sym_length e.form vs (fit_length _ (first_words e.form vs)
      (fit_form e.form vs formed.0.0 (filled zero e vs p refl is))))
      (λ later. among_items later rest formed.1 (λ n. filled (suc n))) h
    where
      sym_length : (form : Form) (vs : List ℕ) → length (first_words form vs) ≡ length (kinds_of_form form) →
          length (first_words form vs) ≡ words_of_form form
      sym_length form vs same = same ∙ kinds_length form
  among_items first (prototype e hs p ∷ rest) formed filled h =
      among_function first (prototype e hs p) e rest (definitions (map decl_of rest)) (flat_map item_words rest)
      e.defined formed.0.0
      (λ later. among_items later rest formed.1 (λ n. filled (suc n))) h
  among_items first (define f ∷ rest) formed filled h =
      among_function first (define f) f.decl rest (definitions (map decl_of rest)) (flat_map item_words rest)
      f.decl.defined formed.0.0
      (λ later. among_items later rest formed.1 (λ n. filled (suc n))) h

  -- among modules

  record IsWithin (first : ℕ) (ms : List TypedModuleTree) : Type 0 where
    unit : ℕ
    tree : TypedModuleTree
    is : slice_get ms unit ≡ Some tree
    start : ℕ
    words : List ℕ
    among : IsAmong start tree.module_tree.items words d at
    begins : BeginWith first (initial_words ms) at (first_words d.form among.values)

  module_words : (m : TypedModuleTree) → ItemsAreFormed m.module_tree.items → AreFilled m.module_tree.items →
      length (flat_map item_words m.module_tree.items) ≡ length (kinds_in (definitions (decls_of m)))
  module_words m formed filled = fit_length (kinds_in (definitions (decls_of m)))
      (flat_map item_words m.module_tree.items) (fit_items m.module_tree.items formed filled)

  within_later : (first later : ℕ) (m : TypedModuleTree) (ms : List TypedModuleTree) →
      later ≡ first + length (flat_map item_words m.module_tree.items) → IsWithin later ms → IsWithin first (m ∷ ms)
  within_later first later m ms is within = record {
    unit = suc within.unit;
    tree = within.tree;
    is = within.is;
    start = within.start;
    words = within.words;
    among = within.among;
    begins = begin_later first later (flat_map item_words m.module_tree.items) (initial_words ms) at
        (first_words d.form within.among.values) is within.begins;
  }

  within_first : (first : ℕ) (m : TypedModuleTree) (ms : List TypedModuleTree) →
      IsAmong first m.module_tree.items (flat_map item_words m.module_tree.items) d at → IsWithin first (m ∷ ms)
  within_first first m ms among = record {
    unit = 0;
    tree = m;
    is = refl;
    start = first;
    words = flat_map item_words m.module_tree.items;
    among = among;
    begins = begin_further first (flat_map item_words m.module_tree.items) (initial_words ms) at
        (first_words d.form among.values) among.begins;
  }

  within_modules : (first : ℕ) (ms : List TypedModuleTree) →
      ((n : ℕ) (m : TypedModuleTree) → slice_get ms n ≡ Some m → ItemsAreFormed m.module_tree.items) →
      ((n : ℕ) (m : TypedModuleTree) → slice_get ms n ≡ Some m → AreFilled m.module_tree.items) →
      Begins first (definitions (all_decls (units_of ms))) d at → IsWithin first ms
  within_modules first [] formed filled h = absurd h
  within_modules first (m ∷ ms) formed filled h =
      by (begins_split first (definitions (decls_of m)) (definitions (all_decls (units_of ms))) d at
      (subst (λ ds. Begins first ds d at) (filter-append (λ (x : Decl). x.defined) (decls_of m)
      (all_decls (units_of ms))) h))
      (within_modules (first + length (kinds_in (definitions (decls_of m)))) ms (λ n. formed (suc n))
      (λ n. filled (suc n)))
    where
      by : Begins first (definitions (decls_of m)) d at
          ⊎ Begins (first + length (kinds_in (definitions (decls_of m)))) (definitions (all_decls (units_of ms))) d at →
          (Begins (first + length (kinds_in (definitions (decls_of m)))) (definitions (all_decls (units_of ms))) d at →
          IsWithin (first + length (kinds_in (definitions (decls_of m)))) ms) → IsWithin first (m ∷ ms)
      by (inl k) rest =
          within_first first m ms (among_items first m.module_tree.items (formed zero m refl) (filled zero m refl) k)
      by (inr k) rest = within_later first (first + length (kinds_in (definitions (decls_of m)))) m ms
          (omega (arith, module_words m (formed zero m refl) (filled zero m refl))) (rest k)

-- in a program

-- what a cell's form has in it
cell_first : (word_of : List ℕ → Option ℕ) (at : ℕ) (own : List ℕ) (form : Form) (first len : ℕ) →
    IsCell (option_map entity_of_cell (cell_of word_of at own form)) first len →
    (at ≡ first) × (words_of_form form ≡ len) × ((vs : List ℕ) → first_words form vs ≡ vs)
cell_first word_of at own Lock first len is = absurd is
cell_first word_of at own (Shared ty guard) first len is = (is.0, is.1, λ vs. refl)
cell_first word_of at own (Table ty) first len is = (is.0, is.1, λ vs. refl)
cell_first word_of at own (AFunction ret params holds) first len is = absurd is

lock_first : (word_of : List ℕ → Option ℕ) (at : ℕ) (own : List ℕ) (form : Form) (w : ℕ) →
    option_map entity_of_cell (cell_of word_of at own form) ≡ Some (lock w) →
    (at ≡ w) × ((vs : List ℕ) → first_words form vs ≡ 1 ∷ [])
lock_first word_of at own Lock w is = (cc is, λ vs. refl)
lock_first word_of at own (Shared ty guard) w is = absurd (cc is)
lock_first word_of at own (Table ty) w is = absurd (cc is)
lock_first word_of at own (AFunction ret params holds) w is = absurd (cc is)

no_function_cell : (it : Entity) (first len : ℕ) → IsCell (Some it) first len → (f : _) → function f ≡ it → ⊥
no_function_cell it first len is f same = subst (λ x. IsCell (Some x) first len) (sym same) is

module _ (modules : List TypedModuleTree) (names : List (List ℕ)) (program : IsProgram modules names) where
  within : (d : Decl) (w : ℕ) (is : is_function d.form ≡ false) → Begins 0 (meant.defined modules names program) d w →
      IsWithin d w is 0 modules
  within d w is begins =
      within_modules d w is 0 modules (module_formed modules names program)
      (λ n m at. IsTyped-enough m.module_tree m (module_typed modules names program n m at)) begins

  -- a word of it
  word_at : (d : Decl) (w : ℕ) (is : is_function d.form ≡ false) (found : IsWithin d w is 0 modules) (k n : ℕ) →
      slice_get (first_words d.form found.among.values) k ≡ Some n →
      slice_get (initial_words modules) (w + k) ≡ Some n
  word_at d w is found k n value =
      let same : w + k ≡ k + found.begins.behind = omega (arith, found.begins.from) in
      ap (slice_get (initial_words modules)) same ∙ found.begins.each k n value

  values_of : (n g first len : ℕ) (d : Decl) → Declares modules n g d → (it : Entity) →
      (env_of modules).entity n g ≡ Some it → IsCell (Some it) first len → HasValues modules d.name first len
  values_of n g first len d declares it entity cell =
      let of = definition_is modules names program n g d declares in
      let stands : stands_for (units_of modules) d.name d.form ≡ Some it =
      sym (declared_is modules names program n g d declares) ∙ entity in
      let is_data = no_function_form (units_of modules) d.name d.form it stands (no_function_cell it first len cell) in
      let (laid, same) = cell_is modules names program d of is_data in
      let (at_first, size, values_are) = cell_first (meant.word_of modules names program)
      laid.word of.definition.name of.definition.form first len
      (subst (λ x. IsCell x first len) (sym stands ∙ same) cell) in
      let is = alike_functions of.definition.form d.form of.alike ∙ is_data in
      let found = within of.definition laid.word is laid.begins in
      record {
        unit = found.unit;
        item = found.among.item;
        unit_tree = found.tree;
        decl = of.definition;
        values = found.among.values;
        place = found.among.place;
        unit_is = found.is;
        item_is = found.among.is;
        defines = found.among.defines;
        named = sym (found_name d.name (meant.defined modules names program) of.definition of.found);
        count = sym (ap length (values_are found.among.values)) ∙ found.among.count ∙ size;
        words = λ k value there.
            let here = word_at of.definition laid.word is found k value
            (ap (λ vs. slice_get vs k) (values_are found.among.values) ∙ there) in
            subst (λ w. slice_get (initial_words modules) (w + k) ≡ Some value) at_first here;
      }

  lock_free : (n l w : ℕ) → (env_of modules).entity n l ≡ Some (lock w) → slice_get (initial_words modules) w ≡ Some 1
  lock_free n l w entity =
      let (d, declares, stands) = is_declared modules names program n l (lock w) entity in
      let of = definition_is modules names program n l d declares in
      let is_data = no_function_form (units_of modules) d.name d.form (lock w) stands (λ f e. cc e) in
      let (laid, same) = cell_is modules names program d of is_data in
      let (at_lock, words_are) = lock_first (meant.word_of modules names program)
      laid.word of.definition.name of.definition.form w (sym same ∙ stands) in
      let is = alike_functions of.definition.form d.form of.alike ∙ is_data in
      let found = within of.definition laid.word is laid.begins in
      let here = word_at of.definition laid.word is found 0 1 (ap (λ vs. slice_get vs 0) (words_are found.among.values))
      in
      let word : laid.word + 0 ≡ w = omega (arith, at_lock) in
      ap (slice_get (initial_words modules)) (sym word) ∙ here

  -- an item that has cells stands for something
  values_by : (n g first len : ℕ) (d : Decl) → Declares modules n g d → (o : Option Entity) →
      (env_of modules).entity n g ≡ o → IsCell o first len → HasValues modules d.name first len
  values_by n g first len d declares None entity cell = absurd cell
  values_by n g first len d declares (Some it) entity cell = values_of n g first len d declares it entity cell

pub initial_values_stand : InitialValuesStand
initial_values_stand modules names program n g first len d declares cell =
    values_by modules names program n g first len d declares ((env_of modules).entity n g) refl cell

pub locks_begin_free : LocksBeginFree
locks_begin_free modules names program n l w entity = lock_free modules names program n l w entity
