-- The place of a function: its unit, and how many functions that unit defines before it.
use Rattle.std.proofs.Common.{◌≡◌, ℕ, ◌+◌, ◌-◌, ◌^◌, min, Bool, true, false, cond, List, [], ◌∷◌, ◌++◌, length, map, position, Option, Some, None, ap, refl, sym, ◌∙◌, subst, arith}
use Rattle.std.specs.List.{find, position_from}
use Rattle.std.specs.Option.{option_map, option_or}
use Rattle.std.specs.Str.{bytes_eq}
use Rattle.std.proofs.lemmas.Iterator.Adapters.{position_from-zero}
use Rattle.std.proofs.lemmas.List.Folds.{find-append}
use Rattle.cas_base.specs.declared.decl.Form.{Form}
use Rattle.cas_base.specs.declared.decl.Form.TheVariants.{Lock, Shared, Table, Function}
use Rattle.cas_base.specs.declared.decl.Decl.{Decl}
use Rattle.cas_settle.specs.declared.link.LinkFault.{LinkFault}
use Rattle.cas_settle.specs.declared.link.LinkFault.TheVariants.{Entry, NotDefined}
use Rattle.cas_base.specs.Decl.{definition_of, definitions, functions_of, is_entry, is_function, is_named, words_of_form}
use Rattle.cas_settle.specs.Settle.{entry_fault, first_fault, place_from, place_of, words_of}
use Rattle.cas_settle.specs.Located.{Located, decls_in, located_from, located_in, location_of, place_in}
use Rattle.cas_settle.proofs.FindLemmas.{definition_of-location}
use Rattle.cas_settle.proofs.OptionLemmas.{both-none, cond-none, pass-none}

-- a name that no definition has is no function's
position-none : (unit place word : ℕ) (decls : List Decl) (name : List ℕ)
    → location_of (located_in unit place word decls) name ≡ None →
    position_from (is_named name) place (functions_of decls) ≡ None
position-none unit place word [] name none = refl
position-none unit place word (decl ∷ decls) name none =
    by decl.name decl.form decl.defined none
    (λ next w. position-none unit next w decls name)
  where
    among : (n : List ℕ) (form : Form) (function : Bool) → bytes_eq name n ≡ false
        → position_from (is_named name) (cond function (place + 1) place) (functions_of decls) ≡ None
        → position_from (is_named name) place
        (cond function (record { name = n; form = form; defined = true } ∷ functions_of decls) (functions_of decls))
        ≡ None
    among n form true other rest =
        ap (λ same. cond same (Some place) (position_from (is_named name) (place + 1) (functions_of decls))) other
        ∙ rest
    among n form false other rest = rest

    by : (n : List ℕ) (form : Form) (b : Bool)
        → location_of (located_in unit place word (record { name = n; form = form; defined = b } ∷ decls)) name ≡ None
        → ((next w : ℕ) → location_of (located_in unit next w decls) name ≡ None →
        position_from (is_named name) next (functions_of decls) ≡ None)
        → position_from (is_named name) place (functions_of (record { name = n; form = form; defined = b } ∷ decls))
        ≡ None
    by n form false none rest = rest place word none
    by n form true none rest =
        let next = cond (is_function form) (place + 1) place in
        let apart =
        cond-none (bytes_eq name n)
        (record {
          decl = record { name = n; form = form; defined = true };
          unit = unit;
          place = place;
          word =
              min word (2 ^ 32 - 1);
        })
        (location_of (located_in unit next (word + words_of_form form) decls) name) none in
        among n form (is_function form) apart.0 (rest next (word + words_of_form form) apart.1)

-- the function of a name is at its place
position-some : (unit place word : ℕ) (decls : List Decl) (name : List ℕ) (item : Located)
    → location_of (located_in unit place word decls) name ≡ Some item → is_function item.decl.form ≡ true
    → (item.unit ≡ unit) × (position_from (is_named name) place (functions_of decls) ≡ Some item.place)
position-some unit place word [] name item some function = cc
position-some unit place word (decl ∷ decls) name item some function =
    by decl.name decl.form decl.defined some
    (λ next w at. position-some unit next w decls name item at function)
  where
    among : (n : List ℕ) (form : Form) (isf same : Bool) → is_function form ≡ isf → bytes_eq name n ≡ same
        → cond same
        (Some (record {
          decl = record { name = n; form = form; defined = true };
          unit = unit;
          place = place;
          word =
              min word (2 ^ 32 - 1);
        }))
        (location_of (located_in unit (cond isf (place + 1) place) (word + words_of_form form) decls) name) ≡ Some item
        → (location_of (located_in unit (cond isf (place + 1) place) (word + words_of_form form) decls) name ≡ Some item
        → (item.unit ≡ unit)
        × (position_from (is_named name) (cond isf (place + 1) place) (functions_of decls) ≡ Some item.place))
        → (item.unit ≡ unit)
        × (position_from (is_named name) place
        (cond isf (record { name = n; form = form; defined = true } ∷ functions_of decls) (functions_of decls))
        ≡ Some item.place)
    among n form true true f e at rest =
        let is : ◌≡◌ {A = Located}
        (record {
          decl = record { name = n; form = form; defined = true };
          unit = unit;
          place = place;
          word =
              min word (2 ^ 32 - 1);
        }) item = cc in (
          sym (ap (λ (item : Located). item.unit) is),
          ap (λ same. cond same (Some place) (position_from (is_named name) (place + 1) (functions_of decls))) e
              ∙ ap (λ (item : Located). Some item.place) is,
        )
    among n form false true f e at rest =
        let is : ◌≡◌ {A = Located}
        (record {
          decl = record { name = n; form = form; defined = true };
          unit = unit;
          place = place;
          word =
              min word (2 ^ 32 - 1);
        }) item = cc in
        let no : is_function item.decl.form ≡ false = ap (λ (item : Located). is_function item.decl.form) (sym is)
        ∙ f in
        cc
    among n form true false f e at rest =
        let later = rest at in (
          later.0,
          ap (λ same. cond same (Some place) (position_from (is_named name) (place + 1) (functions_of decls))) e
              ∙ later.1,
        )
    among n form false false f e at rest = rest at

    by : (n : List ℕ) (form : Form) (b : Bool)
        → location_of (located_in unit place word (record { name = n; form = form; defined = b } ∷ decls))
        name ≡ Some item
        → ((next w : ℕ) → location_of (located_in unit next w decls) name ≡ Some item → (item.unit ≡ unit)
        × (position_from (is_named name) next (functions_of decls) ≡ Some item.place))
        → (item.unit ≡ unit)
        × (position_from (is_named name) place
        (functions_of (record { name = n; form = form; defined = b } ∷ decls)) ≡ Some item.place)
    by n form false at rest = rest place word at
    by n form true at rest =
        among n form (is_function form) (bytes_eq name n) refl refl at
        (rest (cond (is_function form) (place + 1) place) (word + words_of_form form))

-- the function of a name has its unit and its place
pub place_from-located : (unit word : ℕ) (units : List (List Decl)) (name : List ℕ) (item : Located)
    → location_of (located_from unit word units) name ≡ Some item → is_function item.decl.form ≡ true →
    place_from unit units name ≡ Some (item.unit, item.place)
place_from-located unit word [] name item some function = cc
place_from-located unit word (decls ∷ units) name item some function =
    by (location_of (located_in unit 0 word decls) name) refl
    (sym (find-append (λ (item : Located). is_named name item.decl) (located_in unit 0 word decls)
    (located_from (unit + 1) (word + words_of (definitions decls)) units)) ∙ some)
    (λ at. place_from-located (unit + 1) (word + words_of (definitions decls)) units name item at function)
  where
    here : position (is_named name) (functions_of decls) ≡ position_from (is_named name) 0 (functions_of decls)
    here = position_from-zero (is_named name) (functions_of decls)

    by : (o : Option Located) → location_of (located_in unit 0 word decls) name ≡ o
        → option_or o (location_of (located_from (unit + 1) (word + words_of (definitions decls)) units) name)
        ≡ Some item
        → (location_of (located_from (unit + 1) (word + words_of (definitions decls)) units) name ≡ Some item →
        place_from (unit + 1) units name ≡ Some (item.unit, item.place))
        → place_from unit (decls ∷ units) name ≡ Some (item.unit, item.place)
    by None e at rest =
        ap (λ o. option_or (option_map (λ place. (unit, place)) o) (place_from (unit + 1) units name))
        (here ∙ position-none unit 0 word decls name e)
        ∙ rest at
    by (Some found) e at rest =
        let is : found ≡ item = cc in
        let there = position-some unit 0 word decls name item (e ∙ ap Some is) function in
        ap (λ o. option_or (option_map (λ place. (unit, place)) o) (place_from (unit + 1) units name)) (here ∙ there.1)
        ∙ ap (λ unit. Some (unit, item.place)) (sym there.0)

-- an entry is a function
is_function-entry : (form : Form) → is_entry form ≡ true → is_function form ≡ true
is_function-entry Lock e = e
is_function-entry (Shared ty lock) e = e
is_function-entry (Table ty) e = e
is_function-entry (Function ret params holds) e = refl

-- an entry without a fault has its unit and its place
pub place_of-entry : (units : List (List Decl)) (name : List ℕ)
    → entry_fault name (definition_of (decls_in (located_from 0 0 units)) name) ≡ None →
    place_in (located_from 0 0 units) name ≡ place_of units name
place_of-entry units name none =
    by (location_of (located_from 0 0 units) name) refl
    (ap (entry_fault name) (definition_of-location name (located_from 0 0 units)) ∙ none)
  where
    by : (o : Option Located) → location_of (located_from 0 0 units) name ≡ o
        → entry_fault name (option_map (λ (item : Located). item.decl) (location_of (located_from 0 0 units) name))
        ≡ None
        → place_in (located_from 0 0 units) name ≡ place_of units name
    by None e none =
        let absent : Some (NotDefined name) ≡ None = ap
        (λ o. entry_fault name (option_map (λ (item : Located). item.decl) o)) (sym e) ∙ none in
        cc
    by (Some item) e none =
        let entry = pass-none (is_entry item.decl.form) (Entry name item.decl)
        (ap (λ o. entry_fault name (option_map (λ (item : Located). item.decl) o)) (sym e) ∙ none) in
        ap (option_map (λ (item : Located). (item.unit, item.place))) e
        ∙ sym (place_from-located 0 0 units name item e (is_function-entry item.decl.form entry))

-- the places of entries without a fault
pub places_of-entries : (units : List (List Decl)) (names : List (List ℕ))
    → first_fault (λ name. entry_fault name (definition_of (decls_in (located_from 0 0 units)) name)) names ≡ None
    → map (place_in (located_from 0 0 units)) names ≡ map (place_of units) names
places_of-entries units [] none = refl
places_of-entries units (name ∷ names) none =
    let apart = both-none (entry_fault name (definition_of (decls_in (located_from 0 0 units)) name))
    (first_fault (λ name. entry_fault name (definition_of (decls_in (located_from 0 0 units)) name)) names) none in
    λ i. place_of-entry units name apart.0 i ∷ places_of-entries units names apart.1 i
