-- The functions of a program stand where their modules define them.
use Rattle.std.proofs.Common.{arith, ◌≡◌, ℕ, suc, ◌+◌, ◌<◌, Bool, true, false, cond, List, [], ◌∷◌, length, filter, position, Option, Some, None, refl, sym, ap, subst, ◌∙◌}
use Rattle.std.specs.Prelude.{nat_lt, slice_get}
use Rattle.std.specs.List.{find, position_or_len}
use Rattle.std.specs.Option.{option_map, option_or}
use Rattle.std.proofs.lemmas.Bool.{lt-ltb, ltb-true}
use Rattle.std.proofs.lemmas.List.Elements.{filter-append}
use Rattle.std.proofs.lemmas.List.Folds.{find_at, find-append}
use Rattle.std.proofs.lemmas.Option.{slice_get_within, slice_get-get_or}
use Rattle.cas_base.specs.Decl.{is_function, is_named, definitions, functions_of, definition_of}
use Rattle.cas_base.specs.declared.decl.Decl.{Decl}
use Rattle.cas_settle.specs.Settle.{all_decls, place_from}

abbrev is_fun : Decl → Bool
is_fun d = is_function d.form

-- the place of a name in a list

position_by : (ds : List Decl) (name : List ℕ) (d : Decl) → find (is_named name) ds ≡ Some d →
    (position (is_named name) ds ≡ Some (position_or_len (is_named name) ds))
    × (slice_get ds (position_or_len (is_named name) ds) ≡ Some d)
position_by ds name d found =
    let there : slice_get ds (position_or_len (is_named name) ds) ≡ Some d = sym (find_at (is_named name) ds) ∙ found in
    let less = slice_get_within ds (position_or_len (is_named name) ds) d there in (
      ap (λ c. cond c (Some (position_or_len (is_named name) ds)) None)
          (lt-ltb (position_or_len (is_named name) ds) (length ds) less),
      there,
    )

no_element : {C : Type 0} (ds : List Decl) (name : List ℕ) → position_or_len (is_named name) ds < length ds →
    find (is_named name) ds ≡ None → C
no_element [] name less none = absurd (omega (arith, less))
no_element (d ∷ ds) name less none =
    absurd (cc (sym (slice_get-get_or (d ∷ ds) (position_or_len (is_named name) (d ∷ ds)) d less)
    ∙ sym (find_at (is_named name) (d ∷ ds)) ∙ none))

no_position_by : (ds : List Decl) (name : List ℕ) (b : Bool) →
    nat_lt (position_or_len (is_named name) ds) (length ds) ≡ b → find (is_named name) ds ≡ None →
    cond b (Some (position_or_len (is_named name) ds)) None ≡ None
no_position_by ds name false is none = refl
no_position_by ds name true is none = no_element ds name (ltb-true (position_or_len (is_named name) ds) (length ds) is)
    none

-- among the functions

function_by : (name : List ℕ) (y d : Decl) (ys : List Decl) (named fun : Bool) → is_named name y ≡ named →
    is_fun y ≡ fun → is_fun d ≡ true → cond named (Some y) (find (is_named name) ys) ≡ Some d →
    (find (is_named name) ys ≡ Some d → find (is_named name) (filter is_fun ys) ≡ Some d) →
    find (is_named name) (cond fun (y ∷ filter is_fun ys) (filter is_fun ys)) ≡ Some d
function_by name y d ys true true n f passes found rest =
    ap (λ b. cond b (Some y) (find (is_named name) (filter is_fun ys))) n ∙ found
function_by name y d ys true false n f passes found rest =
    let same : y ≡ d = cc found in
    let fails : is_fun d ≡ false = subst (λ x. is_fun x ≡ false) same f in
    absurd (cc (sym passes ∙ fails))
function_by name y d ys false true n f passes found rest =
    ap (λ b. cond b (Some y) (find (is_named name) (filter is_fun ys))) n ∙ rest found
function_by name y d ys false false n f passes found rest = rest found

function_found : (name : List ℕ) (ds : List Decl) (d : Decl) → find (is_named name) ds ≡ Some d → is_fun d ≡ true →
    find (is_named name) (filter is_fun ds) ≡ Some d
function_found name [] d found passes = absurd (cc found)
function_found name (y ∷ ys) d found passes = function_by name y d ys (is_named name y)
    (is_fun y) refl refl passes found (λ f. function_found name ys d f passes)

no_function_by : (name : List ℕ) (y : Decl) (ys : List Decl) (named fun : Bool) → is_named name y ≡ named →
    cond named (Some y) (find (is_named name) ys) ≡ None →
    (find (is_named name) ys ≡ None → find (is_named name) (filter is_fun ys) ≡ None) →
    find (is_named name) (cond fun (y ∷ filter is_fun ys) (filter is_fun ys)) ≡ None
no_function_by name y ys true fun n none rest = absurd (cc none)
no_function_by name y ys false true n none rest = ap (λ b. cond b (Some y) (find (is_named name) (filter is_fun ys))) n
    ∙ rest none
no_function_by name y ys false false n none rest = rest none

no_function_found : (name : List ℕ) (ds : List Decl) → find (is_named name) ds ≡ None →
    find (is_named name) (filter is_fun ds) ≡ None
no_function_found name [] none = refl
no_function_found name (y ∷ ys) none = no_function_by name y ys (is_named name y) (is_fun y) refl none
    (no_function_found name ys)

-- the function of a name stands in a unit
pub record IsPlaced (unit : ℕ) (units : List (List Decl)) (name : List ℕ) (d : Decl) : Type 0 where
  pub behind : ℕ
  pub place : ℕ
  pub decls : List Decl
  pub placed : place_from unit units name ≡ Some (unit + behind, place)
  pub unit_is : slice_get units behind ≡ Some decls
  pub function_is : slice_get (functions_of decls) place ≡ Some d

placed_here : (unit : ℕ) (decls : List Decl) (units : List (List Decl)) (name : List ℕ) (d : Decl) →
    definition_of (definitions decls) name ≡ Some d → is_fun d ≡ true → IsPlaced unit (decls ∷ units) name d
placed_here unit decls units name d found fun =
    let at = position_by (functions_of decls) name d (function_found name (definitions decls) d found fun) in record {
      behind = 0;
      place = position_or_len (is_named name) (functions_of decls);
      decls = decls;
      placed = ap (λ o. option_or (option_map (λ place. (unit, place)) o) (place_from (unit + 1) units name)) at.0
          ∙ ap (λ u. Some (u, position_or_len (is_named name) (functions_of decls))) (omega arith);
      unit_is = refl;
      function_is = at.1;
    }

placed_later : (unit : ℕ) (decls : List Decl) (units : List (List Decl)) (name : List ℕ) (d : Decl) →
    definition_of (definitions decls) name ≡ None → IsPlaced (unit + 1) units name d →
    IsPlaced unit (decls ∷ units) name d
placed_later unit decls units name d none later = record {
  behind = suc later.behind;
  place = later.place;
  decls = later.decls;
  placed =
      ap (λ o. option_or (option_map (λ place. (unit, place)) o) (place_from (unit + 1) units name))
      (no_position_by (functions_of decls) name (nat_lt (position_or_len (is_named name) (functions_of decls))
      (length (functions_of decls))) refl (no_function_found name (definitions decls) none))
      ∙ later.placed ∙ ap (λ u. Some (u, later.place)) (omega arith);
  unit_is = later.unit_is;
  function_is = later.function_is;
}

placed_by : (unit : ℕ) (decls : List Decl) (units : List (List Decl)) (name : List ℕ) (d : Decl) (o : Option Decl) →
    definition_of (definitions decls) name ≡ o → option_or o (definition_of (definitions (all_decls units)) name)
    ≡ Some d → is_fun d ≡ true →
    (definition_of (definitions (all_decls units)) name ≡ Some d → IsPlaced (unit + 1) units name d) →
    IsPlaced unit (decls ∷ units) name d
placed_by unit decls units name d None is found fun rest = placed_later unit decls units name d is (rest found)
placed_by unit decls units name d (Some y) is found fun rest = placed_here unit decls units name d (is ∙ found) fun

pub placed_at : (unit : ℕ) (units : List (List Decl)) (name : List ℕ) (d : Decl) →
    definition_of (definitions (all_decls units)) name ≡ Some d → is_fun d ≡ true → IsPlaced unit units name d
placed_at unit [] name d found fun = absurd (cc found)
placed_at unit (decls ∷ units) name d found fun =
    placed_by unit decls units name d (definition_of (definitions decls) name) refl
    (sym (find-append (is_named name) (definitions decls) (definitions (all_decls units)))
    ∙ sym (ap (find (is_named name)) (filter-append (λ (d : Decl). d.defined) decls (all_decls units))) ∙ found) fun
    (λ f. placed_at (unit + 1) units name d f fun)
