-- Definitions in a table, looked up by their names.
use Rattle.std.proofs.Common.{◌≡◌, ◌≢◌, ℕ, Bool, true, false, cond, ◌&&◌, ◌||◌, List, [], ◌∷◌, ◌++◌, map, Option, Some, None, is_some, ap, refl, sym, ◌∙◌, arith, rules}
use Rattle.std.specs.Borrow.{Bor}
use Rattle.std.specs.List.{find, list_any}
use Rattle.std.specs.Map.{lookup}
use Rattle.std.specs.Option.{option_map}
use Rattle.std.specs.Str.{bytes_eq}
use Rattle.cas_settle.specs.declared.definitions.Definition.{Definition}
use Rattle.cas_base.specs.Decl.{definition_of, is_named}
use Rattle.cas_settle.specs.Located.{IsKeyed, Located, decls_in, located, location_of, names_in}
use Rattle.cas_settle.proofs.OptionLemmas.{option_map-cond, is_some-cond, is_some-option_map, none-is_some}

-- a look-up in the table finds the definition of that name
pub location_of-lookup : (name : List ℕ) (entries : List (Bor (List ℕ) × Definition)) → IsKeyed entries
    → option_map located (lookup (λ key. bytes_eq name key.now) entries) ≡ location_of
    (map (λ entry. located entry.1) entries) name
location_of-lookup name [] keyed = refl
location_of-lookup name (entry ∷ entries) keyed =
    option_map-cond located (bytes_eq name entry.0.now) entry.1 (lookup (λ key. bytes_eq name key.now) entries)
    ∙ (λ i. cond (bytes_eq name (keyed.0 i)) (Some (located entry.1)) (location_of-lookup name entries keyed.1 i))

-- a name is found exactly where it is among the names
pub is_some-location_of : (name : List ℕ) (found : List Located) →
    is_some (location_of found name) ≡ list_any (bytes_eq name) (names_in found)
is_some-location_of name [] = refl
is_some-location_of name (item ∷ found) =
    is_some-cond (bytes_eq name item.decl.name) item (location_of found name)
    ∙ ap (λ b. bytes_eq name item.decl.name || b) (is_some-location_of name found)

-- one more entry under its name
pub IsKeyed-push : (entries : List (Bor (List ℕ) × Definition)) (key : Bor (List ℕ)) (definition : Definition)
    → IsKeyed entries → key.now ≡ definition.decl.now.name → IsKeyed (entries ++ (key, definition) ∷ [])
IsKeyed-push [] key definition keyed same = (same, tt)
IsKeyed-push (entry ∷ entries) key definition keyed same = (keyed.0, IsKeyed-push entries key definition keyed.1 same)

-- a name that isn't among the names isn't in the table
pub lookup-fresh : (name : List ℕ) (entries : List (Bor (List ℕ) × Definition)) → IsKeyed entries
    → list_any (bytes_eq name) (names_in (map (λ entry. located entry.1) entries)) ≡ false
    → lookup (λ key. bytes_eq name key.now) entries ≡ None
lookup-fresh name entries keyed fresh =
    none-is_some (lookup (λ key. bytes_eq name key.now) entries)
    (sym (is_some-option_map located (lookup (λ key. bytes_eq name key.now) entries))
    ∙ ap is_some (location_of-lookup name entries keyed)
    ∙ is_some-location_of name (map (λ entry. located entry.1) entries)
    ∙ fresh)

-- whether the table has a name
pub lookup-contains : (name : List ℕ) (entries : List (Bor (List ℕ) × Definition)) → IsKeyed entries
    → is_some (lookup (λ key. bytes_eq name key.now) entries) ≡ list_any (bytes_eq name)
    (names_in (map (λ entry. located entry.1) entries))
lookup-contains name entries keyed =
    sym (is_some-option_map located (lookup (λ key. bytes_eq name key.now) entries))
    ∙ ap is_some (location_of-lookup name entries keyed)
    ∙ is_some-location_of name (map (λ entry. located entry.1) entries)

-- the definition of a name, without its places
pub definition_of-location : (name : List ℕ) (found : List Located) →
    option_map (λ (item : Located). item.decl) (location_of found name) ≡ definition_of (decls_in found) name
definition_of-location name [] = refl
definition_of-location name (item ∷ found) =
    option_map-cond (λ (item : Located). item.decl) (bytes_eq name item.decl.name) item (location_of found name)
    ∙ ap (cond (bytes_eq name item.decl.name) (Some item.decl)) (definition_of-location name found)

-- the definitions of a table's entries
pub map-located : (entries : List (Bor (List ℕ) × Definition)) →
    map located (map (λ entry. entry.1) entries) ≡ map (λ entry. located entry.1) entries
map-located [] = refl
map-located (entry ∷ entries) = ap (λ more. located entry.1 ∷ more) (map-located entries)
