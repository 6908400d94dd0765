-- Items by their parts.
use Rattle.std.proofs.Common.{◌≡◌, List, [], ◌∷◌, ℕ, refl}
use Rattle.cas_base.specs.declared.place.Place.{Place}
use Rattle.cas_type.specs.Parts.{first_place, later_places}
use Rattle.cas_typed.specs.Modules.{placed}

-- the first of several names at its place, and then the others
pub placed_step : (last : Place) (name : List ℕ) (names : List (List ℕ)) (ps : List Place)
    → placed last (name ∷ names) ps ≡ record { name = name; place = first_place last ps } ∷ placed last names
    (later_places ps)
placed_step last name names [] = refl
placed_step last name names (p ∷ ps) = refl
