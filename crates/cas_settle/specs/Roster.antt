-- A roster: a list of units, each a list of declarations.
use Rattle.std.specs.Prelude.{List, [], ◌∷◌, ◌++◌}

-- the units, with one more item in the last
abbrev pub add_to_last : {X : Type 0} → List (List X) → X → List (List X)
add_to_last [] x = []
add_to_last (unit ∷ []) x = (unit ++ x ∷ []) ∷ []
add_to_last (unit ∷ next ∷ units) x = unit ∷ add_to_last (next ∷ units) x
