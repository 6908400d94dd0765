-- Places of tokens by how many are left.
use Rattle.std.specs.Prelude.{ℕ, ◌+◌, List, [], ◌∷◌, length, if◌then◌else◌, nat_eq}
use Rattle.cas_base.specs.declared.place.Place.{Place}
use Rattle.cas_lex.specs.declared.token.Token.{Token}

-- the place of the token where so many are left, itself included, or else the end
abbrev pub place_left : List Token → (end : Place) → (left : ℕ) → Place
place_left [] end left = end
place_left (t ∷ ts) end left = if nat_eq left (length ts + 1) then t.place else place_left ts end left
