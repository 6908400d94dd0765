-- Pieces as tokens, wherever they stand.
use Rattle.std.proofs.Common.{◌≡◌, List, [], ◌∷◌, length, refl}
use Rattle.cas_base.specs.declared.place.Place.{Place}
use Rattle.cas_lex.specs.declared.token.Token.{Token}
use Rattle.cas_print.specs.Pieces.{Piece, kind_of}

-- the tokens of pieces, each at the place that belongs to the pieces behind it
abbrev pub placed : (List Piece → Place) → List Piece → List Token
placed at [] = []
placed at (p ∷ ps) = record { kind = kind_of p; place = at ps } ∷ placed at ps

pub length-placed : (at : List Piece → Place) (ps : List Piece) → length (placed at ps) ≡ length ps
length-placed at [] = refl
length-placed at (p ∷ ps) = rw (length-placed at ps) refl
