-- A page: what is written of a canonical text, and the tokens that are still to come.
use Rattle.std.specs.Prelude.{ℕ, List, ◌++◌}
use Rattle.cas_print.specs.Pieces.{Piece, text}

-- the whole text, where these tokens follow what is written
unfoldable pub followed_by : (written : List ℕ) → List Piece → List ℕ
followed_by written rest = written ++ text rest
