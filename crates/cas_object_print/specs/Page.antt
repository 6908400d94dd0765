-- A page: what is written of a text, and what is still to come.
use Rattle.std.specs.Prelude.{ℕ, ℤ, List, ◌++◌}
use Rattle.std.specs.Fmt.{signed_decimal}

-- the whole text, where this follows what is written
unfoldable pub followed_by : (written : List ℕ) → List ℕ → List ℕ
followed_by written rest = written ++ rest

-- an integer in decimal, before what is still to come
unfoldable pub integer : ℤ → List ℕ → List ℕ
integer z rest = signed_decimal z ++ rest
