-- The lines of a text: its parts between line feeds.
use Rattle.std.specs.Prelude.{ℕ, ◌==◌, Bool, not, if◌then◌else◌, List, [], ◌∷◌}

-- a byte that ends no line
abbrev pub is_inner : ℕ → Bool
is_inner b = not (b == 10)

-- a byte at the front of the first line
unfoldable pub into_line : ℕ → List (List ℕ) → List (List ℕ)
into_line b [] = (b ∷ []) ∷ []
into_line b (line ∷ lines) = (b ∷ line) ∷ lines

-- the lines of a text; what follows its last line feed is its last line, which may be empty
unfoldable pub lines : List ℕ → List (List ℕ)
lines [] = [] ∷ []
lines (b ∷ bs) = if is_inner b then into_line b (lines bs) else [] ∷ lines bs
