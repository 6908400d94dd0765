-- Tables of names: the rows of a text, no two of them equal.
use Rattle.std.specs.Prelude.{ℕ, ◌≡◌, ◌<◌, ◌==◌, List, length, Option, Some, None, slice_get}
use Rattle.std.specs.List.{slice_split}

-- the parts of a text, split at each space
abbrev pub rows_of : List ℕ → List (List ℕ)
rows_of text = slice_split (λ b. b == 32) text

-- the text is the row with this number
abbrev pub IsRow : List (List ℕ) → ℕ → List ℕ → Type 0
IsRow rows k text = slice_get rows k ≡ Some text

-- no text is the row of two numbers
abbrev pub IsDistinct : List (List ℕ) → Type 0
IsDistinct rows = (i j : ℕ) (text : List ℕ) → IsRow rows i text → IsRow rows j text → i ≡ j

-- n rows, no two of them equal
abbrev pub IsTable : ℕ → List (List ℕ) → Type 0
IsTable n rows = (length rows ≡ n) × IsDistinct rows

-- no row before this number is the text
abbrev pub IsNewAt : List (List ℕ) → ℕ → List ℕ → Type 0
IsNewAt rows k text = (j : ℕ) → j < k → IsRow rows j text → ⊥

-- the number of the first row that is the text, or None where no row is
abbrev pub IsFirstRow : List (List ℕ) → List ℕ → Option ℕ → Type 0
IsFirstRow rows text None = (k : ℕ) → IsRow rows k text → ⊥
IsFirstRow rows text (Some k) = IsRow rows k text × IsNewAt rows k text
