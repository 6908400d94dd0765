-- Rows of keys and numbers, and how they are looked up.
use Rattle.std.specs.Prelude.{◌≡◌, ℕ, ◌==◌, Bool, List, [], ◌∷◌, Option, Some, None, if◌then◌else◌}
use Rattle.std.specs.Str.{bytes_eq}

-- the number in the first row with this key
abbrev pub found_by : {K : Type 0} → (K → K → Bool) → List (K × ℕ) → K → Option ℕ
found_by eq [] key = None
found_by eq (row ∷ rows) key = if eq key row.0 then Some row.1 else found_by eq rows key

-- of a name
abbrev pub found : List (List ℕ × ℕ) → List ℕ → Option ℕ
found rows name = found_by bytes_eq rows name

-- of a number
abbrev pub found_number : List (ℕ × ℕ) → ℕ → Option ℕ
found_number rows key = found_by (λ a b. a == b) rows key

-- or 0
abbrev pub or_zero : Option ℕ → ℕ
or_zero None = 0
or_zero (Some n) = n

-- the rows find the same
abbrev pub FindSame : List (List ℕ × ℕ) → List (List ℕ × ℕ) → Type 0
FindSame rows others = (name : List ℕ) → found rows name ≡ found others name

abbrev pub FindSameNumber : List (ℕ × ℕ) → List (ℕ × ℕ) → Type 0
FindSameNumber rows others = (key : ℕ) → found_number rows key ≡ found_number others key
