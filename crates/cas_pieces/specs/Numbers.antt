-- Numbers as words: decimal digits with one spelling each.
use Rattle.std.specs.Prelude.{ℕ, ◌^◌, ◌==◌, Bool, false, nat_lt, if◌then◌else◌, List, [], ◌∷◌, length, Option, Some, None}
use Rattle.std.specs.Char.{is_ascii_digit}
use Rattle.std.specs.List.{list_all}
use Rattle.std.specs.Str.Parse.{digits_value}

-- decimal digits, at least one, and no 0 at the front unless it is alone
abbrev pub is_numeral : List ℕ → Bool
is_numeral [] = false
is_numeral (d ∷ ds) = if d == 48 then length ds == 0 else list_all is_ascii_digit (d ∷ ds)

-- the number that a word is, if it is one
abbrev pub number : List ℕ → Option ℕ
number x = if is_numeral x then Some (digits_value 10 x) else None

-- the number, or the largest of 64 bits where it is larger
abbrev pub capped : ℕ → ℕ
capped n = if nat_lt n (2 ^ 64) then n else 18446744073709551615
