-- Which calls of a shelf or a sink in memory fail, by their number.
use Rattle.std.specs.Prelude.{ℕ, ◌+◌, ◌<◌, List, Contains, min}

-- the number of the last call that has one
abbrev pub last_number : ℕ
last_number = 18446744073709551615

-- after so many calls, the number of the next, counted from 1, is one of those that fail
abbrev pub FailsNext : List ℕ → ℕ → Type 0
FailsNext failing calls = (calls < last_number) × Contains failing (calls + 1)

-- the count of calls after one more
abbrev pub calls_after : ℕ → ℕ
calls_after calls = min (calls + 1) last_number
