-- Places in a text: lines end at a line feed, and columns count bytes.
use Rattle.std.specs.Prelude.{ℕ, ◌+◌, ◌==◌, if◌then◌else◌, List, fold}
use Rattle.cas_base.specs.declared.place.Place.{Place}

-- the place of a text's first byte
abbrev pub start : Place
start = record { line = 1; col = 1 }

-- the place behind one byte
abbrev pub behind_byte : Place → ℕ → Place
behind_byte p b = if b == 10 then record { line = p.line + 1; col = 1 } else record { line = p.line; col = p.col + 1 }

-- the place behind these bytes
abbrev pub behind : Place → List ℕ → Place
behind p bytes = fold behind_byte p bytes
