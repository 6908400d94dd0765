-- The characters of module texts, as bytes.
use Rattle.std.specs.Prelude.{ℕ, Bool, not, ◌&&◌, ◌||◌, ◌==◌}
use Rattle.std.specs.Char.{is_ascii_graphic}

-- a space, a tab, a line feed or a carriage return
abbrev pub is_blank : ℕ → Bool
is_blank b = b == 32 || b == 9 || b == 10 || b == 13

-- `@`, `$`, a backquote or a backslash
abbrev pub is_unused : ℕ → Bool
is_unused b = b == 64 || b == 36 || b == 96 || b == 92

-- a character that may stand outside comments
abbrev pub is_character : ℕ → Bool
is_character b = is_blank b || (is_ascii_graphic b && not (is_unused b))
