-- How long the comment is that begins a text.
use Rattle.std.specs.Prelude.{ℕ, ◌+◌, not, ◌==◌, nat_eq, if◌then◌else◌, List, [], ◌∷◌, drop, codes, Option, Some, None}
use Rattle.std.specs.List.{starts_with, prefix_len}
use Rattle.std.specs.Option.{option_map}

-- how many bytes there are up to the end of the first `*/`, if there is one
abbrev pub closing_len : List ℕ → Option ℕ
closing_len [] = None
closing_len (b ∷ bs) =
    if starts_with nat_eq (b ∷ bs) (codes "*/") then Some 2 else option_map (λ n. n + 1) (closing_len bs)

-- the bytes of a comment that begins with `/*`: up to the next `*/`
abbrev pub block_comment_len : List ℕ → Option ℕ
block_comment_len text = option_map (λ n. n + 2) (closing_len (drop 2 text))

-- the bytes of a comment that begins with `//`: up to the end of the line
abbrev pub line_comment_len : List ℕ → ℕ
line_comment_len text = prefix_len (λ b. not (b == 10)) text
