-- Words.
use Rattle.std.specs.Prelude.{ℕ, Bool, false, List, [], ◌∷◌}
use Rattle.std.specs.List.{list_all}
use Rattle.cas_base.specs.Name.{is_name_byte}

-- letters, digits and `_`, at least one
abbrev pub is_word : List ℕ → Bool
is_word [] = false
is_word (b ∷ bs) = list_all is_name_byte (b ∷ bs)
