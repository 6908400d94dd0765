-- The items of a schedule, as turns have them.
use Rattle.std.proofs.Common.{◌≡◌, ℕ, List, [], ◌∷◌, ◌++◌, map, replicate, refl, ap}
use Rattle.cas_top.specs.Worlds.{turns_of}
use Rattle.cas_turn.specs.Schedules.{unrolled}
use Rattle.cas_turn.specs.declared.item.Item.{Item}

-- an item as the words have it
abbrev pub item_pair : Item → ℕ × ℕ
item_pair item = (item.thread, item.count)

pub unrolled_turns : (items : List Item) → unrolled items ≡ turns_of (map item_pair items)
unrolled_turns [] = refl
unrolled_turns (item ∷ items) = ap (λ ts. replicate item.count item.thread ++ ts) (unrolled_turns items)
