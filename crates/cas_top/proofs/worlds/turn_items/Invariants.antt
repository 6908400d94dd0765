use Rattle.std.proofs.Common.{◌≡◌, map, take}
use Rattle.cas_command.specs.Parts.{item_view}
use Rattle.cas_top.proofs.Turn_items.{item_pair}
use Rattle.cas_top.proofs.worlds.turn_items.Given as goal

abbrev pub invariant-loop-item : goal.invariant-loop-item
invariant-loop-item l = map item_pair l.made.items ≡ map item_view (take l.item-index l.items)
