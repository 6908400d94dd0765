use Rattle.std.proofs.Common.{map, ap, ◌∙◌}
use Rattle.std.proofs.lemmas.List.{take_all}
use Rattle.cas_command.specs.Parts.{item_view}
use Rattle.cas_top.specs.Worlds.{turns_of}
use Rattle.cas_top.proofs.Turn_items.{unrolled_turns}
use Rattle.cas_top.proofs.worlds.turn_items.Goals as goal

pub returns : goal.returns
returns c =
    unrolled_turns c.loop-item.made.items ∙ ap turns_of c.loop-item.invariant
    ∙ ap (λ xs. turns_of (map item_view xs)) (take_all c.loop-item.item-index c.args.items.now c.loop-item-test.false)
