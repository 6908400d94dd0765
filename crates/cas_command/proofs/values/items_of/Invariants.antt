use Rattle.std.proofs.Common.{◌≡◌, ◌++◌, map, drop}
use Rattle.std.specs.Option.{option_map}
use Rattle.cas_command.specs.Parts.{item_view, texts}
use Rattle.cas_command.specs.Words.{items_of}
use Rattle.cas_command.proofs.values.items_of.Given as goal

abbrev pub invariant-loop-text : goal.invariant-loop-text
invariant-loop-text l =
    option_map (λ more. map item_view l.items.items ++ more) (items_of l.threads (texts (drop l.text-index l.parts)))
    ≡ items_of l.threads (texts l.parts)
