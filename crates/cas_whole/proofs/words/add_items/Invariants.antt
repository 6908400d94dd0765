use Rattle.std.proofs.Common.{◌≡◌, ◌++◌, length, map}
use Rattle.std.specs.List.{flat_map}
use Rattle.cas_syntax.specs.Tree.{item_tree}
use Rattle.cas_program.specs.Program.{item_words}
use Rattle.cas_whole.proofs.words.add_items.Given as goal

abbrev pub invariant-items : goal.invariant-items
invariant-items l =
    l.words.items ++ flat_map item_words (map item_tree l.rest) ≡ l.initial.words.items ++ flat_map item_words
    (map item_tree l.items)

abbrev pub decreases-items : goal.decreases-items
decreases-items l = length l.rest
