-- What is still to come follows what is written.
use Rattle.std.proofs.Common.{◌≡◌, List, length}
use Rattle.cas_print.specs.Items.{printed_value}
use Rattle.cas_print.specs.Expressions.{behind_commas}
use Rattle.cas_print.specs.Page.{followed_by}
use Rattle.cas_print.specs.Pieces.{Piece}
use Rattle.cas_print.proofs.item.values.Given as goal

abbrev pub invariant-loop-next : goal.invariant-loop-next
invariant-loop-next l = (rest : List Piece) → followed_by l.page (behind_commas (printed_value l.kind) l.others rest)
    ≡ followed_by l.initial.page (behind_commas (printed_value l.kind) l.initial.others rest)

abbrev pub decreases-loop-next : goal.decreases-loop-next
decreases-loop-next l = length l.others
