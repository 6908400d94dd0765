-- What is still to come follows what is written.
use Rattle.std.proofs.Common.{◌≡◌, List, length}
use Rattle.cas_print.specs.Items.{more_parameters}
use Rattle.cas_print.specs.Page.{followed_by}
use Rattle.cas_print.specs.Pieces.{Piece}
use Rattle.cas_print.proofs.item.parameters.Given as goal

abbrev pub invariant-loop-next : goal.invariant-loop-next
invariant-loop-next l = (rest : List Piece) → followed_by l.page (more_parameters l.others l.names rest)
    ≡ followed_by l.initial.page (more_parameters l.initial.others l.initial.names rest)

abbrev pub decreases-loop-next : goal.decreases-loop-next
decreases-loop-next l = length l.others
