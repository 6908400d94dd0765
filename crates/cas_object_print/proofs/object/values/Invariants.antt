use Rattle.std.proofs.Common.{◌≡◌, ℕ, List, length}
use Rattle.cas_object_print.specs.Page.{followed_by}
use Rattle.cas_object_print.specs.Objects.{values}
use Rattle.cas_object_print.proofs.object.values.Given as goal

abbrev pub invariant-loop-next : goal.invariant-loop-next
invariant-loop-next l =
    (rest : List ℕ) → followed_by l.page (values l.others rest) ≡ followed_by l.initial.page
    (values l.initial.others rest)

abbrev pub decreases-loop-next : goal.decreases-loop-next
decreases-loop-next l = length l.others
