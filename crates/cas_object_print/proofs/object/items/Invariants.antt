use Rattle.std.proofs.Common.{◌≡◌, ℕ, List, length}
use Rattle.cas_object_print.specs.Page.{followed_by}
use Rattle.cas_object_print.specs.Objects.{items}
use Rattle.cas_object_print.proofs.object.items.Given as goal

abbrev pub invariant-loop-decl : goal.invariant-loop-decl
invariant-loop-decl l =
    (rest : List ℕ) → followed_by l.page (items l.decls l.globals l.funs rest) ≡ followed_by l.initial.page
    (items l.initial.decls l.initial.globals l.initial.funs rest)

abbrev pub decreases-loop-decl : goal.decreases-loop-decl
decreases-loop-decl l = length l.decls
