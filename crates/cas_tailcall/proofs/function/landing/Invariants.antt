use Rattle.std.proofs.Common.{◌≡◌, length, map}
use Rattle.cas_rtl.specs.Code.{node_of}
use Rattle.cas_tailcall.specs.Tailcall as made
use Rattle.cas_tailcall.proofs.function.landing.Given as goal

-- from there as many steps as are left lead to where all lead from the beginning
abbrev pub invariant-loop-steps : goal.invariant-loop-steps
invariant-loop-steps l =
    made.landing (map node_of l.nodes) l.steps l.at
    ≡ made.landing (map node_of l.fn.nodes) (length l.fn.nodes) l.fn.next

abbrev pub decreases-loop-steps : goal.decreases-loop-steps
decreases-loop-steps l = l.steps
