use Rattle.std.proofs.Common.{◌≡◌, length}
use Rattle.std.specs.List.{concat}
use Rattle.cas_top.proofs.Taking.{GoesOn}
use Rattle.cas_top.proofs.answer.put_lines.Given as goal

abbrev pub invariant-loop-line : goal.invariant-loop-line
invariant-loop-line g l =
    GoesOn (g.O.Sink.taken l.fn.out) (concat l.fn.lines) (g.O.Sink.taken l.out) (concat l.rest)
    × (g.O.Sink.faults l.out ≡ g.O.Sink.faults l.fn.out)

abbrev pub decreases-loop-line : goal.decreases-loop-line
decreases-loop-line g l = length l.rest
