use Rattle.std.proofs.Common.{◌≡◌, ◌++◌, length}
use Rattle.cas_pieces.specs.Pieces.{pieces}
use Rattle.cas_lock.specs.Lines.{without_blanks}
use Rattle.cas_lock.proofs.line.split_solid.Given as goal

-- what is there and what the rest has are the solid pieces before the comment
abbrev pub invariant-loop-piece : goal.invariant-loop-piece
invariant-loop-piece l = l.solid.items ++ without_blanks (pieces l.rest) ≡ without_blanks (pieces l.line)

abbrev pub decreases-loop-piece : goal.decreases-loop-piece
decreases-loop-piece l = length l.rest
