use Rattle.std.proofs.Common.{◌≡◌, ◌++◌, length}
use Rattle.cas_pieces.specs.Pieces.{pieces}
use Rattle.cas_pieces.proofs.line.split.Given as goal

-- what is there and what the rest has are the pieces of the line
abbrev pub invariant-loop-piece : goal.invariant-loop-piece
invariant-loop-piece l = l.pieces.items ++ pieces l.rest ≡ pieces l.line

abbrev pub decreases-loop-piece : goal.decreases-loop-piece
decreases-loop-piece l = length l.rest
