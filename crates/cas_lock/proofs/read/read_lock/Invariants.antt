use Rattle.std.proofs.Common.{◌≡◌, ◌+◌, ◌≤◌, [], length}
use Rattle.cas_pieces.specs.Lines.{lines}
use Rattle.cas_lock.specs.Read.{fault_from}
use Rattle.cas_lock.proofs.read.read_lock.Given as goal

abbrev pub invariant-loop-front : goal.invariant-loop-front
invariant-loop-front l = record {
  -- the fault of what is left, after what is read, is that of the whole text
  fault : fault_from (lines l.text) l.reading.labels.items l.reading.steps.items l.reading.line ≡ fault_from
      (lines l.bytes) [] [] 1;
  counted : l.reading.line + length l.text ≤ 1 + length l.bytes;
}

abbrev pub decreases-loop-front : goal.decreases-loop-front
decreases-loop-front l = length l.text
