use Rattle.std.proofs.Common.{◌≡◌, ◌+◌, ◌≤◌, length, map}
use Rattle.cas_pieces.specs.Lines.{lines}
use Rattle.cas_object.specs.Texts.{going_on, read_from, read}
use Rattle.cas_object.proofs.read.read_objects.Given as goal

abbrev pub invariant-loop-front : goal.invariant-loop-front
invariant-loop-front l = record {
  -- what is read of the rest, after what was read, is what is read of the whole text
  whole : read_from (lines l.text) l.line (going_on (map (λ object. object.unit) l.objects.items) l.inside)
      ≡ read l.bytes;
  counted : l.line + length l.text ≤ 1 + length l.bytes;
}

abbrev pub decreases-loop-front : goal.decreases-loop-front
decreases-loop-front l = length l.text
