use Rattle.std.proofs.Common.{◌≡◌, ◌≤◌, ◌+◌, drop}
use Rattle.cas_lex.specs.Places as spec
use Rattle.cas_lex.proofs.place.behind.Given as goal

abbrev pub invariant-loop-byte : goal.invariant-loop-byte
invariant-loop-byte l = record {
  value : spec.behind l.at (drop l.byte-index l.bytes) ≡ spec.behind l.fn.place l.bytes;
  lines : l.at.line ≤ l.fn.place.line + l.byte-index;
  columns : l.at.col ≤ l.fn.place.col + l.byte-index;
}
