use Rattle.std.proofs.Common.{◌≡◌, ◌+◌, ◌≤◌, count_by, drop}
use Rattle.cas_link.specs.Parts.{is_run}
use Rattle.cas_link.proofs.parts.size_of_lines.Given as goal

abbrev pub invariant-loop-line : goal.invariant-loop-line
invariant-loop-line l = record {
  bound : l.size ≤ l.line-index;
  counted : l.size + count_by is_run (drop l.line-index l.lines) ≡ count_by is_run l.lines;
}
