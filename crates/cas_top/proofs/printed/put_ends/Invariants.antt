use Rattle.std.proofs.Common.{◌≡◌, ◌++◌, drop}
use Rattle.cas_top.specs.Printed.{end_lines}
use Rattle.cas_top.proofs.printed.put_ends.Given as goal

abbrev pub invariant-loop-end : goal.invariant-loop-end
invariant-loop-end l = record {
  counted : l.thread ≡ l.end-index;
  left : l.lines.items ++ end_lines l.thread (drop l.end-index l.ends) ≡ l.fn.lines.items ++ end_lines 0 l.ends;
}
