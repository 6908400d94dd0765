use Rattle.std.proofs.Common.{◌≡◌, map, take}
use Rattle.cas_top.specs.Printed.{out_line}
use Rattle.cas_top.proofs.printed.output_lines.Given as goal

abbrev pub invariant-loop-thread : goal.invariant-loop-thread
invariant-loop-thread l = l.lines.items ≡ map out_line (take l.thread-index l.out)
