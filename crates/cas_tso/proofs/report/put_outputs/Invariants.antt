use Rattle.std.proofs.Common.{◌≡◌, ◌++◌, drop}
use Rattle.std.specs.Prelude.{string_bytes}
use Rattle.cas_tso.specs.Report.{out_lines}
use Rattle.cas_tso.proofs.report.put_outputs.Given as goal

abbrev pub invariant-loop-thread : goal.invariant-loop-thread
invariant-loop-thread l = string_bytes l.text ++ out_lines (drop l.thread-index l.out) ≡ string_bytes l.fn.text ++ out_lines l.out
