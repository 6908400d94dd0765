use Rattle.std.proofs.Common.{◌≡◌, ◌++◌, drop}
use Rattle.std.specs.Prelude.{string_bytes}
use Rattle.cas_tso.specs.Report.{thread_lines}
use Rattle.cas_tso.proofs.report.put_threads.Given as goal

abbrev pub invariant-loop-thread : goal.invariant-loop-thread
invariant-loop-thread l = record {
  counted : l.number ≡ l.thread-index;
  left : string_bytes l.text ++ thread_lines l.counts l.number (drop l.thread-index l.threads) ≡ string_bytes l.fn.text ++ thread_lines l.counts 0 l.threads;
}
