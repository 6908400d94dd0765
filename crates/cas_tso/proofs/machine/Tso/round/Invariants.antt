use Rattle.std.proofs.Common.{◌≡◌, length}
use Rattle.cas_tso.specs.Rounds.{Turns}
use Rattle.cas_tso.proofs.machine.Tso.round.Given as goal

abbrev pub invariant-loop-thread : goal.invariant-loop-thread
invariant-loop-thread l = record {
  setup : l.self.setup ≡ l.initial.self.setup;
  threads : length l.self.state.threads ≡ length l.initial.self.state.threads;
  turns : Turns l.initial.self.setup l.hold l.initial.self.state l.thread l.self.state;
}
