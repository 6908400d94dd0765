use Rattle.std.proofs.Common.{◌≡◌, length}
use Rattle.cas_tso.specs.Rounds.{Drained}
use Rattle.cas_tso.proofs.Rounding.{stores_of}
use Rattle.cas_tso.proofs.machine.Tso.drain_due.Given as goal

abbrev pub invariant-due : goal.invariant-due
invariant-due l = record {
  setup : l.self.setup ≡ l.initial.self.setup;
  threads : length l.self.state.threads ≡ length l.initial.self.state.threads;
  drained : Drained l.initial.self.setup l.hold l.thread l.initial.self.state l.self.state;
}

abbrev pub decreases-due : goal.decreases-due
decreases-due l = stores_of l.self.state.threads l.thread
