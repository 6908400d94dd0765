use Rattle.std.proofs.Common.{◌≡◌}
use Rattle.cas_tso.specs.Rounds.{Rounds}
use Rattle.cas_tso.proofs.Rounding.{total}
use Rattle.cas_tso.proofs.machine.Tso.run_rounds.Given as goal

abbrev pub invariant-rounds : goal.invariant-rounds
invariant-rounds l = record {
  setup : l.self.setup ≡ l.initial.self.setup;
  rounds : Rounds l.initial.self.setup l.hold l.initial.self.state l.self.state;
}

abbrev pub decreases-rounds : goal.decreases-rounds
decreases-rounds l = total l.self.setup l.self.state.threads
