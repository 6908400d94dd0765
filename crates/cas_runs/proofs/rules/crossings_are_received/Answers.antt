use Rattle.cas_runs.proofs.Receiving.{calls_are_received, returns_are_received}
use Rattle.cas_runs.proofs.rules.crossings_are_received.Goals as goal

pub returns : goal.returns
returns c = record { calls = calls_are_received; returns = returns_are_received }
