-- What the pass makes of a program: one with the same word, which makes a tail call.
use Rattle.std.specs.Prelude.{◌≡◌}
use Rattle.cas_trial.specs.declared.tailing.Relayed.{Relayed}
use Rattle.cas_trial.specs.declared.tailing.Relaying.{Relaying}

abbrev pub IsTailing : Relayed → Relaying → Type 0
IsTailing to from = to.word ≡ from.word
