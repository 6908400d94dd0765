-- What the pass makes of a program: the same, without the sum.
use Rattle.std.specs.Prelude.{◌≡◌}
use Rattle.cas_trial.specs.declared.tailing.Relaying.{Relaying}

-- the same program
abbrev pub IsSame : Relaying → Relaying → Type 0
IsSame to from = to.word ≡ from.word
