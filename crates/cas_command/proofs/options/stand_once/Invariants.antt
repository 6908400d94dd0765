use Rattle.std.proofs.Common.{◌≡◌, map, drop}
use Rattle.cas_command.specs.Parts.{given_view}
use Rattle.cas_command.specs.Words.{stand_once}
use Rattle.cas_command.proofs.options.stand_once.Given as goal

abbrev pub invariant-loop-place : goal.invariant-loop-place
invariant-loop-place l = stand_once (map given_view (drop l.place l.options)) ≡ stand_once (map given_view l.options)
