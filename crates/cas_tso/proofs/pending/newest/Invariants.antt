use Rattle.std.proofs.Common.{◌≡◌, drop}
use Rattle.std.specs.Option.{option_or}
use Rattle.cas_tso.specs.State.{newest}
use Rattle.cas_tso.proofs.pending.newest.Given as goal

abbrev pub invariant-loop-index : goal.invariant-loop-index
invariant-loop-index l = option_or (newest (drop l.index l.buffer.items) l.at) l.found ≡ newest l.buffer.items l.at
