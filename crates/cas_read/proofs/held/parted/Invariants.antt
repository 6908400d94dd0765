use Rattle.std.proofs.Common.{◌≡◌}
use Rattle.cas_syntax.specs.Items.{names_alone, places_alone}
use Rattle.cas_read.proofs.held.parted.Given as goal

abbrev pub invariant-loop-lock : goal.invariant-loop-lock
invariant-loop-lock l = record {
  names : l.names.items ≡ names_alone l.yielded;
  places : l.places.items ≡ places_alone l.yielded;
}
