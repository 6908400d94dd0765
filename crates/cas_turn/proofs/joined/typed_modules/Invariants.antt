use Rattle.std.proofs.Common.{◌≡◌}
use Rattle.cas_turn.specs.Joined.{typed_of}
use Rattle.cas_turn.proofs.joined.typed_modules.Given as goal

abbrev pub invariant-loop-module : goal.invariant-loop-module
invariant-loop-module l = l.typed.items ≡ typed_of l.yielded
