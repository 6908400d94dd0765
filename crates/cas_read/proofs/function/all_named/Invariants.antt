use Rattle.std.proofs.Common.{◌≡◌, map, Some}
use Rattle.cas_read.proofs.function.all_named.Given as goal

abbrev pub invariant-loop-param : goal.invariant-loop-param
invariant-loop-param l = map Some l.names.items ≡ l.yielded
