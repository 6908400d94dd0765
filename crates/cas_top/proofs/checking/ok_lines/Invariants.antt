use Rattle.std.proofs.Common.{◌≡◌, map, take}
use Rattle.cas_top.specs.Printed.{ok_line}
use Rattle.cas_top.specs.View.{names_of}
use Rattle.cas_top.proofs.checking.ok_lines.Given as goal

abbrev pub invariant-loop-source : goal.invariant-loop-source
invariant-loop-source l = l.lines.items ≡ map ok_line (names_of (take l.source-index l.sources))
