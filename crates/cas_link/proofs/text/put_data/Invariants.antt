use Rattle.std.proofs.Common.{◌≡◌, ◌++◌, length}
use Rattle.std.specs.Prelude.{string_bytes}
use Rattle.cas_link.specs.Map.{data_lines}
use Rattle.cas_link.proofs.text.put_data.Given as goal

abbrev pub invariant-cells : goal.invariant-cells
invariant-cells l = string_bytes l.text ++ data_lines l.rest ≡ string_bytes l.initial.text ++ data_lines l.cells

abbrev pub decreases-cells : goal.decreases-cells
decreases-cells l = length l.rest
