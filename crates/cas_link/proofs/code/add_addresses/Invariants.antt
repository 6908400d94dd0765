use Rattle.std.proofs.Common.{◌++◌, length}
use Rattle.cas_link.specs.Rows.{FindSame}
use Rattle.cas_link.specs.Code.{addresses_of}
use Rattle.cas_link.proofs.code.add_addresses.Given as goal

abbrev pub invariant-cells : goal.invariant-cells
invariant-cells l = FindSame (l.addresses ++ addresses_of l.rest) (l.initial.addresses ++ addresses_of l.cells)

abbrev pub decreases-cells : goal.decreases-cells
decreases-cells l = length l.rest
