use Rattle.std.proofs.Common.{◌≡◌, ◌++◌, length}
use Rattle.cas_link.specs.Image_of.{guards_in}
use Rattle.cas_link.proofs.image.guards_of.Given as goal

abbrev pub invariant-cells : goal.invariant-cells
invariant-cells l = l.guards.items ++ guards_in l.rest ≡ guards_in l.cells

abbrev pub decreases-cells : goal.decreases-cells
decreases-cells l = length l.rest
