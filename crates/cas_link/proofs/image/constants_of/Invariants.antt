use Rattle.std.proofs.Common.{◌≡◌, ◌++◌, length}
use Rattle.cas_link.specs.Image_of.{constants_in}
use Rattle.cas_link.proofs.image.constants_of.Given as goal

abbrev pub invariant-cells : goal.invariant-cells
invariant-cells l = l.constants.items ++ constants_in l.rest ≡ constants_in l.cells

abbrev pub decreases-cells : goal.decreases-cells
decreases-cells l = length l.rest
