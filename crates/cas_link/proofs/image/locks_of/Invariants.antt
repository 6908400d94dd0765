use Rattle.std.proofs.Common.{◌≡◌, ◌++◌, length}
use Rattle.cas_link.specs.Image_of.{locks_in}
use Rattle.cas_link.proofs.image.locks_of.Given as goal

abbrev pub invariant-cells : goal.invariant-cells
invariant-cells l = l.locks.items ++ locks_in l.rest ≡ locks_in l.cells

abbrev pub decreases-cells : goal.decreases-cells
decreases-cells l = length l.rest
