use Rattle.std.proofs.Common.{◌≡◌, ◌++◌, length, map}
use Rattle.cas_link.specs.Rows.{found, or_zero}
use Rattle.cas_link.proofs.image.numbers_of.Given as goal

abbrev pub invariant-names : goal.invariant-names
invariant-names l =
    l.numbers.items ++ map (λ name. or_zero (found l.symbols name)) l.rest
    ≡ map (λ name. or_zero (found l.symbols name)) l.names

abbrev pub decreases-names : goal.decreases-names
decreases-names l = length l.rest
