-- Counts that stand still at the greatest `u64`.
use Rattle.std.proofs.Common.{◌≡◌, ◌<◌, ℕ, ◌-◌, ◌^◌, min, Some, None, arith}
use Rattle.std.specs.Prelude.{nat_lt, if◌then◌else◌}
use Rattle.cas_base.specs.declared.place.Place.{Place}
use Rattle.cas_type.specs.Parts.{capped}
use Rattle.cas_typed.specs.Faults.{above, limit}
use Rattle.cas_typed.specs.declared.fault.TypeCount.{TypeCount}

-- a capped count passes a smaller limit exactly if the count does
passes_capped : (most counted n : ℕ) → most < 2 ^ 64 - 1 → counted ≡ min n (2 ^ 64 - 1) →
    nat_lt most counted ≡ nat_lt most n
passes_capped most counted n small e = grind (arith, small, e)

-- a capped count is above a smaller limit as the count is
pub above_capped : (most : ℕ) (p : Place) (what : TypeCount) (counted n : ℕ) → most < 2 ^ 64 - 1 → counted ≡ capped n →
    above most p what counted ≡ above most p what n
above_capped most p what counted n small e =
    let same : min counted (2 ^ 64 - 1) ≡ min n (2 ^ 64 - 1) = omega (arith, e) in
    λ i. if passes_capped most counted n small e i then Some (limit p what (same i)) else None
