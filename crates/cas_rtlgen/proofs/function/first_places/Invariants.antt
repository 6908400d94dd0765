use Rattle.std.proofs.Common.{◌≡◌, ◌-◌, ◌++◌}
use Rattle.cas_rtlgen.specs.Makes.{first_registers}
use Rattle.cas_rtlgen.proofs.function.first_places.Given as goal

-- the others follow
abbrev pub invariant-loop-place : goal.invariant-loop-place
invariant-loop-place l = l.places.items ++ first_registers l.place (l.count - l.place) ≡ first_registers 0 l.count
