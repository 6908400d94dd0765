-- Functions whose ownership is in order: they take the lock and give it back in turn, and end without it.
use Rattle.std.specs.Prelude.{Bool, true, false, List, [], ◌∷◌}
use Rattle.cas_trial.specs.declared.lowering.High.{High}
use Rattle.cas_trial.specs.declared.lowering.High.TheVariants as high

-- so is what is left of a function, where it has taken the lock or not
abbrev pub IsBalanced : (taken : Bool) → List High → Type 0
IsBalanced false [] = Unit {0}
IsBalanced taken (high.Skip ∷ rest) = IsBalanced taken rest
IsBalanced taken (high.Show ∷ rest) = IsBalanced taken rest
IsBalanced false (high.Take ∷ rest) = IsBalanced true rest
IsBalanced true (high.Give ∷ rest) = IsBalanced false rest
IsBalanced _ _ = ⊥
