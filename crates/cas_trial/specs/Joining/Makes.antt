-- What the pass makes of a program: both variables are in one block, one after the other.
use Rattle.std.specs.Prelude.{◌≡◌}
use Rattle.cas_trial.specs.declared.joining.Apart.{Apart}
use Rattle.cas_trial.specs.declared.joining.Joined.{Joined}

-- the joined program has the values of the other
pub record IsJoined (to : Joined) (from : Apart) : Type 0 where
  pub first : to.cells.0 ≡ from.first
  pub second : to.cells.1 ≡ from.second
