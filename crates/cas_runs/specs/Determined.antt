-- What it means that two runs are one.
use Rattle.std.specs.Prelude.{◌≡◌, List}
use Rattle.cas_runs.specs.Machine.{Block}

-- the same blocks, and the same state
pub record Same {S : Type 0} (bs cs : List Block) (b c : Block) (x y : S) : Type 0 where
  pub blocks : bs ≡ cs
  pub block : b ≡ c
  pub state : x ≡ y
