-- Clight is portable: an activation of a unit is the same as one of the thread of the whole program, where the blocks
-- of its locals and the places of its pointers are.
use Rattle.std.specs.Prelude.{◌≡◌, ⊤, ℕ, List, [], ◌∷◌, Some}
use Rattle.cas_runs.specs.Label.{Share}
use Rattle.cas_runs.specs.Edge.{Edge}
use Rattle.cas_runs.specs.Naming.{Home, Memory}
use Rattle.cas_runs.specs.Access.{performed}
use Rattle.cas_runs.specs.Calls.{nothing_touched}
use Rattle.cas_portable.specs.Renaming.{Renaming, IsRenaming, SameValue, SameMemory, SameStep, IsSized}
use Rattle.cas_portable.specs.Portable.{Portable, SameLast}
use Rattle.cas_clight.specs.Clight as clight
use Rattle.cas_clight.specs.Clight.{ClightFun, ClightState, Passed, own_home}

-- the blocks of the activation are renamed to those of the other
abbrev pub OwnBlocks : Renaming → ClightFun → (serial other : ℕ) → Type 0
OwnBlocks r f n m = (local : ℕ) → r (own_home f n local) ≡ Some (own_home f m local)

-- the same is passed to the same locals
abbrev pub SamePassed : (size : Home → ℕ) → Renaming → List Passed → List Passed → Type 0
SamePassed size r [] [] = ⊤
SamePassed size r (x ∷ xs) (y ∷ ys) = (x.local ≡ y.local) × SameValue size r x.value y.value × SamePassed size r xs ys
SamePassed size r _ _ = ⊥

-- both are at the same in this function
pub record SameState (size : Home → ℕ) (r : Renaming) (f : ClightFun) (x y : ClightState) : Type 0 where
  pub function : x.function ≡ f
  pub function_there : y.function ≡ f
  pub own : OwnBlocks r f x.serial y.serial
  pub passed : SamePassed size r x.passed y.passed
  pub continuation : x.continuation ≡ y.continuation

-- Clight is portable, whatever objects' sizes are. Its pointers go to places of their objects.
abbrev pub ClightIsPortable : Type 0
ClightIsPortable = (size : Home → ℕ) → Portable clight.clight size (SameState size)

-- So a step of a unit's activation is that of the same activation of the thread, over the same share.
abbrev pub ClightStepsAreSame : Type 0
ClightStepsAreSame = (size : Home → ℕ) (r : Renaming) → IsRenaming r → (f : ClightFun) (x y : ClightState) →
    SameState size r f x y → (edge : Edge) (share : Share) (m t : Memory) → SameMemory size r m t → IsSized size t →
    SameStep size r (SameLast clight.clight size (SameState size) r f) t
    (performed edge (clight.step x) (record {
      holding = record { share = share; memory = m };
      footprint = nothing_touched;
    }))
    (performed edge (clight.step y) (record {
      holding = record { share = share; memory = t };
      footprint = nothing_touched;
    }))
