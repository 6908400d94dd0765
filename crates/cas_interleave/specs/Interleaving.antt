-- Labels give interleavings.
use Rattle.std.specs.Prelude.{◌≡◌, ℕ, ◌<◌, List, length, reverse}
use Rattle.cas_base.specs.declared.act.Act.TheVariants as act
use Rattle.cas_base.specs.declared.act.Why.{Why}
use Rattle.cas_program.specs.Program.{env_of}
use Rattle.cas_step.specs.Step.{Step}
use Rattle.cas_world.specs.World.{World, IsNext, Interleaves}
use Rattle.cas_runs.specs.Machine.{IsBad}
use Rattle.cas_runs.specs.Legal.{ThreadLabel, IsLegal, projection}
use Rattle.cas_together.specs.Turns.{Paced, up_to, since_then}
use Rattle.cas_interleave.specs.Agreeing.{Threads, AreThreads, State, machine_of, first_of, Agrees}

-- these turns are an interleaving, to a world that agrees with the labels
pub record LeadsToo (r : Threads) (turns : List ℕ) (ls : List ThreadLabel) (ys : ℕ → State) : Type 0 where
  pub world : World
  pub leads : Interleaves (env_of r.modules) (first_of r) turns world
  pub agrees : Agrees r world ls ys

-- For legal labels and a run of each thread of a checked program with its own of them, and any quiet steps since, there
-- is an interleaving to a world in which each thread is where its run stands. Its turns are told: before each label the
-- quiet steps of the block that it ends, and last, in order of threads, the quiet steps since.
abbrev pub LabelsInterleave : Type 0
LabelsInterleave = (r : Threads) → AreThreads r → (ls : List ThreadLabel) →
    IsLegal r.edge.cells (length r.entries) ls → (cs : ℕ → List ℕ) (ks : ℕ → ℕ) (ys : ℕ → State) →
    ((i : ℕ) → i < length r.entries → Paced r.edge (machine_of r i) (projection i ls) (cs i) (ks i) (ys i)) →
    LeadsToo r (reverse (since_then (length r.entries) ks (up_to ls cs))) ls ys

-- the next act of the thread is Bad
pub record IsBadNext (r : Threads) (w : World) (thread : ℕ) : Type 0 where
  pub step : Step
  pub next : IsNext (env_of r.modules) w thread step
  pub why : Why
  pub bad : step.act ≡ act.Bad why

-- In such a world the next act of a thread is Bad where its run's is: a thread of a checked program neither touches a
-- word nor unlocks a lock that it doesn't hold.
abbrev pub BadIsBad : Type 0
BadIsBad = (r : Threads) → AreThreads r → (w : World) (ls : List ThreadLabel) (ys : ℕ → State) → Agrees r w ls ys →
    (i : ℕ) → i < length r.entries → IsBad ((machine_of r i).act (ys i)) → IsBadNext r w i
