use Rattle.std.proofs.Common.{◌≡◌, ℕ, List, false}
use Rattle.cas_program.specs.Program.{env_of}
use Rattle.cas_turn.specs.World_of.{IsWorldOf}
use Rattle.cas_typed.specs.Resolved.{TypedModuleTree}
use Rattle.cas_world.specs.Turns.{threads_from, turns}
use Rattle.cas_world.specs.World.{World}
use Rattle.cas_turn.proofs.world.World.round.Given as goal

-- the world after the turns of the threads before this one, which is as it was where none has moved
abbrev pub invariant-loop-thread : goal.invariant-loop-thread
invariant-loop-thread l = (l.self.program ≡ l.fn.self.program)
    × ((ms : List TypedModuleTree) (names : List (List ℕ)) (w : World) → IsWorldOf l.fn.self ms names w →
    IsWorldOf l.self ms names (turns (env_of ms) w (threads_from 0 l.thread)))
    × (l.moved ≡ false → (ms : List TypedModuleTree) (names : List (List ℕ)) (w : World) →
    IsWorldOf l.fn.self ms names w → turns (env_of ms) w (threads_from 0 l.thread) ≡ w)
