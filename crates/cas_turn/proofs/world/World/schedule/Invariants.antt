use Rattle.std.proofs.Common.{◌≡◌, ℕ, List, ◌++◌, length}
use Rattle.cas_program.specs.Program.{env_of}
use Rattle.cas_turn.specs.Schedules.{unrolled}
use Rattle.cas_turn.specs.World_of.{IsWorldOf}
use Rattle.cas_typed.specs.Resolved.{TypedModuleTree}
use Rattle.cas_world.specs.Turns.{turns}
use Rattle.cas_world.specs.World.{World}
use Rattle.cas_turn.proofs.world.World.schedule.Given as goal

-- the world after the turns of the items before the rest
abbrev pub invariant-items : goal.invariant-items
invariant-items l = (l.self.program ≡ l.fn.self.program)
    × ((ms : List TypedModuleTree) (names : List (List ℕ)) (w : World) → IsWorldOf l.fn.self ms names w →
    (done : List ℕ) × (done ++ unrolled l.rest ≡ unrolled l.fn.items)
    × IsWorldOf l.self ms names (turns (env_of ms) w done))

abbrev pub decreases-items : goal.decreases-items
decreases-items l = length l.rest
