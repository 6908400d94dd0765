use Rattle.std.proofs.Common.{◌≡◌, ℕ, List, replicate}
use Rattle.cas_program.specs.Program.{env_of}
use Rattle.cas_turn.specs.World_of.{IsWorldOf}
use Rattle.cas_typed.specs.Resolved.{TypedModuleTree}
use Rattle.cas_world.specs.Turns.{turns}
use Rattle.cas_world.specs.World.{World}
use Rattle.cas_turn.proofs.world.World.repeat.Given as goal

-- the world behind as many turns as there were
abbrev pub invariant-loop-turn : goal.invariant-loop-turn
invariant-loop-turn l = (l.self.program ≡ l.fn.self.program)
    × ((ms : List TypedModuleTree) (names : List (List ℕ)) (w : World) → IsWorldOf l.fn.self ms names w →
    IsWorldOf l.self ms names (turns (env_of ms) w (replicate l._turn l.fn.thread)))
