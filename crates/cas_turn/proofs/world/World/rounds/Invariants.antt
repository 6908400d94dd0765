use Rattle.std.proofs.Common.{◌≡◌, ℕ, List}
use Rattle.cas_program.specs.Program.{env_of}
use Rattle.cas_turn.specs.World_of.{IsWorldOf}
use Rattle.cas_typed.specs.Resolved.{TypedModuleTree}
use Rattle.cas_world.specs.Turns.{rounds}
use Rattle.cas_world.specs.World.{World}
use Rattle.cas_turn.proofs.world.World.rounds.Given as goal

-- the world behind as many rounds as there were
abbrev pub invariant-loop-round : goal.invariant-loop-round
invariant-loop-round l = (l.self.program ≡ l.fn.self.program)
    × ((ms : List TypedModuleTree) (names : List (List ℕ)) (w : World) → IsWorldOf l.fn.self ms names w →
    IsWorldOf l.self ms names (rounds (env_of ms) w l._round))
