use Rattle.std.proofs.Common.{◌≡◌, ℕ, List, ◌++◌, map}
use Rattle.cas_command.specs.Parts.{texts}
use Rattle.cas_top.specs.Worlds.{thread_line}
use Rattle.cas_turn.specs.World_of.{IsWorldOf}
use Rattle.cas_typed.specs.Resolved.{TypedModuleTree}
use Rattle.cas_world.specs.Turns.{threads_from}
use Rattle.cas_world.specs.World.{World}
use Rattle.cas_top.proofs.world_lines.put_states.Given as goal

-- the lines of the threads before this one
abbrev pub invariant-loop-thread : goal.invariant-loop-thread
invariant-loop-thread l = (ms : List TypedModuleTree) (entries : List (List ℕ)) (w : World) →
    IsWorldOf l.world ms entries w →
    l.lines.items ≡ l.fn.lines.items ++ map (thread_line (texts l.names) ms w) (threads_from 0 l.thread)
