use Rattle.std.proofs.Common.{◌≡◌, ℕ, ◌^◌, ◌<◌, List, length, take}
use Rattle.cas_program.specs.Program.{env_of, entries_of}
use Rattle.cas_turn.specs.Shown.{AreThreads}
use Rattle.cas_typed.specs.Resolved.{TypedModuleTree}
use Rattle.cas_whole.specs.Program_of.{IsProgramOf}
use Rattle.cas_world.specs.World.{started}
use Rattle.cas_turn.proofs.first.first_threads.Given as goal

abbrev pub invariant-loop-thread : goal.invariant-loop-thread
invariant-loop-thread l = (length l.threads.items ≡ l.thread) × (l.count ≡ length l.program.entries)
    × (l.count < 2 ^ 32)
    × ((ms : List TypedModuleTree) (names : List (List ℕ)) → IsProgramOf l.program ms names →
    AreThreads l.program l.threads.items (started (env_of ms) 0 (take l.thread (entries_of ms names))))
