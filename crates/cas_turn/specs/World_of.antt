-- The world of a program that a world of the code stands for.
use Rattle.std.specs.Prelude.{ℕ, List}
use Rattle.cas_typed.specs.Resolved.{TypedModuleTree}
use Rattle.cas_world.specs.World as definition
use Rattle.cas_turn.specs.Shown.{AreWorldOf}
use Rattle.cas_turn.specs.declared.world.World.{World}

-- the world of the code is this world of the program with these modules and entries
abbrev pub IsWorldOf : World → List TypedModuleTree → (names : List (List ℕ)) → definition.World → Type 0
IsWorldOf world modules names w = AreWorldOf world.program world.threads.items world.shared.words.items
    world.holders.items world.out.items modules names w
