-- The program that a program of the code stands for.
use Rattle.std.specs.Prelude.{ℕ, List}
use Rattle.cas_typed.specs.Resolved.{TypedModuleTree}
use Rattle.cas_whole.specs.Whole.{AreProgramOf}
use Rattle.cas_whole.specs.declared.program.Program.{Program}

-- the program of the code is the program of these resolved modules with these entries
abbrev pub IsProgramOf : Program → List TypedModuleTree → (names : List (List ℕ)) → Type 0
IsProgramOf p modules names = AreProgramOf p.modules p.cells p.entries p.items modules names
