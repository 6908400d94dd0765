-- Safe and race-free programs.
use Rattle.std.specs.Prelude.{◌≡◌, ◌⊎◌, ℕ, ◌+◌, ◌<◌, ◌≤◌, List, ◌++◌, Some, slice_get, All, Contains}
use Rattle.cas_base.specs.declared.act.Act.TheVariants as act
use Rattle.cas_base.specs.declared.act.Why.{Why}
use Rattle.cas_own.specs.Checked.{IsChecked}
use Rattle.cas_program.specs.Program.{IsProgram, env_of, entries_of, initial_words}
use Rattle.cas_step.specs.Env.{shared, Env}
use Rattle.cas_step.specs.Step.{Step}
use Rattle.cas_typed.specs.Resolved.{TypedModuleTree}
use Rattle.cas_world.specs.World.{World, first_world, Reaches, IsNext, MayStep}

-- in no reachable world is a thread's next act Bad
abbrev pub IsSafe : Env → (first : World) → Type 0
IsSafe e first = (w : World) (i : ℕ) (s : Step) (why : Why) → Reaches e first w → IsNext e w i s →
    s.act ≡ act.Bad why → ⊥

-- the step reads or writes the word
abbrev pub Touches : Step → (word : ℕ) → Type 0
Touches s n = Contains (s.reads ++ s.writes) n

abbrev pub Writes : Step → (word : ℕ) → Type 0
Writes s n = Contains s.writes n

-- both steps touch the word, and at least one of them writes it
abbrev pub Races : Step → Step → (word : ℕ) → Type 0
Races s r n = Touches s n × Touches r n × (Writes s n ⊎ Writes r n)

-- in no reachable world do the next steps of two threads that may step race for a word
abbrev pub IsRaceFree : Env → (first : World) → Type 0
IsRaceFree e first = (w : World) (i j : ℕ) (s r : Step) (n : ℕ) → Reaches e first w → (i ≡ j → ⊥) → MayStep e w i s →
    MayStep e w j r → Races s r n → ⊥

-- the first world of a program
abbrev pub program_world : List TypedModuleTree → (entries : List (List ℕ)) → World
program_world modules entries = first_world (env_of modules) (entries_of modules entries) (initial_words modules)

-- Each program of checked modules is race-free, safe or not.
abbrev pub RacesAbsent : Type 0
RacesAbsent = (modules : List TypedModuleTree) (entries : List (List ℕ)) → IsProgram modules entries →
    All IsChecked modules →
    IsRaceFree (env_of modules) (program_world modules entries)

-- the word belongs to a shared global that this lock guards
abbrev pub IsGuardedBy : Env → (word lock : ℕ) → Type 0
IsGuardedBy e n l = (unit item first count : ℕ) × (e.entity unit item ≡ Some (shared first count (Some l))) ×
    (first ≤ n) × (n < first + count)

-- In each program of checked modules a thread that touches a word holds the lock that guards it, even if its step is
-- Bad.
abbrev pub TouchesAreGuarded : Type 0
TouchesAreGuarded = (modules : List TypedModuleTree) (entries : List (List ℕ)) → IsProgram modules entries →
    All IsChecked modules →
    (w : World) (i n : ℕ) (s : Step) → Reaches (env_of modules) (program_world modules entries) w →
    IsNext (env_of modules) w i s → Touches s n →
    (l : ℕ) × IsGuardedBy (env_of modules) n l × (slice_get w.holders l ≡ Some (Some i))

-- In each program of checked modules a thread that unlocks a lock holds it.
abbrev pub UnlocksAreOfHolders : Type 0
UnlocksAreOfHolders = (modules : List TypedModuleTree) (entries : List (List ℕ)) → IsProgram modules entries →
    All IsChecked modules →
    (w : World) (i l : ℕ) (s : Step) → Reaches (env_of modules) (program_world modules entries) w →
    IsNext (env_of modules) w i s → s.act ≡ act.Unlock l →
    slice_get w.holders l ≡ Some (Some i)
