-- A program as worlds have it and as label runs have it, and when a world agrees with labels of all threads.
use Rattle.std.specs.Prelude.{◌≡◌, ℕ, ◌^◌, ◌<◌, ◌≤◌, List, [], Option, Some, None, All, slice_get, length, reverse}
use Rattle.cas_base.specs.declared.kind.Kind.{Kind}
use Rattle.cas_own.specs.Checked.{IsChecked}
use Rattle.cas_program.specs.Program.{IsProgram, env_of, entries_of, initial_words}
use Rattle.cas_step.specs.Step.{Config}
use Rattle.cas_step.specs.Env.{FunctionAt}
use Rattle.cas_typed.specs.Resolved.{TypedModuleTree}
use Rattle.cas_world.specs.Races.{program_world}
use Rattle.cas_world.specs.World.{World, Reaches}
use Rattle.cas_runs.specs.Label.{NameBytes, RunLabel}
use Rattle.cas_runs.specs.Edge.{Cell, LockWord, SharedWord, TableWord, Edge}
use Rattle.cas_runs.specs.Machine.{Machine, Block, Run}
use Rattle.cas_runs.specs.Legal.{ThreadLabel, Free, state_of, IsLegal, projection}
use Rattle.cas_runs.specs.Calls.{Thread, language}
use Rattle.cas_runs.specs.Unit.{Setting, IsLayout}
use Rattle.cas_atomic.specs.Labels.{outs_of}
use Rattle.cas_clight.specs.Clight.{ClightFun, ClightState, clight}
use Rattle.cas_bridge.specs.Threads.{Program, IsPresented, IsEntryAt, MatchThreads, AreWordsOf}
use Rattle.cas_together.specs.Holder.{holder}

-- a program: its modules, the names of its entries, its functions of Clight, its edge, and for each thread the setting
-- in which it runs, at that edge
pub record Threads : Type 0 where
  pub modules : List TypedModuleTree
  pub entries : List NameBytes
  pub functions : List ClightFun
  pub edge : Edge
  pub settings : ℕ → Setting

abbrev pub setting_of : Threads → (thread : ℕ) → Setting
setting_of r i = record (r.settings i) { edge = r.edge }

-- the program, as its i-th thread has it
abbrev pub program_of : Threads → (thread : ℕ) → Program
program_of r i = record {
  modules = r.modules;
  env = env_of r.modules;
  setting = setting_of r i;
  functions = r.functions;
}

abbrev pub name_in : Option NameBytes → NameBytes
name_in None = []
name_in (Some name) = name

abbrev pub entry_of : Threads → (thread : ℕ) → NameBytes
entry_of r i = name_in (slice_get r.entries i)

-- the state of a thread over label runs, and the thread
abbrev pub State : Type 0
State = Thread ClightFun ClightState

abbrev pub machine_of : Threads → (thread : ℕ) → Machine State
machine_of r i = (language clight).thread (setting_of r i) r.functions (entry_of r i) i

-- the words are at first what the edge says
pub record AreFirst (cells : List Cell) (words : List ℕ) : Type 0 where
  pub shared_ones : (n initial : ℕ) (kind : Kind) (guard : Option ℕ) →
      slice_get cells n ≡ Some (SharedWord kind guard initial) → slice_get words n ≡ Some initial
  pub tables : (n value : ℕ) → slice_get cells n ≡ Some (TableWord value) → slice_get words n ≡ Some value

-- the modules are a checked program with these entries, presented at the edge
pub record AreThreads (r : Threads) : Type 0 where
  pub is_program : IsProgram r.modules r.entries
  pub checked : All IsChecked r.modules
  pub few : length r.entries ≤ 2 ^ 32
  pub presented : (i : ℕ) → IsPresented (program_of r i)
  pub entries_are : (i : ℕ) (f : FunctionAt) → slice_get (entries_of r.modules r.entries) i ≡ Some f →
      IsEntryAt (program_of r i) f (entry_of r i)
  pub words_are : AreFirst r.edge.cells (initial_words r.modules)
  pub laid : (i : ℕ) → IsLayout (language clight) r.functions (setting_of r i).layout

abbrev pub first_of : Threads → World
first_of r = program_world r.modules r.entries

-- a run with these labels stands there
abbrev pub StandsAt : {S : Type 0} → Edge → Machine S → List RunLabel → S → Type 0
StandsAt edge m ls y = (bs : List Block) × (b : Block) × Run edge m ls bs b y

-- both threads are at the same in the world
pub record IsAlike (r : Threads) (w : World) (i : ℕ) (y : State) : Type 0 where
  pub config : Config
  pub there : slice_get w.threads i ≡ Some config
  pub alike : MatchThreads (program_of r i) config w.words y

-- The world agrees with labels, and with where the threads' runs stand: it is reached; each thread is at the same over
-- its share, so a lock's words are there in its holder's share; a lock has the holder that the labels tell; a free
-- lock's words are those that the labels left; and the output is theirs.
pub record Agrees (r : Threads) (w : World) (ls : List ThreadLabel) (ys : ℕ → State) : Type 0 where
  pub reached : Reaches (env_of r.modules) (first_of r) w
  pub legal : IsLegal r.edge.cells (length r.entries) ls
  pub threads : (i : ℕ) → i < length r.entries → StandsAt r.edge (machine_of r i) (projection i ls) (ys i)
      × IsAlike r w i (ys i)
  pub holders : (lock : ℕ) (h : Option ℕ) → slice_get w.holders lock ≡ Some h → h ≡ holder lock ls
  pub free : (lock : ℕ) (words : List ℕ) → slice_get r.edge.cells lock ≡ Some LockWord →
      state_of r.edge.cells lock ls ≡ Free words → AreWordsOf r.edge.cells lock words w.words
  pub out : w.out ≡ reverse (outs_of ls)
