-- The plan of `world`: a refusal of modules and threads that are no program; or the lines of the world after the turns.
use Rattle.std.specs.Prelude.{◌≡◌, ℕ, ◌==◌, ◌&&◌, List, [], ◌++◌, length, map, replicate, Option, Some, None, slice_get, codes}
use Rattle.std.specs.Fmt.{decimal}
use Rattle.std.specs.List.{find, flat_map}
use Rattle.std.specs.Option.{option_map, option_map_or}
use Rattle.cas_base.specs.Print.{decl_text}
use Rattle.cas_base.specs.declared.act.Why.{Why}
use Rattle.cas_base.specs.declared.act.Why.TheVariants as why
use Rattle.cas_command.specs.Words as words
use Rattle.cas_command.specs.Words.{Turns}
use Rattle.cas_program.specs.Program.{IsProgram, env_of, units_of}
use Rattle.cas_settle.specs.Count.{count_text}
use Rattle.cas_settle.specs.Settle.{cells_of, first_refusal}
use Rattle.cas_settle.specs.declared.link.CellRow.{CellRow}
use Rattle.cas_settle.specs.declared.link.LinkFault.{LinkFault}
use Rattle.cas_settle.specs.declared.link.LinkFault.TheVariants as fault
use Rattle.cas_step.specs.Env.{Env}
use Rattle.cas_turn.specs.Answers.{state_shown}
use Rattle.cas_turn.specs.declared.answer.ThreadState.{ThreadState}
use Rattle.cas_turn.specs.declared.answer.ThreadState.TheVariants as stands
use Rattle.cas_typed.specs.Resolved.{TypedModuleTree}
use Rattle.cas_world.specs.Races.{IsRaceFree, program_world}
use Rattle.cas_world.specs.Turns.{turns, rounds, state_of, threads_from}
use Rattle.cas_world.specs.World.{World, Reaches}
use Rattle.cas_top.specs.Checked_module.{AreCheckedModules}
use Rattle.cas_top.specs.Printed.{line_of, out_line}

-- a refusal of a program in words: `L1 NAME`, `L2 NAME`, `L3 NAME: DEFINED | DECLARED`, `L4 NAME: FOUND` or `L5 WORD
-- N`. Running out of memory is no refusal of a program, and has none
abbrev pub link_words : LinkFault → Option (List ℕ)
link_words (fault.NotDefined name) = Some (codes "L1 " ++ name)
link_words (fault.Twice name) = Some (codes "L2 " ++ name)
link_words (fault.Differ name defined declared) =
    Some (codes "L3 " ++ name ++ codes ": " ++ decl_text defined ++ codes " | " ++ decl_text declared)
link_words (fault.Entry name found) = Some (codes "L4 " ++ name ++ codes ": " ++ decl_text found)
link_words (fault.Limit what counted) = Some (codes "L5 " ++ count_text what ++ codes " " ++ decimal counted)
link_words fault.Memory = None

-- `cascc: ` and the refusal
abbrev pub link_fault_line : LinkFault → Option (List ℕ)
link_fault_line f = option_map (λ words. line_of (codes "cascc: " ++ words)) (link_words f)

-- why a step is Bad, in words
abbrev pub why_words : Why → List ℕ
why_words why.DivZero = codes "division by zero"
why_words why.DivRange = codes "division out of range"
why_words why.Index = codes "index out of range"
why_words why.Null = codes "null pointer"
why_words why.Dead = codes "dead local"
why_words why.Across = codes "pointers across objects"

-- what is printed for a name that doesn't exist; in a program each name exists
abbrev pub unknown_name : List ℕ
unknown_name = codes "?"

-- the name of the lock with this word
abbrev pub lock_name : List CellRow → (word : ℕ) → List ℕ
lock_name cells n = option_map_or (λ row. row.name) (find (λ row. row.lock && (row.first == n)) cells) unknown_name

-- the name of the module with this number, as the words have it
abbrev pub module_name : (names : List (List ℕ)) → (unit : ℕ) → List ℕ
module_name names n = option_map_or (λ name. name) (slice_get names n) unknown_name

-- the state of a thread, in words
abbrev pub state_words : (names : List (List ℕ)) → List CellRow → ThreadState → List ℕ
state_words names cells stands.Running = codes "running"
state_words names cells stands.Ended = codes "ended"
state_words names cells (stands.Waits l holder) =
    codes "waits " ++ lock_name cells l ++ codes " holder " ++ decimal holder
state_words names cells (stands.Bad w unit p) =
    codes "bad " ++ why_words w ++ codes " " ++ module_name names unit ++ codes ":" ++ decimal p.line ++ codes ":" ++
    decimal p.col

-- `thread K STATE`
abbrev pub state_line : (names : List (List ℕ)) → List CellRow → (thread : ℕ) → ThreadState → List ℕ
state_line names cells i s = line_of (codes "thread " ++ decimal i ++ codes " " ++ state_words names cells s)

-- the line of a thread of a world of these modules
abbrev pub thread_line : (names : List (List ℕ)) → List TypedModuleTree → World → (thread : ℕ) → List ℕ
thread_line names modules w i = state_line names (cells_of (units_of modules)) i
    (state_shown (state_of (env_of modules) w i))

-- the lines of a world: its outputs in order, and then a line for each thread
abbrev pub world_lines : (names : List (List ℕ)) → List TypedModuleTree → World → List (List ℕ)
world_lines names modules w = map out_line w.out ++ map (thread_line names modules w)
    (threads_from 0 (length w.threads))

-- the turns of a schedule one by one: those of an item are as many of its thread as it says
abbrev pub turns_of : (items : List (ℕ × ℕ)) → List ℕ
turns_of items = flat_map (λ item. replicate item.1 item.0) items

-- the world after the turns of a command, from this one on
abbrev pub turned : Env → Turns → World → World
turned e (words.schedule items) w = turns e w (turns_of items)
turned e (words.rounds count) w = rounds e w count

-- The texts are checked and a program, which is race-free, and these are the lines of the world that the turns come
-- to from its first, which some interleaving reaches.
pub record PrintsWorld (w : words.World) (texts : List (List ℕ)) (lines : List (List ℕ)) : Type 0 where
  pub modules : List TypedModuleTree
  pub read : AreCheckedModules texts modules
  pub program : IsProgram modules w.threads
  pub race_free : IsRaceFree (env_of modules) (program_world modules w.threads)
  pub reached : Reaches (env_of modules) (program_world modules w.threads)
      (turned (env_of modules) w.turns (program_world modules w.threads))
  pub whole : lines ≡ world_lines w.names modules (turned (env_of modules) w.turns (program_world modules w.threads))

-- The texts are checked but no program, and this is the line of what is first refused.
pub record RefusesProgram (w : words.World) (texts : List (List ℕ)) (line : List ℕ) : Type 0 where
  pub modules : List TypedModuleTree
  pub read : AreCheckedModules texts modules
  pub fault : LinkFault
  pub refused : first_refusal (units_of modules) w.threads ≡ Some fault
  pub told : link_fault_line fault ≡ Some line
