-- The plan of a command on the texts of its names: a refusal, or lines to print.
use Rattle.std.specs.Prelude.{◌≡◌, ◌⊎◌, ◌↔◌, ℕ, false, List, [], ◌∷◌, map, Some, slice_get}
use Rattle.cas_base.specs.declared.place.Place.{Place}
use Rattle.cas_command.specs.Words.{Command, Run, run, check, world}
use Rattle.cas_lex.specs.declared.code.ReadCode.{ReadCode}
use Rattle.cas_own.specs.Checked.{OwnFaultTree, HasOwnFault}
use Rattle.cas_program.specs.Program.{IsProgram, env_of}
use Rattle.cas_syntax.specs.Reading.{IsReadAs, HasReadFault}
use Rattle.cas_syntax.specs.Tree.{ModuleTree}
use Rattle.cas_typed.specs.Faults.{Fault}
use Rattle.cas_typed.specs.Modules.{IsTyped}
use Rattle.cas_typed.specs.Resolved.{TypedModuleTree}
use Rattle.cas_typed.specs.Walk.{HasTypeFault}
use Rattle.cas_world.specs.Races.{IsRaceFree, program_world}
use Rattle.cas_world.specs.World.{World, Interleaves, HasEnded}
use Rattle.cas_top.specs.Checked_module.{IsCheckedModule, IsCheckedText}
use Rattle.cas_top.specs.First_form.{is_first_form, IsFirstForm}
use Rattle.cas_top.specs.Machine.{Report, IsItemsCode, RunsTo}
use Rattle.cas_top.specs.Printed.{report_lines, fault_line, type_fault_line, own_fault_line, form_line, ok_line}
use Rattle.cas_top.specs.Worlds.{PrintsWorld, RefusesProgram}
use Rattle.cas_top.specs.declared.machine.End.{End}
use Rattle.cas_top.specs.declared.machine.End.TheVariants.{Done}
use Rattle.cas_top.specs.declared.machine.Instr.{Instr}
use Rattle.cas_top.specs.Status.{faulty_status, printed_status, unlinked_status}

-- a refusal, with its status and its line on `err`; or the lines for `out`, with the status after them
pub data Plan : Type 0 where
  refuses : (status : ℕ) → (line : List ℕ) → Plan
  prints : (status : ℕ) → (lines : List (List ℕ)) → Plan

-- by this list of how each thread ended, the thread is done
abbrev pub IsDone : List End → (thread : ℕ) → Type 0
IsDone ends i = slice_get ends i ≡ Some Done

-- by this list of how each thread ended, every thread is done
abbrev pub AreDone : List End → Type 0
AreDone [] = Unit {0}
AreDone (e ∷ ends) = (e ≡ Done) × AreDone ends

-- The report of a finished run of one thread at the function of this name, of the program of this module alone.
pub record IsFinished (resolved : TypedModuleTree) (thread : List ℕ) (report : Report) : Type 0 where
  -- of the machine, on the code that is generated for the module
  pub code : List Instr
  pub generated : IsItemsCode resolved.module_tree.items code
  pub machine : RunsTo code report
  pub done : AreDone report.ends
  -- of the program, which is race-free: an interleaving of it outputs the report's output, and there exactly the
  -- threads have ended that are done
  pub program : IsProgram (resolved ∷ []) (thread ∷ [])
  pub race_free : IsRaceFree (env_of (resolved ∷ [])) (program_world (resolved ∷ []) (thread ∷ []))
  pub threads : List ℕ
  pub world : World
  pub interleaving : Interleaves (env_of (resolved ∷ [])) (program_world (resolved ∷ []) (thread ∷ [])) threads world
  pub ended : (i : ℕ) → HasEnded world i ↔ IsDone report.ends i
  pub source : world.out ≡ report.out

-- the lines that a finished run of a module text of the first form prints, on one thread of this function
abbrev pub PrintsLines : (text thread : List ℕ) → (lines : List (List ℕ)) → Type 0
PrintsLines text thread lines =
    (resolved : TypedModuleTree) × IsFirstForm text thread resolved
    × (report : Report) × IsFinished resolved thread report × (lines ≡ report_lines report)

-- The line that refuses the module text of this name: of its first fault; of the first fault of typing of the module
-- that it is read as; or of the first fault of ownership of that module, typed.
pub data RefusesText (name text : List ℕ) : (line : List ℕ) → Type 0 where
  misread : (code : ReadCode) (p : Place) → HasReadFault text code p → RefusesText name text (fault_line name code p)
  untyped : (m : ModuleTree) (f : Fault) → IsReadAs text m → HasTypeFault m f →
      RefusesText name text (type_fault_line name f)
  unowned : (m : ModuleTree) (resolved : TypedModuleTree) (f : OwnFaultTree) → IsReadAs text m → IsTyped m resolved →
      HasOwnFault resolved f →
      RefusesText name text (own_fault_line name f)

-- The line that refuses to run a module text: that of its first fault, or `R0` of a checked module that isn't of the
-- first form.
pub data RefusesRun (r : Run) (text : List ℕ) : (line : List ℕ) → Type 0 where
  faulty : (line : List ℕ) → RefusesText r.source text line → RefusesRun r text line
  formless : (resolved : TypedModuleTree) → IsCheckedModule text resolved →
      is_first_form r.thread resolved.module_tree ≡ false →
      RefusesRun r text (form_line r.source)

-- each of these texts is that of a checked module
abbrev pub AreChecked : (texts : List (List ℕ)) → Type 0
AreChecked [] = Unit {0}
AreChecked (text ∷ texts) = IsCheckedText text × AreChecked texts

-- the line that refuses the first of these texts, with their names, that isn't that of a checked module
abbrev pub RefusesFirst : (names texts : List (List ℕ)) → (line : List ℕ) → Type 0
RefusesFirst (name ∷ names) (text ∷ texts) line =
    RefusesText name text line ⊎ (IsCheckedText text × RefusesFirst names texts line)
RefusesFirst names texts line = ⊥

-- the plan of a command on the texts of its names, in their order
abbrev pub Plans : Command → (texts : List (List ℕ)) → Plan → Type 0
Plans (run r) (source ∷ lock ∷ []) (prints status lines) = (status ≡ printed_status) × PrintsLines source r.thread lines
Plans (run r) (source ∷ lock ∷ []) (refuses status line) = (status ≡ faulty_status) × RefusesRun r source line
Plans (check names) texts (prints status lines) =
    (status ≡ printed_status) × AreChecked texts × (lines ≡ map ok_line names)
Plans (check names) texts (refuses status line) = (status ≡ faulty_status) × RefusesFirst names texts line
Plans (world w) texts (prints status lines) = (status ≡ printed_status) × PrintsWorld w texts lines
Plans (world w) texts (refuses status line) =
    ((status ≡ faulty_status) × RefusesFirst w.names texts line) ⊎
    ((status ≡ unlinked_status) × RefusesProgram w texts line)
Plans c texts plan = ⊥
