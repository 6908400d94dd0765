-- What the code's refusals and texts hold, as the definitions speak of them, and what its functions answer.
use Rattle.std.specs.Prelude.{◌≡◌, ◌<◌, ◌≤◌, ◌⊎◌, ⊤, ℕ, true, false, List, [], ◌∷◌, ◌++◌, length, map, Option, Some, None, Result, Ok, Err, codes}
use Rattle.std.specs.List.{list_all}
use Rattle.std.specs.declared.vec.Vec.{Vec}
use Rattle.std.specs.declared.alloc.Global.{Global}
use Rattle.cas_base.specs.Name.{is_name}
use Rattle.cas_outside.specs.Shelf.{TellsLonger}
use Rattle.cas_outside.specs.Sink.{TakesAll, TakesPrefix}
use Rattle.cas_command.specs.Words as words
use Rattle.cas_own.specs.Checked.{IsChecked}
use Rattle.cas_own.specs.declared.checked.Checked.{Checked}
use Rattle.cas_program.specs.Program.{env_of, units_of}
use Rattle.cas_settle.specs.Settle.{first_refusal}
use Rattle.cas_settle.specs.declared.link.LinkFault.{LinkFault}
use Rattle.cas_turn.specs.Joined.{typed_of}
use Rattle.cas_whole.specs.Program_of.{IsProgramOf}
use Rattle.cas_whole.specs.Whole.{AreTyped}
use Rattle.cas_whole.specs.declared.program.Program.{Program}
use Rattle.cas_world.specs.Races.{IsRaceFree, program_world}
use Rattle.cas_top.specs.Checked_module.{AreCheckedModules, IsCheckedText}
use Rattle.cas_top.specs.Worlds.{link_fault_line, PrintsWorld, RefusesProgram}
use Rattle.cas_top.specs.declared.refusal.ModuleFault.{ModuleFault}
use Rattle.cas_top.specs.declared.refusal.ModuleFault.TheVariants as fault
use Rattle.cas_top.specs.declared.refusal.Refusal.{Refusal}
use Rattle.cas_top.specs.declared.refusal.Refusal.TheVariants as refusal
use Rattle.cas_top.specs.declared.refusal.Status.{Status}
use Rattle.cas_top.specs.declared.refusal.Status.TheVariants as status
use Rattle.cas_top.specs.declared.source.Source.{Source}
use Rattle.cas_top.specs.Answer.{Told, Taken, IsRefusal, IsFirstLong, IsFirstUnread, AreRead, IsCut, IsPartly, IsPrinted, IsRead, IsFailed, IsTried}
use Rattle.cas_top.specs.First_form.{is_sum, is_first_form}
use Rattle.cas_top.specs.Machine.{Report, IsExprCode}
use Rattle.cas_top.specs.declared.machine.Instr.{Instr}
use Rattle.cas_top.specs.declared.machine.Instr.TheVariants.{OutEax, Ret}
use Rattle.cas_top.specs.Plan.{IsFinished, PrintsLines, RefusesText, RefusesRun, RefusesFirst, AreChecked}
use Rattle.cas_syntax.specs.Reading.{IsReadAs}
use Rattle.cas_syntax.specs.Tree.{ExprTree, ModuleTree, module_tree}
use Rattle.cas_syntax.specs.declared.tree.Module.{Module}
use Rattle.cas_typed.specs.Faults as type
use Rattle.cas_typed.specs.Modules.{IsTyped}
use Rattle.cas_typed.specs.Resolved.{TypedModuleTree}
use Rattle.cas_typed.specs.Typed_as.{IsTypedAs}
use Rattle.cas_typed.specs.declared.typed.Typed.{Typed}
use Rattle.cas_top.specs.Printed.{line_of, fault_line, type_fault_line, own_fault_line, form_line, ok_line, report_lines}
use Rattle.cas_top.specs.Status.{faulty_status, memory_status, too_long_status, unlinked_status, unread_status, unwritten_status, usage_status}

-- the names of texts that were read, and the texts
abbrev pub names_of : List Source → List (List ℕ)
names_of sources = map (λ s. s.name.now) sources

abbrev pub texts_of : List Source → List (List ℕ)
texts_of sources = map (λ s. s.text.items) sources

-- the wanted text was read, or this is why not; the shelf's failed names before and after
abbrev pub IsFetched : Told → words.Wanted → (before after : List (List ℕ)) → Result (Vec ℕ Global) Refusal → Type 0
IsFetched told w before after (Ok text) = IsRead told w text.items × (after ≡ before)
IsFetched told w before after (Err (refusal.Unread n)) = (n.now ≡ w.name) × (after ≡ before ++ w.name ∷ [])
IsFetched told w before after (Err (refusal.TooLong n)) =
    (n.now ≡ w.name) × TellsLonger told w.name w.limit × (after ≡ before)
IsFetched told w before after (Err refusal.Memory) = after ≡ before
IsFetched told w before after (Err r) = ⊥

-- the text of this name was read, or this is why not
abbrev pub IsSource : Told → (name : List ℕ) → (before after : List (List ℕ)) → Result Source Refusal → Type 0
IsSource told name before after (Ok source) =
    (source.name.now ≡ name) × IsRead told (words.source_text name) source.text.items × (after ≡ before)
IsSource told name before after (Err (refusal.Unread n)) = (n.now ≡ name) × (after ≡ before ++ name ∷ [])
IsSource told name before after (Err (refusal.TooLong n)) =
    (n.now ≡ name) × TellsLonger told name words.source_limit × (after ≡ before)
IsSource told name before after (Err refusal.Memory) = after ≡ before
IsSource told name before after (Err r) = ⊥

-- the texts of these names were read, or this is why not
abbrev pub AreSources : Told → (names : List (List ℕ)) → (before after : List (List ℕ)) →
    Result (Vec Source Global) Refusal → Type 0
AreSources told names before after (Ok sources) =
    (names_of sources.items ≡ names) × AreRead told (map words.source_text names) (texts_of sources.items) ×
    (after ≡ before)
AreSources told names before after (Err (refusal.Unread n)) =
    IsFirstUnread told (map words.source_text names) n.now × (after ≡ before ++ n.now ∷ [])
AreSources told names before after (Err (refusal.TooLong n)) =
    IsFirstLong told (map words.source_text names) n.now × (after ≡ before)
AreSources told names before after (Err refusal.Memory) = after ≡ before
AreSources told names before after (Err r) = ⊥

-- all of the text was put, or a first part of it
abbrev pub IsPutLines : (old : Taken) → (text : List ℕ) → (new : Taken) → Result (Unit {0}) Refusal → Type 0
IsPutLines old text new (Ok done) = TakesAll old text new
IsPutLines old text new (Err refusal.Unwritten) = TakesPrefix old text new
IsPutLines old text new (Err refusal.Memory) = TakesPrefix old text new
IsPutLines old text new (Err r) = ⊥

-- the line of a module's fault
abbrev pub module_line : (name : List ℕ) → ModuleFault → List ℕ
module_line name (fault.Misread code p) = fault_line name code p
module_line name (fault.Untyped code p kept) = type_fault_line name (type.fault code p kept)
module_line name (fault.Excessive p what counted) = type_fault_line name (type.limit p what counted)
module_line name (fault.Unowned code p lock) = own_fault_line name (record { code = code; place = p; lock = lock })
module_line name fault.Formless = form_line name

-- the module that the text of this name is read as, or why there is none
abbrev pub IsReadText : (name text : List ℕ) → Result Module Refusal → Type 0
IsReadText name text (Ok m) = IsReadAs text (module_tree m)
IsReadText name text (Err (refusal.Faulty n f)) = RefusesText name text (module_line n.now f)
IsReadText name text (Err refusal.Memory) = Unit {0}
IsReadText name text (Err other) = ⊥

-- the typed module that the text of this name is read as, or why there is none
abbrev pub IsTypedText : (name text : List ℕ) → Result Typed Refusal → Type 0
IsTypedText name text (Ok typed) = (m : ModuleTree) × (t : TypedModuleTree) × IsReadAs text m × IsTypedAs typed t ×
    IsTyped m t
IsTypedText name text (Err (refusal.Faulty n f)) = RefusesText name text (module_line n.now f)
IsTypedText name text (Err refusal.Memory) = Unit {0}
IsTypedText name text (Err other) = ⊥

-- the checked module that the text of this name is read as, or why there is none
abbrev pub IsCheckedAs : (name text : List ℕ) → Result Checked Refusal → Type 0
IsCheckedAs name text (Ok checked) =
    (m : ModuleTree) × (t : TypedModuleTree) × IsReadAs text m × IsTypedAs checked.typed t × IsTyped m t × IsChecked t
IsCheckedAs name text (Err (refusal.Faulty n f)) = RefusesText name text (module_line n.now f)
IsCheckedAs name text (Err refusal.Memory) = Unit {0}
IsCheckedAs name text (Err other) = ⊥

-- the lines that a run of a module text prints, or why it prints none
abbrev pub IsShown : words.Run → (text : List ℕ) → Result (Vec (List ℕ) Global) Refusal → Type 0
IsShown r text (Ok lines) = PrintsLines text r.thread lines.items
IsShown r text (Err (refusal.Faulty n f)) = RefusesRun r text (module_line n.now f)
IsShown r text (Err refusal.Memory) = Unit {0}
IsShown r text (Err other) = ⊥

-- the code of a sum, if the expression is one
abbrev pub IsSumCode : ExprTree → Option (Vec Instr Global) → Type 0
IsSumCode a None = is_sum a ≡ false
IsSumCode a (Some code) = (is_sum a ≡ true) × IsExprCode a code.items

-- the code that outputs the value of an expression and ends, if it is a sum
abbrev pub IsPrintCode : ExprTree → Option (Vec Instr Global) → Type 0
IsPrintCode a None = is_sum a ≡ false
IsPrintCode a (Some code) = (is_sum a ≡ true) × (sum : List Instr) × IsExprCode a sum ×
    (code.items ≡ sum ++ OutEax ∷ Ret ∷ [])

-- the module is of the first form, and these are the lines of a finished run of it on one thread of this function
abbrev pub IsRun : TypedModuleTree → (thread : List ℕ) → (lines : List (List ℕ)) → Type 0
IsRun resolved thread lines =
    (is_first_form thread resolved.module_tree ≡ true)
    × (report : Report) × IsFinished resolved thread report × (lines ≡ report_lines report)

-- the text of this name is of a checked module, or this is why not
abbrev pub IsCheckedSource : (name text : List ℕ) → Result (Unit {0}) Refusal → Type 0
IsCheckedSource name text (Ok done) = IsCheckedText text
IsCheckedSource name text (Err (refusal.Faulty n f)) = RefusesText name text (module_line n.now f)
IsCheckedSource name text (Err refusal.Memory) = Unit {0}
IsCheckedSource name text (Err other) = ⊥

-- all texts of these names are of checked modules, or this is why not
abbrev pub AreAllChecked : (names texts : List (List ℕ)) → Result (Unit {0}) Refusal → Type 0
AreAllChecked names texts (Ok done) = AreChecked texts
AreAllChecked names texts (Err (refusal.Faulty n f)) = RefusesFirst names texts (module_line n.now f)
AreAllChecked names texts (Err refusal.Memory) = Unit {0}
AreAllChecked names texts (Err other) = ⊥

-- the lines that the check of these texts prints, or why it prints none
abbrev pub AreOkLines : (names texts : List (List ℕ)) → Result (Vec (List ℕ) Global) Refusal → Type 0
AreOkLines names texts (Ok lines) = AreChecked texts × (lines.items ≡ map ok_line names)
AreOkLines names texts (Err (refusal.Faulty n f)) = RefusesFirst names texts (module_line n.now f)
AreOkLines names texts (Err refusal.Memory) = Unit {0}
AreOkLines names texts (Err other) = ⊥

-- the functions of the threads are names, and there are few of them and of modules
pub record IsWithin (w : words.World) : Type 0 where
  pub named : list_all is_name w.threads ≡ true
  pub few_threads : length w.threads ≤ 64
  pub few_names : length w.names ≤ 64

-- what the words of a command say of it
abbrev pub IsGiven : words.Command → Type 0
IsGiven (words.run r) = ⊤
IsGiven (words.check names) = ⊤
IsGiven (words.world w) = IsWithin w

-- the checked modules that all texts of these names are read as, or why there are none
abbrev pub AreModules : (names texts : List (List ℕ)) → Result (Vec Checked Global) Refusal → Type 0
AreModules names texts (Ok modules) = (ms : List TypedModuleTree) × AreCheckedModules texts ms ×
    AreTyped (typed_of modules.items) ms
AreModules names texts (Err (refusal.Faulty n f)) = RefusesFirst names texts (module_line n.now f)
AreModules names texts (Err refusal.Memory) = ⊤
AreModules names texts (Err other) = ⊥

-- the refusal of modules that are no program
abbrev pub IsUnlinked : LinkFault → Refusal → Type 0
IsUnlinked f (refusal.Unlinked line) = link_fault_line f ≡ Some line
IsUnlinked f refusal.Memory = ⊤
IsUnlinked f other = ⊥

-- the program of these modules, which is race-free, whose threads begin at the functions of these names, or why
-- there is none
abbrev pub IsJoined : List TypedModuleTree → (names : List (List ℕ)) → Result Program Refusal → Type 0
IsJoined ms names (Ok made) = IsProgramOf made ms names × IsRaceFree (env_of ms) (program_world ms names)
IsJoined ms names (Err (refusal.Unlinked line)) =
    (f : LinkFault) × (first_refusal (units_of ms) names ≡ Some f) × (link_fault_line f ≡ Some line)
IsJoined ms names (Err refusal.Memory) = ⊤
IsJoined ms names (Err other) = ⊥

-- the lines that `world` prints on these texts, or why it prints none
abbrev pub IsWorldShown : words.World → (names texts : List (List ℕ)) → Result (Vec (List ℕ) Global) Refusal → Type 0
IsWorldShown w names texts (Ok lines) = PrintsWorld w texts lines.items
IsWorldShown w names texts (Err (refusal.Faulty n f)) = RefusesFirst names texts (module_line n.now f)
IsWorldShown w names texts (Err (refusal.Unlinked line)) = RefusesProgram w texts line
IsWorldShown w names texts (Err refusal.Memory) = ⊤
IsWorldShown w names texts (Err other) = ⊥

-- why the work of a command ended so: the shelf's failed names and what `out` took, before and after
abbrev pub IsCause : Told → words.Command → (before after : List (List ℕ)) → (old new : Taken) → Refusal → Type 0
IsCause told c before after old new refusal.Usage = ⊥
IsCause told c before after old new (refusal.Unread name) = IsFailed told c before after name.now × (new ≡ old)
IsCause told c before after old new (refusal.TooLong name) =
    IsFirstLong told (words.wanted_texts c) name.now × (after ≡ before) × (new ≡ old)
IsCause told c before after old new (refusal.Faulty name f) =
    IsRefusal told c 1 (module_line name.now f) × (after ≡ before) × (new ≡ old)
IsCause told c before after old new (refusal.Unlinked line) = IsRefusal told c 5 line × (after ≡ before) × (new ≡ old)
IsCause told c before after old new refusal.Unwritten = IsPartly told (Some c) old new × (after ≡ before)
IsCause told c before after old new refusal.Memory = IsCut told (Some c) old new × (after ≡ before)

-- how the work of a command ended: all was printed, or a refusal with its cause
abbrev pub IsEnd : Told → words.Command → (before after : List (List ℕ)) → (old new : Taken) →
    Result (Unit {0}) Refusal → Type 0
IsEnd told c before after old new (Ok done) = IsPrinted told (Some c) 0 old new × (after ≡ before)
IsEnd told c before after old new (Err r) = IsCause told c before after old new r

-- the count of faults of `out` rises if a put failed, and else stays
abbrev pub Counts : (before now : ℕ) → Result (Unit {0}) Refusal → Type 0
Counts before now (Ok done) = now ≡ before
Counts before now (Err refusal.Unwritten) = before < now
Counts before now (Err r) = now ≡ before

-- the number of a status
abbrev pub status_number : Status → ℕ
status_number status.Faulty = faulty_status
status_number status.Usage = usage_status
status_number status.Unread = unread_status
status_number status.Unwritten = unwritten_status
status_number status.Unlinked = unlinked_status
status_number status.Memory = memory_status
status_number status.TooLong = too_long_status

-- `err` was told a refusal by its line: the status is its own and the line was taken; or the put failed and the
-- status is 4; or there was no memory for the line, the status is 9, and the line for that was tried
abbrev pub IsTold : (status : ℕ) → (line : List ℕ) → (before now : ℕ) → (old new : Taken) → (answer : ℕ) → Type 0
IsTold status line before now old new answer =
    ((answer ≡ status) × (now ≡ before) × TakesAll old line new)
    ⊎ ((answer ≡ unwritten_status) × (before < now) × TakesPrefix old line new)
    ⊎ ((answer ≡ memory_status) × IsTried (line_of (codes "cascc: memory")) before now old new)

-- `err` was told this refusal. The lines for a put of `out` that failed and for running out of memory are tried once,
-- whatever becomes of them
abbrev pub IsSaid : Refusal → (before now : ℕ) → (old new : Taken) → (answer : ℕ) → Type 0
IsSaid refusal.Unwritten before now old new answer =
    (answer ≡ unwritten_status) × IsTried (line_of (codes "cascc: cannot write")) before now old new
IsSaid refusal.Memory before now old new answer =
    (answer ≡ memory_status) × IsTried (line_of (codes "cascc: memory")) before now old new
IsSaid refusal.Usage before now old new answer = IsTold 2 (line_of (codes "cascc: usage")) before now old new answer
IsSaid (refusal.Unread name) before now old new answer =
    IsTold 3 (line_of (codes "cascc: cannot read " ++ name.now)) before now old new answer
IsSaid (refusal.TooLong name) before now old new answer =
    IsTold 12 (line_of (codes "cascc: too long " ++ name.now)) before now old new answer
IsSaid (refusal.Faulty name f) before now old new answer = IsTold 1 (module_line name.now f) before now old new answer
IsSaid (refusal.Unlinked line) before now old new answer = IsTold 5 line before now old new answer
