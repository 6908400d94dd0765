-- The machine that runs the first form: four instructions of IA-32 on one register, for one thread that
-- touches no memory.
use Rattle.std.specs.Prelude.{◌≡◌, ℕ, ◌+◌, List, [], ◌∷◌, ◌++◌, Option, Some, None, slice_get}
use Rattle.cas_base.specs.Word.{word_add}
use Rattle.cas_base.specs.declared.kind.Kind.TheVariants.{I32}
use Rattle.cas_syntax.specs.Tree.{ExprTree, literal, binary, StmtList, no_more, one_more, print, ItemTree, define}
use Rattle.cas_syntax.specs.declared.tree.BinaryOperator.TheVariants.{Add}
use Rattle.cas_top.specs.declared.machine.Instr.{Instr}
use Rattle.cas_top.specs.declared.machine.Instr.TheVariants.{MovEax, AddEax, OutEax, Ret}
use Rattle.cas_top.specs.declared.machine.End.{End}
use Rattle.cas_top.specs.declared.machine.End.TheVariants as end

-- the thread: its number, the place of its next instruction, its register, how it ended, and the output, words
-- with their thread
pub record State : Type 0 where
  pub thread : ℕ
  pub place : ℕ
  pub eax : ℕ
  pub end : Option End
  pub out : List (ℕ × ℕ)

-- the state after the instruction at the thread's place; it is Bad if the code has no such place
abbrev pub executed : Option Instr → State → State
executed (Some (MovEax i)) s = record s { place = s.place + 1; eax = i }
executed (Some (AddEax i)) s = record s { place = s.place + 1; eax = word_add s.eax i }
executed (Some OutEax) s = record s { place = s.place + 1; out = s.out ++ (s.thread, s.eax) ∷ [] }
executed (Some Ret) s = record s { end = Some end.Done }
executed None s = record s { end = Some end.Bad }

-- a run of the code from a state to another: a step as long as the thread has no end
pub data Runs (code : List Instr) : State → State → Type 0 where
  stays : (s : State) → Runs code s s
  steps : (s t : State) → s.end ≡ None → Runs code (executed (slice_get code s.place) s) t → Runs code s t

-- the start of a thread: its number is in the register
abbrev pub start : (thread : ℕ) → State
start thread = record { thread = thread; place = 0; eax = thread; end = None; out = [] }

-- what a run that has ended leaves: its outputs in order, words with their thread, and how each thread ended
pub record Report : Type 0 where
  pub out : List (ℕ × ℕ)
  pub ends : List End

-- a run of thread 0 alone ends, and this is its report
abbrev pub RunsTo : List Instr → Report → Type 0
RunsTo code report =
    (s : State) × Runs code (start 0) s × (e : End) × (s.end ≡ Some e) ×
    (report ≡ record { out = s.out; ends = e ∷ [] })

-- this code leaves the value of the expression, a sum of literals of `int`, in the register
pub data IsExprCode : ExprTree → List Instr → Type 0 where
  loads : (n : ℕ) → IsExprCode (literal n I32) (MovEax n ∷ [])
  adds : (sum : ExprTree) (code : List Instr) (n : ℕ) → IsExprCode sum code →
      IsExprCode (binary Add sum (literal n I32)) (code ++ AddEax n ∷ [])

-- this is the code of a body that prints one sum
abbrev pub IsBodyCode : StmtList → List Instr → Type 0
IsBodyCode (one_more (print at a) no_more) code =
    (sum : List Instr) × IsExprCode a sum × (code ≡ sum ++ OutEax ∷ Ret ∷ [])
IsBodyCode _ code = ⊥

-- this is the code of a module of one function that prints one sum
abbrev pub IsItemsCode : List ItemTree → List Instr → Type 0
IsItemsCode (define f ∷ []) code = IsBodyCode f.body code
IsItemsCode _ code = ⊥
