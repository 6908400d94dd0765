-- Small programs for the rows of Examples: their modules, and what running them comes to.
use Rattle.std.specs.Prelude.{ℕ, zero, suc, List, [], ◌∷◌, ◌++◌, Option, Some, None, slice_get, slice_index_or}
use Rattle.cas_base.specs.declared.act.Act.{Act}
use Rattle.cas_base.specs.declared.act.Act.TheVariants as act
use Rattle.cas_base.specs.declared.act.Why.{Why}
use Rattle.cas_base.specs.declared.kind.Kind.TheVariants.{I32}
use Rattle.cas_base.specs.declared.kind.Ty.{Ty}
use Rattle.cas_base.specs.declared.kind.Ty.TheVariants.{Void, Int}
use Rattle.cas_base.specs.declared.place.Place.{Place}
use Rattle.cas_typed.specs.Resolved as t
use Rattle.cas_typed.specs.Resolved.{TypedExprTree, TypedTargetTree, TypedStmtTree, TypedStmtOption, TypedStmtList}
use Rattle.cas_step.specs.Asks.{word}
use Rattle.cas_step.specs.Env.{Function, Entity, Env}
use Rattle.cas_step.specs.Step.{Config, Step, step, start}

-- a place of the first line
abbrev pub at : ℕ → Place
at col = record { line = 1; col = col }

abbrev pub stmts : List TypedStmtTree → TypedStmtList
stmts [] = t.no_more
stmts (a ∷ rest) = t.one_more a (stmts rest)

abbrev pub function_of : Ty → List Ty → List TypedStmtTree → Function
function_of ret locals body = record { ret = ret; locals = locals; body = stmts body; closing = at 99 }

-- modules of these functions, whose items stand for these
abbrev pub modules_of : List (List Function) → List (List Entity) → Env
modules_of fs es = record {
  function = λ f. slice_index_or (slice_index_or fs f.unit []) f.place (function_of Void [] []);
  entity = λ unit g. slice_get (slice_index_or es unit []) g;
  kinds = [];
}

-- one module of these functions, whose items stand for these
abbrev pub module_of : List Function → List Entity → Env
module_of fs es = modules_of (fs ∷ []) (es ∷ [])

abbrev pub number : ℕ → TypedExprTree
number n = t.literal n

abbrev pub int : TypedExprTree → TypedExprTree
int a = t.narrow I32 a

-- x = a; of a local integer
abbrev pub set : (column local : ℕ) → TypedExprTree → TypedStmtTree
set col n a = t.assign (at col) (t.to_local n) (int a)

-- p = a; of a local pointer
abbrev pub point : (column local : ℕ) → TypedExprTree → TypedStmtTree
point col n a = t.assign (at col) (t.to_local n) a

abbrev pub print : (column : ℕ) → TypedExprTree → TypedStmtTree
print col a = t.print (at col) (int a)

-- how a run ended: it ended, met a Bad step at a place, or continues
pub data End : Type 0 where
  ended : End
  bad : Why → (column : ℕ) → End
  runs_on : End

-- what a run came to: its end, what it output, and the words
pub record Outcome : Type 0 where
  pub end : End
  pub out : List ℕ
  pub words : List ℕ

abbrev pub outcome : End → List ℕ → List ℕ → Outcome
outcome end out ws = record { end = end; out = out; words = ws }

-- the outcome behind a step, by what continues
abbrev pub run_after : (List ℕ → Config → List ℕ → Outcome) → (out : List ℕ) → Step → Act → Outcome
run_after go out s (act.Bad why) = outcome (bad why s.place.col) out s.words
run_after go out s (act.Out m) = go s.words s.next (out ++ m ∷ [])
run_after go out s _ = go s.words s.next out

abbrev pub run_by : (List ℕ → Config → List ℕ → Outcome) → (words out : List ℕ) → Option Step → Outcome
run_by go ws out None = outcome ended out ws
run_by go ws out (Some s) = run_after go out s s.act

-- the outcome after at most so many steps
abbrev pub run : Env → (steps : ℕ) → (words : List ℕ) → Config → (out : List ℕ) → Outcome
run e zero ws c out = outcome runs_on out ws
run e (suc n) ws c out = run_by (run e n) ws out (step e ws c)

-- the first function of a module, run as thread 0 over these words
abbrev pub told : Env → List ℕ → Outcome
told e ws = run e 200 ws (start e (record { unit = 0; place = 0 }) (word 0 ∷ [])) []

-- the body of a thread's function with these locals after its parameter, in a module of this function and these others
abbrev pub thread : List Ty → List Function → List Entity → List TypedStmtTree → Outcome
thread locals others items body = told (module_of (function_of Void (Int I32 ∷ locals) body ∷ others) items) []

-- the places of the steps of a run, each by its module and column
abbrev pub places_by : (List ℕ → Config → List (ℕ × ℕ)) → Option Step → List (ℕ × ℕ)
places_by go None = []
places_by go (Some s) = (s.unit, s.place.col) ∷ go s.words s.next

abbrev pub places : Env → (steps : ℕ) → (words : List ℕ) → Config → List (ℕ × ℕ)
places e zero ws c = []
places e (suc n) ws c = places_by (places e n) (step e ws c)

-- those of the first function of the first module, run as thread 0 over these words
abbrev pub told_places : Env → List ℕ → List (ℕ × ℕ)
told_places e ws = places e 200 ws (start e (record { unit = 0; place = 0 }) (word 0 ∷ []))
