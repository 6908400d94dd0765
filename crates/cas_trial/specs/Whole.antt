-- A whole program of a table and two functions, `const unsigned g = 1; void f(void) { } void main(int me) { f();
-- print(g + ..); }`, an edge that fits it, and the labels of its thread.
use Rattle.std.specs.Prelude.{ℕ, ◌+◌, false, true, List, [], ◌∷◌, Option, Some, None, if◌then◌else◌}
use Rattle.cas_base.specs.declared.kind.Kind.TheVariants.{I32, U32}
use Rattle.cas_base.specs.declared.kind.Ty.TheVariants.{Void, Int}
use Rattle.cas_base.specs.declared.decl.Decl.{Decl}
use Rattle.cas_base.specs.declared.decl.Unit.{Unit as UnitOf}
use Rattle.cas_base.specs.declared.decl.Form.TheVariants as forms
use Rattle.cas_runs.specs.Label.{NameBytes, same_name, RunLabel, Out, Done}
use Rattle.cas_runs.specs.Edge.{Edge, TableWord, Words}
use Rattle.cas_runs.specs.Naming.{Value, Number}
use Rattle.cas_runs.specs.Bounds.{ByForms}
use Rattle.cas_runs.specs.Access.{Accesses, Reads, Then}
use Rattle.cas_runs.specs.Unit.{Setting}
use Rattle.cas_runs.specs.Calls.{Last, Puts, Calls, Returns, Activations}
use Rattle.cas_trial.specs.Stages.{main_name, global_name}

-- the name `f`
abbrev pub helper_name : NameBytes
helper_name = 102 ∷ []

pub data Routine : Type 0 where
  Main : Routine
  Helper : Routine

-- where an activation stands
pub data Point : Type 0 where
  AtCall : Point
  AtPrint : Point
  AtEnd : Point

abbrev pub routine_name : Routine → NameBytes
routine_name Main = main_name
routine_name Helper = helper_name

abbrev pub enters_routine : Routine → List Value → Option Point
enters_routine Main [] = None
enters_routine Main (v ∷ []) = Some AtCall
enters_routine Main (v ∷ w ∷ vs) = None
enters_routine Helper [] = Some AtEnd
enters_routine Helper (v ∷ vs) = None

-- the steps, where the table's word and this one more is put out
abbrev pub routine_form : ℕ → Point → Accesses (Last Point)
routine_form more AtCall = Then (Calls helper_name [] (λ values. Some AtPrint))
routine_form more AtPrint = Reads global_name 0 (λ word. Then (Puts (word + more) AtEnd))
routine_form more AtEnd = Then (Returns [])

abbrev pub routines : (more : ℕ) → Activations Routine Point
routines more = record {
  name = routine_name;
  blocks = λ f. [];
  first_word = Number 0;
  enter = λ f serial values. enters_routine f values;
  form = routine_form more;
  tariff = ByForms (λ a. 1) (λ a. []) 0 (λ f. 0) (λ f. 0) (λ f. 1 ∷ 1 ∷ 1 ∷ []);
}

abbrev pub table_decl : Decl
table_decl = record { name = global_name; form = forms.Table (Int U32); defined = true }

abbrev pub helper_decl : Decl
helper_decl = record { name = helper_name; form = forms.Function Void [] []; defined = true }

abbrev pub main_decl : Decl
main_decl = record { name = main_name; form = forms.Function Void (Int I32 ∷ []) []; defined = true }

-- its one unit
abbrev pub unit : UnitOf Routine
unit = record {
  decls = table_decl ∷ helper_decl ∷ main_decl ∷ [];
  globals =
      record { decl = table_decl; values = 1 ∷ [] } ∷ [];
  funs = Helper ∷ Main ∷ [];
}

abbrev pub program : List (UnitOf Routine)
program = unit ∷ []

-- the table is word 0
abbrev pub words : Words
words = λ name. if same_name name global_name then Some (record { first = 0; size = 1 }) else None

abbrev pub edge : Edge
edge = record {
  cells = TableWord 1 ∷ [];
  words = words;
  functions = record { name = helper_name; ret = Void; params = []; holds = []; inside = false }
      ∷ record { name = main_name; ret = Void; params = Int I32 ∷ []; holds = []; inside = false } ∷ [];
}

abbrev pub setting : Setting
setting = record {
  edge = edge;
  layout = λ function block. [];
  stack = record { address = 268435456; size = 16 };
  code = λ name. if same_name name main_name then record { first = 8; size = 16 } else record { first = 24; size = 16 };
  unknown = λ occasion place. 0;
}

abbrev pub labels : List RunLabel
labels = Done ∷ Out 1 ∷ []
