-- Wrong translations in small, and machines that break a rule.
use Rattle.std.specs.Prelude.{ℕ, zero, suc, List, [], ◌∷◌, Some, None}
use Rattle.cas_base.specs.declared.decl.Unit.{Unit as UnitOf}
use Rattle.cas_runs.specs.Bounds.{ByForms}
use Rattle.cas_runs.specs.Machine.{Act, Quiet, Crosses, Receives, Machine}
use Rattle.cas_runs.specs.Access.{Accesses, Then}
use Rattle.cas_runs.specs.Unit.{Setting, laid_out}
use Rattle.cas_runs.specs.Calls.{Last, Puts, Activations, nothing_touched}
use Rattle.cas_trial.specs.declared.joining.Apart.{Apart}
use Rattle.cas_trial.specs.declared.joining.Joined.{Joined}
use Rattle.cas_trial.specs.declared.lowering.High.TheVariants as high
use Rattle.cas_trial.specs.declared.lowering.Low.TheVariants as low
use Rattle.cas_trial.specs.declared.lowering.HighFunction.{HighFunction}
use Rattle.cas_trial.specs.declared.lowering.LowFunction.{LowFunction}
use Rattle.cas_trial.specs.Lowering.Languages.{LowState, low_language}
use Rattle.cas_trial.specs.Fitting.{decls, globals, setting}
use Rattle.cas_trial.specs.Stages.{show_name, Stage, Loading, Tells, form, apart}

-- a unit of these functions, with the lock and the word of the trial's unit
abbrev pub unit_of : {F : Type 0} → List F → UnitOf F
unit_of fs = record { decls = decls; globals = globals; funs = fs }

-- the program whose variables are 3 and 7, with the two exchanged
abbrev pub swapped : Joined
swapped = record { cells = (7, 3) }

-- a target that puts out what it had stored in the variable before the call, and doesn't look what came back
abbrev pub caching_form : Stage → Accesses (Last Stage)
caching_form (Loading serial at) = Then (Puts 3 (Tells serial))
caching_form stage = form 1 0 stage

abbrev pub caching : Activations Apart Stage
caching = record apart { form = caching_form }

-- no function has an object
abbrev pub no_objects : Setting
no_objects = laid_out setting (λ function block. [])

-- a function that shows the word behind the lock
abbrev pub showing : HighFunction
showing = record { body = high.Take ∷ high.Show ∷ high.Give ∷ [] }

-- what puts its register out without reading the word
abbrev pub not_reading : LowFunction
not_reading = record { body = low.Take ∷ low.Put ∷ low.Give ∷ [] }

-- what reads it, at three times the price
abbrev pub reading : LowFunction
reading = record { body = low.Take ∷ low.Read ∷ low.Put ∷ low.Give ∷ [] }

abbrev pub dear : Activations LowFunction LowState
dear = record low_language { tariff = ByForms (λ state. 3) (λ state. []) 1 (λ f. 0) (λ f. 0) (λ f. []) }

-- a machine that calls at once, whatever it is that crosses
abbrev pub offering : Machine ℕ
offering = record {
  start = 0;
  act = λ n. Crosses (Some show_name) [] (λ names. Some 1);
  price = λ n. 1;
  footprint = λ n. nothing_touched;
  activations = λ n. [];
  called = λ n. Some show_name;
}

abbrev pub hiding_act : ℕ → Act ℕ
hiding_act zero = Receives (λ label. 1)
hiding_act (suc n) = Quiet 1

-- a machine that is entered and goes on, and tells of no activation
abbrev pub hiding : Machine ℕ
hiding = record {
  start = 0;
  act = hiding_act;
  price = λ n. 1;
  footprint = λ n. nothing_touched;
  activations = λ n. [];
  called = λ n. None;
}
