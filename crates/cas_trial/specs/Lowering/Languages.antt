-- Two small languages of lists of instructions. In the one the word behind the lock is shown in one step; in the
-- other it is read into a register first, and then put out. Only the first has an instruction that does nothing.
use Rattle.std.specs.Prelude.{ℕ, List, [], ◌∷◌, Option, Some, None}
use Rattle.cas_runs.specs.Naming.{Value, Number}
use Rattle.cas_runs.specs.Bounds.{ByForms}
use Rattle.cas_runs.specs.Access.{Accesses, Reads, Then}
use Rattle.cas_runs.specs.Calls.{Last, Goes, Takes, Gives, Puts, Returns, Activations}
use Rattle.cas_trial.specs.declared.lowering.High.{High}
use Rattle.cas_trial.specs.declared.lowering.High.TheVariants as high
use Rattle.cas_trial.specs.declared.lowering.Low.{Low}
use Rattle.cas_trial.specs.declared.lowering.Low.TheVariants as low
use Rattle.cas_trial.specs.declared.lowering.HighFunction.{HighFunction}
use Rattle.cas_trial.specs.declared.lowering.LowFunction.{LowFunction}
use Rattle.cas_trial.specs.Stages.{main_name, lock_name, global_name}

-- a function of either language has no parameters
abbrev pub enters_at : {A : Type 0} → A → List Value → Option A
enters_at a [] = Some a
enters_at a (v ∷ vs) = None

-- the instructions that are left
abbrev pub high_form : List High → Accesses (Last (List High))
high_form [] = Then (Returns [])
high_form (high.Skip ∷ rest) = Then (Goes rest)
high_form (high.Take ∷ rest) = Then (Takes lock_name rest)
high_form (high.Show ∷ rest) = Reads global_name 0 (λ word. Then (Puts word rest))
high_form (high.Give ∷ rest) = Then (Gives lock_name rest)

-- each instruction costs 2
abbrev pub two_each : List High → List ℕ
two_each [] = []
two_each (i ∷ rest) = 2 ∷ two_each rest

abbrev pub high_language : Activations HighFunction (List High)
high_language = record {
  name = λ f. main_name;
  blocks = λ f. [];
  first_word = Number 0;
  enter = λ f serial values. enters_at f.body values;
  form = high_form;
  tariff = ByForms (λ rest. 2) (λ rest. []) 1 (λ f. 0) (λ f. 0) (λ f. two_each f.body);
}

-- the word in the register, and the instructions that are left
pub record LowState : Type 0 where
  pub register : ℕ
  pub rest : List Low

abbrev pub low_at : ℕ → List Low → LowState
low_at register rest = record { register = register; rest = rest }

abbrev pub low_by : ℕ → List Low → Accesses (Last LowState)
low_by register [] = Then (Returns [])
low_by register (low.Take ∷ rest) = Then (Takes lock_name (low_at register rest))
low_by register (low.Read ∷ rest) = Reads global_name 0 (λ word. Then (Goes (low_at word rest)))
low_by register (low.Put ∷ rest) = Then (Puts register (low_at register rest))
low_by register (low.Give ∷ rest) = Then (Gives lock_name (low_at register rest))

-- each instruction costs 1
abbrev pub one_each : List Low → List ℕ
one_each [] = []
one_each (i ∷ rest) = 1 ∷ one_each rest

abbrev pub low_language : Activations LowFunction LowState
low_language = record {
  name = λ f. main_name;
  blocks = λ f. [];
  first_word = Number 0;
  enter = λ f serial values. enters_at (low_at 0 f.body) values;
  form = λ state. low_by state.register state.rest;
  tariff = ByForms (λ state. 1) (λ state. []) 1 (λ f. 0) (λ f. 0) (λ f. one_each f.body);
}
