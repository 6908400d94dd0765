-- Two small languages without blocks of memory. A program's function `main` calls `show` with a word and returns its
-- result, or nothing: by a call and a return, or by a tail call.
use Rattle.std.specs.Prelude.{ℕ, List, [], ◌∷◌, Option, Some, None}
use Rattle.cas_runs.specs.Naming.{Value, Number}
use Rattle.cas_runs.specs.Bounds.{ByForms}
use Rattle.cas_runs.specs.Access.{Accesses, Then}
use Rattle.cas_runs.specs.Calls.{Last, Calls, Tails, Returns, Activations}
use Rattle.cas_trial.specs.declared.tailing.Relayed.{Relayed}
use Rattle.cas_trial.specs.declared.tailing.Relaying.{Relaying}
use Rattle.cas_trial.specs.Stages.{main_name, show_name}

-- where an activation stands: at its call, or with the result
pub data Relay : Type 0 where
  Begins : (word : ℕ) → Relay
  Hands : (values : List Value) → Relay

abbrev pub enters : ℕ → List Value → Option Relay
enters word [] = Some (Begins word)
enters word (v ∷ vs) = None

abbrev pub hands : List Value → Option Relay
hands values = Some (Hands values)

-- which of the results that come the function returns
abbrev pub calling_form : (List Value → List Value) → Relay → Accesses (Last Relay)
calling_form returned (Begins word) = Then (Calls show_name (Number word ∷ []) hands)
calling_form returned (Hands values) = Then (Returns (returned values))

abbrev pub tailing_form : Relay → Accesses (Last Relay)
tailing_form (Begins word) = Then (Tails show_name (Number word ∷ []))
tailing_form (Hands values) = Then (Returns values)

-- with a call and a return
abbrev pub calling_by : (List Value → List Value) → Activations Relaying Relay
calling_by returned = record {
  name = λ f. main_name;
  blocks = λ f. [];
  first_word = Number 0;
  enter = λ f serial values. enters f.word values;
  form = calling_form returned;
  tariff = ByForms (λ a. 2) (λ a. []) 1 (λ f. 0) (λ f. 0) (λ f. 2 ∷ 2 ∷ []);
}

-- it returns the result
abbrev pub calling : Activations Relaying Relay
calling = calling_by (λ values. values)

-- it returns nothing
abbrev pub dropping : Activations Relaying Relay
dropping = calling_by (λ values. [])

-- with a tail call
abbrev pub tailing : Activations Relayed Relay
tailing = record {
  name = λ f. main_name;
  blocks = λ f. [];
  first_word = Number 0;
  enter = λ f serial values. enters f.word values;
  form = tailing_form;
  tariff = ByForms (λ a. 2) (λ a. []) 1 (λ f. 0) (λ f. 0) (λ f. 2 ∷ []);
}
