-- Two small languages, in which the same program puts out the word behind a lock, with or without adding 0 to it.
use Rattle.std.specs.Prelude.{ℕ, List, [], ◌∷◌, Option, Some, None}
use Rattle.cas_base.specs.Word.{word_add}
use Rattle.cas_runs.specs.Naming.{Value, Number}
use Rattle.cas_runs.specs.Bounds.{ByForms}
use Rattle.cas_runs.specs.Access.{Accesses, Reads, Then}
use Rattle.cas_runs.specs.Calls.{Last, Takes, Gives, Puts, Returns, Activations}
use Rattle.cas_trial.specs.declared.tailing.Relaying.{Relaying}
use Rattle.cas_trial.specs.Stages.{main_name, lock_name, global_name}

-- where an activation stands
pub data Sum : Type 0 where
  Locks : Sum
  Reading : Sum
  Unlocks : Sum
  Ends : Sum

abbrev pub enters_sum : List Value → Option Sum
enters_sum [] = Some Locks
enters_sum (v ∷ vs) = None

-- the steps, where this is done to the word before it is put out
abbrev pub sum_form : (ℕ → ℕ) → Sum → Accesses (Last Sum)
sum_form change Locks = Then (Takes lock_name Reading)
sum_form change Reading = Reads global_name 0 (λ v. Then (Puts (change v) Unlocks))
sum_form change Unlocks = Then (Gives lock_name Ends)
sum_form change Ends = Then (Returns [])

abbrev pub adding : Activations Relaying Sum
adding = record {
  name = λ f. main_name;
  blocks = λ f. [];
  first_word = Number 0;
  enter = λ f serial values. enters_sum values;
  form = sum_form (λ v. word_add v 0);
  tariff = ByForms (λ a. 2) (λ a. []) 1 (λ f. 0) (λ f. 0) (λ f. 2 ∷ 2 ∷ 2 ∷ 2 ∷ []);
}

abbrev pub plain : Activations Relaying Sum
plain = record {
  name = λ f. main_name;
  blocks = λ f. [];
  first_word = Number 0;
  enter = λ f serial values. enters_sum values;
  form = sum_form (λ v. v);
  tariff = ByForms (λ a. 1) (λ a. []) 1 (λ f. 0) (λ f. 0) (λ f. 1 ∷ 1 ∷ 1 ∷ 1 ∷ []);
}
