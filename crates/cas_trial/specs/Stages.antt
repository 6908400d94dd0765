-- Two small languages with blocks of memory. A program's function `main` sets two variables, stores the first under a
-- lock, shows the place after it to the outside, and puts out what stands at the place that comes back, and then the
-- second variable. Its variables are blocks of their own, or one block.
use Rattle.std.specs.Prelude.{ℕ, List, [], ◌∷◌, Option, Some, None}
use Rattle.cas_runs.specs.Label.{NameBytes}
use Rattle.cas_runs.specs.Naming.{Own, Value, Number, Pointer, Hidden}
use Rattle.cas_runs.specs.Bounds.{ByForms}
use Rattle.cas_runs.specs.Access.{Accesses, Writes, Loads, Stores, Then, Fails}
use Rattle.cas_runs.specs.Calls.{Last, Goes, Takes, Gives, Puts, Calls, Returns, Activations, one_block}
use Rattle.cas_trial.specs.declared.joining.Apart.{Apart}
use Rattle.cas_trial.specs.declared.joining.Joined.{Joined}

-- the names `main`, `show`, `l` and `g`
abbrev pub main_name : NameBytes
main_name = 109 ∷ 97 ∷ 105 ∷ 110 ∷ []

abbrev pub show_name : NameBytes
show_name = 115 ∷ 104 ∷ 111 ∷ 119 ∷ []

abbrev pub lock_name : NameBytes
lock_name = 108 ∷ []

abbrev pub global_name : NameBytes
global_name = 103 ∷ []

-- where an activation stands
pub data Stage : Type 0 where
  Begins : (first second serial : ℕ) → Stage
  Locks : (first serial : ℕ) → Stage
  Holds : (first serial : ℕ) → Stage
  Unlocks : (serial : ℕ) → Stage
  Shows : (serial : ℕ) → Stage
  Loading : (serial : ℕ) (at : Value) → Stage
  Tells : (serial : ℕ) → Stage
  Ends : Stage

-- puts the word out, and goes on
abbrev pub puts : Stage → Value → Accesses (Last Stage)
puts next (Number w) = Then (Puts w next)
puts next (Pointer home at) = Fails
puts next (Hidden what) = Fails

abbrev pub puts_at : Stage → Value → Accesses (Last Stage)
puts_at next (Number w) = Fails
puts_at next (Hidden what) = Fails
puts_at next (Pointer home at) = Loads home at (puts next)

abbrev pub came_back : (serial : ℕ) → List Value → Option Stage
came_back serial [] = None
came_back serial (v ∷ []) = Some (Loading serial v)
came_back serial (v ∷ w ∷ vs) = None

-- the steps, where the second variable stands at this place of this block of the activation
abbrev pub form : (block place : ℕ) → Stage → Accesses (Last Stage)
form block place (Begins first second serial) = Stores (Own main_name serial 0) 0 (Number first)
    (Stores (Own main_name serial block) place (Number second) (Then (Goes (Locks first serial))))
form block place (Locks first serial) = Then (Takes lock_name (Holds first serial))
form block place (Holds first serial) = Writes global_name 0 first (Then (Goes (Unlocks serial)))
form block place (Unlocks serial) = Then (Gives lock_name (Shows serial))
form block place (Shows serial) = Then (Calls show_name (Pointer (Own main_name serial 0) 1 ∷ []) (came_back serial))
form block place (Loading serial v) = puts_at (Tells serial) v
form block place (Tells serial) = Loads (Own main_name serial block) place (puts Ends)
form block place Ends = Then (Returns [])

abbrev pub enters : (first second serial : ℕ) → List Value → Option Stage
enters first second serial [] = Some (Begins first second serial)
enters first second serial (v ∷ vs) = None

-- each of the eight forms costs this
abbrev pub eight : ℕ → List ℕ
eight price = price ∷ price ∷ price ∷ price ∷ price ∷ price ∷ price ∷ price ∷ []

-- each variable a block of its own
abbrev pub apart : Activations Apart Stage
apart = record {
  name = λ f. main_name;
  blocks = λ f. 1 ∷ 1 ∷ [];
  first_word = Number 0;
  enter = λ f serial values. enters f.first f.second serial values;
  form = form 1 0;
  tariff = ByForms (λ a. 2) (λ a. []) 1 (λ f. 0) (λ f. 0) (λ f. eight 2);
}

-- both in one block, in which the end of the first is the beginning of the second
abbrev pub joined : Activations Joined Stage
joined = record {
  name = λ f. main_name;
  blocks = λ f. one_block 2;
  first_word = Number 0;
  enter = λ f serial values. enters f.cells.0 f.cells.1 serial values;
  form = form 0 1;
  tariff = ByForms (λ a. 1) (λ a. []) 1 (λ f. 0) (λ f. 0) (λ f. eight 1);
}
