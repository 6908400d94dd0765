-- Where the pass puts the variables, and where both programs stand at the same place. The memories match where the
-- source's blocks are stretches of the target's.
--
--     t:   ┌───────┬────────┐ ── one step ──► ┌───────┬────────┐
--          │ first │ second │                 │ first │ second │
--          └───────┴────────┘                 └───────┴────────┘
--           SameStage, moved                   SameStage, moved
--     s:   ┌───────┐ ┌────────┐ ── one step ► ┌───────┐ ┌────────┐
--          │ first │ │ second │               │ first │ │ second │
--          └───────┘ └────────┘               └───────┘ └────────┘
use Rattle.std.specs.Prelude.{ℕ, zero, suc, List, [], ◌∷◌, ◌++◌, Option, Some, None, if◌then◌else◌}
use Rattle.cas_runs.specs.Label.{NameBytes, same_name}
use Rattle.cas_runs.specs.Naming.{Value, Part, Layout}
use Rattle.cas_runs.specs.Stepwise.{at_place}
use Rattle.cas_runs.specs.Placing.{Spot, Placing, SameMoved, MemoryMoved, moved_part, Moved}
use Rattle.cas_trial.specs.declared.joining.Apart.{Apart}
use Rattle.cas_trial.specs.declared.joining.Joined.{Joined}
use Rattle.cas_trial.specs.Joining.Makes.{IsJoined}
use Rattle.cas_trial.specs.Stages.{main_name, Stage, Begins, Locks, Holds, Unlocks, Shows, Loading, Tells, Ends}
use Rattle.cas_trial.specs.Stages.{apart, joined}

abbrev pub spot_of : ℕ → Option Spot
spot_of zero = Some (record { block = 0; offset = 0 })
spot_of (suc zero) = Some (record { block = 0; offset = 1 })
spot_of (suc (suc block)) = None

-- the variables of `main` in its one block, where there is such a function
abbrev pub places : List Apart → Placing
places [] = λ function block. None
places (f ∷ fs) = λ function block. if same_name function main_name then spot_of block else None

abbrev pub moved_parts : ℕ → List Part → List Part
moved_parts offset [] = []
moved_parts offset (p ∷ ps) = moved_part offset p ∷ moved_parts offset ps

abbrev pub joined_parts : (ℕ → List Part) → ℕ → List Part
joined_parts parts zero = moved_parts 0 (parts 0) ++ moved_parts 1 (parts 1)
joined_parts parts (suc block) = []

-- the objects go with their blocks
abbrev pub joins : Layout → Layout
joins layout = λ function. if same_name function main_name then joined_parts (layout function) else layout function

-- each variable is one word
abbrev pub one_word : NameBytes → ℕ → ℕ
one_word function block = 1

-- both stand at the same stage of a program that runs
pub data SameStage : List Apart → Stage → Stage → Type 0 where
  begins : {f : Apart} {fs : List Apart} {first second serial : ℕ} →
      SameStage (f ∷ fs) (Begins first second serial) (Begins first second serial)
  locks : {f : Apart} {fs : List Apart} {first serial : ℕ} →
      SameStage (f ∷ fs) (Locks first serial) (Locks first serial)
  holds : {f : Apart} {fs : List Apart} {first serial : ℕ} →
      SameStage (f ∷ fs) (Holds first serial) (Holds first serial)
  unlocks : {f : Apart} {fs : List Apart} {serial : ℕ} → SameStage (f ∷ fs) (Unlocks serial) (Unlocks serial)
  shows : {f : Apart} {fs : List Apart} {serial : ℕ} → SameStage (f ∷ fs) (Shows serial) (Shows serial)
  loading : {f : Apart} {fs : List Apart} {serial : ℕ} {v w : Value} → SameMoved (places (f ∷ fs)) v w →
      SameStage (f ∷ fs) (Loading serial v) (Loading serial w)
  tells : {f : Apart} {fs : List Apart} {serial : ℕ} → SameStage (f ∷ fs) (Tells serial) (Tells serial)
  ends : {f : Apart} {fs : List Apart} → SameStage (f ∷ fs) Ends Ends

-- the pass
abbrev pub joining : Moved Joined Stage Apart Stage
joining = record {
  target = joined;
  source = apart;
  made = λ decls. IsJoined;
  naming = λ ss layout. joins layout;
  place = places;
  sizes = λ ss. one_word;
  match_states = λ setting ts ss. at_place (λ f g. SameStage ss) (MemoryMoved (places ss) one_word);
}
