-- A small machine with calls of its own, which crosses: a unit whose function `main` calls `show` of another unit
-- with a word, and returns. It takes its call at once, or after a step without a label.
use Rattle.std.specs.Prelude.{ℕ, ◌+◌, nat_eq, Bool, true, false, List, [], ◌∷◌, Option, Some, None, if◌then◌else◌}
use Rattle.cas_base.specs.declared.kind.Kind.TheVariants.{U32}
use Rattle.cas_base.specs.declared.kind.Ty.TheVariants.{Void, Int}
use Rattle.cas_runs.specs.Label.{NameBytes, Shown, Word, Object, Share, RunLabel, Enter, Back}
use Rattle.cas_runs.specs.Edge.{Edge}
use Rattle.cas_runs.specs.Machine.{Act, Quiet, Crosses, Receives, Bad, Opened, Open, Between, Machine}
use Rattle.cas_runs.specs.Machine.{Block}
use Rattle.cas_runs.specs.Refines.{Within}
use Rattle.cas_trial.specs.Stages.{main_name, show_name}

-- what hasn't returned: an entry of `main`, or its call of `show`
pub data Level : Type 0 where
  Entered : Level
  Called : Level

-- where the unit stands, with its share
pub data Place : Type 0 where
  Outside : (levels : List Level) → Place
  Begins : (levels : List Level) (share : Share) → Place
  Calling : (levels : List Level) (share : Share) → Place
  Leaving : (levels : List Level) (share : Share) → Place
  Broken : Place

-- where an entry leads
abbrev pub first_place : (slow : Bool) → List Level → Share → Place
first_place true levels share = Begins levels share
first_place false levels share = Calling levels share

abbrev pub received : (slow : Bool) → List Level → RunLabel → Place
received slow levels (Enter f crossing) = first_place slow (Entered ∷ levels) crossing.share
received slow (Called ∷ levels) (Back crossing) = Leaving levels crossing.share
received slow levels l = Broken

-- the word is shown, and no object
abbrev pub shows : ℕ → List Level → List Shown → List Object → Option Place
shows word levels (Word w ∷ []) [] = if nat_eq w word then Some (Outside (Called ∷ levels)) else None
shows word levels values objects = None

-- nothing is shown
abbrev pub shows_nothing : List Level → List Shown → List Object → Option Place
shows_nothing levels [] [] = Some (Outside levels)
shows_nothing levels values objects = None

abbrev pub act_of : (slow : Bool) → ℕ → Place → Act Place
act_of slow word (Outside levels) = Receives (received slow levels)
act_of slow word (Begins levels share) = Quiet (Calling levels share)
act_of slow word (Calling levels share) =
    Crosses (Some show_name) share (λ names. shows word levels names.values names.objects)
act_of slow word (Leaving (Entered ∷ levels) share) =
    Crosses None share (λ names. shows_nothing levels names.values names.objects)
act_of slow word _ = Bad

abbrev pub opened : List Level → List Opened
opened [] = []
opened (Entered ∷ levels) = Open main_name ∷ Between ∷ opened levels
opened (Called ∷ levels) = opened levels

abbrev pub activations_at : Place → List Opened
activations_at (Outside levels) = opened levels
activations_at (Begins levels share) = opened levels
activations_at (Calling levels share) = opened levels
activations_at (Leaving levels share) = opened levels
activations_at Broken = []

abbrev pub called_at : Place → Option NameBytes
called_at (Calling levels share) = Some show_name
called_at _ = None

-- the unit that shows this word, where each step costs this
abbrev pub relay : (slow : Bool) (price word : ℕ) → Machine Place
relay slow price word = record {
  start = Outside [];
  act = act_of slow word;
  price = λ x. price;
  footprint = λ x. record { reads = []; writes = [] };
  activations = activations_at;
  called = called_at;
}

abbrev pub edge : Edge
edge = record {
  cells = [];
  words = λ name. None;
  functions = record { name = main_name; ret = Void; params = []; holds = []; inside = true }
      ∷ record { name = show_name; ret = Void; params = Int U32 ∷ []; holds = []; inside = false } ∷ [];
}

-- both stand at the same place; or the slow one has a step more to make before its call, and pays for it
pub data Match : Place → Block → Place → Block → Type 0 where
  at_one : {x : Place} {b c : Block} → Within b c → Match x b x c
  begins :
      {levels : List Level} {share : Share} {b c : Block} → Within (record b { price = b.price + 1 }) c
      → Match (Begins levels share) b (Calling levels share) c
