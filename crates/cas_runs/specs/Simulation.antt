-- What a pass shows, so that its result refines its argument: a relation of states, and one case for each act.
use Rattle.std.specs.Prelude.{◌≡◌, ℕ, List, [], ◌∷◌, Option, Some, ◌⊎◌}
use Rattle.cas_runs.specs.Label.{RunLabel, Lock}
use Rattle.cas_runs.specs.Edge.{Edge, AreGuarded}
use Rattle.cas_runs.specs.Outside.{MayBring}
use Rattle.cas_runs.specs.Machine.{Act, Quiet, Emits, Crosses, Locks, Receives, Stops, Full, Names, Machine, label_of}
use Rattle.cas_runs.specs.Machine.{crossing_by, IsBad, Block, begun, onward}
use Rattle.cas_runs.specs.Refines.{EachWithin, Reached, Reaches, Fine}

-- quiet steps lead from here to where this holds of the state and of the block so far, or to a step that is Bad
pub data Quietly {S : Type 0} (act : S → Act S) (on : Block → S → Block) (P : S → Block → Type 0) : S → Block →
    Type 0 where
  here : {y : S} {c : Block} → P y c → Quietly act on P y c
  step : {y : S} {c : Block} (y' : S) → act y ≡ Quiet y' → Quietly act on P y' (on c y') → Quietly act on P y c
  fails : {y : S} {c : Block} → IsBad (act y) → Quietly act on P y c

-- the machine goes wrong: quiet steps lead to a step that is Bad
abbrev pub GoesWrong : {S : Type 0} → Machine S → S → Block → Type 0
GoesWrong m y c = Quietly m.act (onward m) (λ y' c'. ⊥) y c

module _ {T S : Type 0} (edge : Edge) (t : Machine T) (s : Machine S)
    (match_states : List RunLabel → T → Block → S → Block → Type 0) where
  -- the source goes on quietly to where it matches x
  abbrev pub Follows : List RunLabel → T → Block → S → Block → Type 0
  Follows ls x b y c = Quietly s.act (onward s) (match_states ls x b) y c

  -- the same from states at which a block of both begins
  abbrev pub After : List RunLabel → T → S → Type 0
  After ls x y = Follows ls x (begun t x) y (begun s y)

  -- the source can name what crosses; each way in which it can is one of the target's, and both go on to where they
  -- match
  pub record CrossesToo (ls : List RunLabel) (label_by : Names → RunLabel) (next : Names → Option T)
      (s_next : Names → Option S) : Type 0 where
    pub names : Names
    pub to : S
    pub has_names : s_next names ≡ Some to
    pub each : (n : Names) (y : S) → s_next n ≡ Some y → (x : T) × (next n ≡ Some x) × After (label_by n ∷ ls) x y

  -- both stand at acts that do the same, and go on to where they match
  abbrev pub Meets : List RunLabel → Act T → Act S → Type 0
  Meets ls (Emits event x) (Emits other y) = (event ≡ other) × After (label_of event ∷ ls) x y
  Meets ls (Crosses function share next) (Crosses other s_share s_next) =
      (function ≡ other) × (share ≡ s_share) × CrossesToo ls (crossing_by other s_share) next s_next
  Meets ls (Locks lock next) (Locks other s_next) =
      (lock ≡ other)
      × ((words : List ℕ) → AreGuarded edge lock words → After (Lock lock words ∷ ls) (next words) (s_next words))
  Meets ls (Receives next) (Receives s_next) =
      (l : RunLabel) → MayBring edge ls l → After (l ∷ ls) (next l) (s_next l)
  Meets ls (Stops Full) a = Unit {0}
  Meets ls (Stops why) (Stops other) = why ≡ other
  Meets _ _ _ = ⊥

  -- what the source does where the target stands at this act: it goes wrong where that is Bad
  abbrev pub Answers : List RunLabel → Act T → Block → S → Block → Type 0
  Answers ls (Quiet x) b y c = Follows ls x (onward t b x) y c
  Answers ls a b y c = Quietly s.act (onward s) (λ y' c'. Meets ls a (s.act y')) y c

  -- what a pass shows of a relation between a state of t and a state of s, each with its block so far, after runs with
  -- the same labels
  pub record Simulates : Type 0 where
    pub starts : After [] t.start s.start
    pub fine : (ls : List RunLabel) (x : Reached T) (y : Reached S) → Reaches edge t ls x → Reaches edge s ls y →
        match_states ls x.at x.block y.at y.block → GoesWrong s y.at y.block ⊎ Fine t s x.at x.block y.at y.block
    pub answers : (ls : List RunLabel) (x : Reached T) (y : Reached S) → Reaches edge t ls x → Reaches edge s ls y →
        match_states ls x.at x.block y.at y.block → Answers ls (t.act x.at) x.block y.at y.block

  -- runs with the same labels match: the blocks of the target's are within those of the source's, and so do the states
  pub record RunsMatch (ls : List RunLabel) (x : Reached T) (y : Reached S) : Type 0 where
    pub within : EachWithin x.blocks y.blocks
    pub states : match_states ls x.at x.block y.at y.block
