-- Runs to which a Lock may bring any words, as many as it guards, of their kinds or not.
use Rattle.std.specs.Prelude.{◌≡◌, ℕ, ◌+◌, List, [], ◌∷◌}
use Rattle.cas_runs.specs.Label.{RunLabel, Lock}
use Rattle.cas_runs.specs.Edge.{Edge, AreUnder}
use Rattle.cas_runs.specs.Machine.{Act, Quiet, Locks, Machine, Block, StepsTo, begun, onward}

-- as `StepsTo`, but that the words of a Lock are only as many as it guards
abbrev pub StepsAny : {S : Type 0} → Edge → List RunLabel → Act S → RunLabel → S → Type 0
StepsAny edge before (Locks lock next) l y =
    (words : List ℕ) × (l ≡ Lock lock words) × AreUnder edge lock words × (next words ≡ y)
StepsAny edge before a l y = StepsTo edge before a l y

-- as `Run`, with such steps
pub data AnyRun {S : Type 0} (edge : Edge) (m : Machine S) : List RunLabel → List Block → Block → S → Type 0 where
  any_starts : AnyRun edge m [] [] (begun m m.start) m.start
  any_quiet : {ls : List RunLabel} {bs : List Block} {b : Block} {x : S} (y : S) → AnyRun edge m ls bs b x →
      m.act x ≡ Quiet y →
      AnyRun edge m ls bs (onward m b y) y
  any_labelled : {ls : List RunLabel} {bs : List Block} {b : Block} {x : S} (l : RunLabel) (y : S) →
      AnyRun edge m ls bs b x → StepsAny edge ls (m.act x) l y → AnyRun edge m (l ∷ ls) (b ∷ bs) (begun m y) y

-- how many steps it has, with and without labels
abbrev pub any_steps : {S : Type 0} {edge : Edge} {m : Machine S} {ls : List RunLabel} {bs : List Block} {b : Block}
    {x : S} → AnyRun edge m ls bs b x → ℕ
any_steps any_starts = 0
any_steps (any_quiet y r e) = any_steps r + 1
any_steps (any_labelled l y r e) = any_steps r + 1
