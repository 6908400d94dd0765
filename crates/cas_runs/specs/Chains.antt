-- What a pass shows of which several quiet steps of the target answer one step of the source: a relation of the
-- states at which a step of the source begins, and from there a chain of quiet steps to a step that both answer.
use Rattle.std.specs.Prelude.{◌≡◌, List, [], ◌⊎◌}
use Rattle.cas_runs.specs.Label.{RunLabel}
use Rattle.cas_runs.specs.Edge.{Edge}
use Rattle.cas_runs.specs.Machine.{Quiet, Machine, Block, onward}
use Rattle.cas_runs.specs.Refines.{Fine}
use Rattle.cas_runs.specs.Simulation.{GoesWrong, After, Answers}

module _ {T S : Type 0} (edge : Edge) (t : Machine T) (s : Machine S)
    (Met : List RunLabel → T → Block → S → Block → Type 0) where
  -- from x the target goes on by quiet steps, while the source stands at y, to a step that both answer, and then they
  -- meet again
  pub data Chain (ls : List RunLabel) : T → Block → S → Block → Type 0 where
    last : {x : T} {b : Block} {y : S} {c : Block} → GoesWrong s y c ⊎ Fine t s x b y c →
        Answers edge t s Met ls (t.act x) b y c → Chain ls x b y c
    more : {x : T} {b : Block} {y : S} {c : Block} (x' : T) → t.act x ≡ Quiet x' → GoesWrong s y c ⊎ Fine t s x b y c →
        Chain ls x' (onward t b x') y c → Chain ls x b y c

  -- what such a pass shows
  pub record IsChained : Type 0 where
    pub starts : After edge t s Met [] t.start s.start
    pub goes_on : (ls : List RunLabel) (x : T) (b : Block) (y : S) (c : Block) → Met ls x b y c → Chain ls x b y c
