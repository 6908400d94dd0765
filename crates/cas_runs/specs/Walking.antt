-- Silent steps within a block, and where a block begins. The labels of a run determine where its last block begins;
-- what the run does since then is a walk of silent steps.
use Rattle.std.specs.Prelude.{◌≡◌, List, [], ◌∷◌}
use Rattle.cas_runs.specs.Label.{RunLabel}
use Rattle.cas_runs.specs.Edge.{Edge}
use Rattle.cas_runs.specs.Machine.{Quiet, Machine, StepsTo, Block, begun, onward, Run}

-- silent steps lead from one state to another, and from the block so far to the block with these steps
pub data Star {S : Type 0} (m : Machine S) : Block → S → Block → S → Type 0 where
  stays : {b : Block} {x : S} → Star m b x b x
  goes :
      {b : Block} {x : S} {c : Block} {y : S} (z : S)
      → m.act x ≡ Quiet z
      → Star m (onward m b z) z c y
      → Star m b x c y

-- the machine has no silent step here
abbrev pub HasNoSilentStep : {S : Type 0} → Machine S → S → Type 0
HasNoSilentStep {S = S} m y = (z : S) → m.act y ≡ Quiet z → ⊥

module _ {S : Type 0} (edge : Edge) (m : Machine S) where
  -- a block begins at this state, after these labels and the blocks that they ended
  pub data Begins : List RunLabel → List Block → S → Type 0 where
    at_start : Begins [] [] m.start
    after :
        {ls : List RunLabel} {bs : List Block} {x : S} {b : Block} {y : S} (l : RunLabel) (z : S)
        → Begins ls bs x
        → Star m (begun m x) x b y
        → StepsTo edge ls (m.act y) l z
        → Begins (l ∷ ls) (b ∷ bs) z

  -- a run as a walk: where its last block begins, and its silent steps from there
  pub record Walk (ls : List RunLabel) (bs : List Block) (b : Block) (y : S) : Type 0 where
    pub origin : S
    pub begins : Begins ls bs origin
    pub star : Star m (begun m origin) origin b y

-- blocks begin at the same state, after the same blocks
pub record SameBeginning {S : Type 0} (bs cs : List Block) (x y : S) : Type 0 where
  pub blocks : bs ≡ cs
  pub state : x ≡ y

-- both machines do the same at this state, at the same price
pub record DoSame {S : Type 0} (m n : Machine S) (x : S) : Type 0 where
  pub act : m.act x ≡ n.act x
  pub price : m.price x ≡ n.price x
  pub footprint : m.footprint x ≡ n.footprint x
  pub activations : m.activations x ≡ n.activations x
  pub called : m.called x ≡ n.called x

-- the machines are equal at each state that a run of the first reaches
pub record EqualWhereReached {S : Type 0} (edge : Edge) (m n : Machine S) : Type 0 where
  pub start : m.start ≡ n.start
  pub reached :
      (ls : List RunLabel) (bs : List Block) (b : Block) (x : S)
      → Run edge m ls bs b x
      → DoSame m n x
