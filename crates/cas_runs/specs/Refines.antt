-- What it means that one machine refines another.
use Rattle.std.specs.Prelude.{◌≡◌, ℕ, ◌<◌, ◌≤◌, List, [], ◌∷◌, ◌++◌, ◌⊎◌, Option, Some}
use Rattle.cas_runs.specs.Label.{NameBytes, Share, RunLabel}
use Rattle.cas_runs.specs.Edge.{Edge}
use Rattle.cas_runs.specs.Outside.{IsAmong}
use Rattle.cas_runs.specs.Machine.{Act, Quiet, Emits, Crosses, Locks, Receives, Stops, Full, Names, Opened, Open}
use Rattle.cas_runs.specs.Machine.{Machine, open_functions, IsBad, Block, Run, Always}

-- the same functions in order, with some left out, between the same calls of the outside
pub data Subsequence : List Opened → List Opened → Type 0 where
  done : Subsequence [] []
  keep : {x : Opened} {xs ys : List Opened} → Subsequence xs ys → Subsequence (x ∷ xs) (x ∷ ys)
  skip : {function : NameBytes} {xs ys : List Opened} → Subsequence xs ys → Subsequence xs (Open function ∷ ys)

-- a block of the target is within one of the source: it pays at most as much, writes only what that writes, and reads
-- only what that reads or writes
pub record Within (b c : Block) : Type 0 where
  pub price : b.price ≤ c.price
  pub writes : (w : ℕ) → IsAmong w b.writes → IsAmong w c.writes
  pub reads : (w : ℕ) → IsAmong w b.reads → IsAmong w c.reads ⊎ IsAmong w c.writes

-- each block of the target is within that of the source
pub data EachWithin : List Block → List Block → Type 0 where
  none : EachWithin [] []
  more : {b c : Block} {bs cs : List Block} → Within b c → EachWithin bs cs → EachWithin (b ∷ bs) (c ∷ cs)

-- where a run stands: the blocks that its labels ended, the newest first, the block in which it is, and its state
pub record Reached (S : Type 0) : Type 0 where
  pub blocks : List Block
  pub block : Block
  pub at : S

-- a run with these labels stands there
abbrev pub Reaches : {S : Type 0} → Edge → Machine S → List RunLabel → Reached S → Type 0
Reaches edge m labels x = Run edge m labels x.blocks x.block x.at

-- the machine has a run with these labels that stands where this holds
pub record Comes {S : Type 0} (edge : Edge) (m : Machine S) (labels : List RunLabel)
    (P : Reached S → Type 0) : Type 0 where
  pub to : Reached S
  pub run : Reaches edge m labels to
  pub there : P to

-- the machine has a run with these labels
abbrev pub HasRun : {S : Type 0} → Edge → Machine S → List RunLabel → Type 0
HasRun edge m labels = Comes edge m labels (λ x. Unit {0})

-- the source has a run whose labels are the first of these and whose next step is Bad
pub record BadBefore {S : Type 0} (edge : Edge) (s : Machine S) (labels : List RunLabel) : Type 0 where
  pub since : List RunLabel
  pub before : List RunLabel
  pub prefix : labels ≡ since ++ before
  pub bad : Comes edge s before (λ y. IsBad (s.act y.at))

-- the target's step isn't free, its block is within the source's, and so are its open functions
pub record Fine {T S : Type 0} (t : Machine T) (s : Machine S) (x : T) (b : Block) (y : S) (c : Block) : Type 0 where
  pub costs : 1 ≤ t.price x
  pub within : Within b c
  pub opened : Subsequence (open_functions t x) (open_functions s y)

-- the source keeps the target's run: each block of that is within its own, and the target's next step isn't Bad
pub record Kept {T S : Type 0} (t : Machine T) (s : Machine S) (x : Reached T) (y : Reached S) : Type 0 where
  pub fine : Fine t s x.at x.block y.at y.block
  pub within : EachWithin x.blocks y.blocks
  pub meant : IsBad (t.act x.at) → ⊥

-- the source can name what crosses, and each way in which it can is one of the target's
pub record CrossesAs {T S : Type 0} (next : Names → Option T) (s_next : Names → Option S) : Type 0 where
  pub names : Names
  pub to : S
  pub has_names : s_next names ≡ Some to
  pub each : (n : Names) (y : S) → s_next n ≡ Some y → (x : T) × (next n ≡ Some x)

-- the source does what the target does, when both stand at these acts. A full stack is the target's own
abbrev pub Answered : {T S : Type 0} → Act T → Act S → Type 0
Answered (Quiet x) a = Unit {0}
Answered (Emits event x) (Emits other y) = event ≡ other
Answered (Crosses function share next) (Crosses other s_share s_next) =
    (function ≡ other) × (share ≡ s_share) × CrossesAs next s_next
Answered (Locks lock next) (Locks other s_next) = lock ≡ other
Answered (Receives next) (Receives s_next) = Unit {0}
Answered (Stops Full) a = Unit {0}
Answered (Stops why) (Stops other) = why ≡ other
Answered _ _ = ⊥

-- the target does only what the source does, until the source is Bad. What crosses at a Call or Leave of the target can
-- have several names, as one address can be the end of an object and the beginning of the next: the source names it
pub record Refines {T S : Type 0} (edge : Edge) (t : Machine T) (s : Machine S) : Type 0 where
  -- each run of the target whose labels the source has is kept by the source
  pub kept : (ls : List RunLabel) (x : Reached T) → Reaches edge t ls x → HasRun edge s ls →
      BadBefore edge s ls ⊎ Comes edge s ls (Kept t s x)
  -- and where its next step isn't quiet, the source comes to one that answers it
  pub answers : (ls : List RunLabel) (x : Reached T) → Reaches edge t ls x → HasRun edge s ls →
      BadBefore edge s ls ⊎ Comes edge s ls (λ y. Answered (t.act x.at) (s.act y.at))

-- at each Call and each Leave that the machine comes to there is at most one way to name what crosses
abbrev pub NamesAlone : {T : Type 0} → Edge → Machine T → Type 0
NamesAlone {T = T} edge t =
    Always edge t (λ ls x. (function : Option NameBytes) (share : Share) (next : Names → Option T) →
    t.act x ≡ Crosses function share next → (n m : Names) (y z : T) → next n ≡ Some y → next m ≡ Some z → n ≡ m)

-- the machine has a run with these labels, which pays more than this in its last block
abbrev pub PaysMore : {S : Type 0} → Edge → Machine S → List RunLabel → ℕ → Type 0
PaysMore edge m labels count = Comes edge m labels (λ x. count < x.block.price)

-- each run of the target is kept, or the source is Bad before
abbrev pub EachKept : {T S : Type 0} → Edge → Machine T → Machine S → Type 0
EachKept {T = T} edge t s = (ls : List RunLabel) (x : Reached T) → Reaches edge t ls x →
    BadBefore edge s ls ⊎ Comes edge s ls (Kept t s x)
