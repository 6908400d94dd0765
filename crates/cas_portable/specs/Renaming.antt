-- Renamings: which block of the thread of a whole program each block of a unit is. Units of one thread have memories of
-- their own; in the thread the activations have other serial numbers, and an object of another unit is a block like
-- each other.
use Rattle.std.specs.Prelude.{◌≡◌, ⊤, ℕ, ◌≤◌, List, [], ◌∷◌, length, Option, Some, None}
use Rattle.cas_runs.specs.Label.{NameBytes}
use Rattle.cas_runs.specs.Naming.{Home, Value, Number, Pointer, Memory}
use Rattle.cas_runs.specs.Access.{Accesses, Reads, Writes, Loads, Stores, Looks, Then, Fails}
use Rattle.cas_runs.specs.Access.{Performed}

-- the block of the thread, if the unit's block is one
abbrev pub Renaming : Type 0
Renaming = Home → Option Home

-- no two blocks of the unit are one block of the thread
pub record IsRenaming (r : Renaming) : Type 0 where
  pub injective : (h k home : Home) → r h ≡ Some home → r k ≡ Some home → h ≡ k

-- what was renamed stays so
abbrev pub Extends : Renaming → Renaming → Type 0
Extends r r' = (h home : Home) → r h ≡ Some home → r' h ≡ Some home

-- where the thread's objects have so many cells
module _ (size : Home → ℕ) (r : Renaming) where
  -- the unit's value is this one of the thread: a pointer goes to the same place of the object, up to its end
  abbrev pub SameValue : Value → Value → Type 0
  SameValue (Number a) (Number b) = a ≡ b
  SameValue (Pointer h p) (Pointer h' p') = (r h ≡ Some h') × (p ≡ p') × (p' ≤ size h')
  SameValue _ _ = ⊥

  abbrev pub SameValues : List Value → List Value → Type 0
  SameValues [] [] = ⊤
  SameValues (v ∷ vs) (w ∷ ws) = SameValue v w × SameValues vs ws
  SameValues _ _ = ⊥

  abbrev pub SameBlock : Option (List Value) → Option (List Value) → Type 0
  SameBlock None None = ⊤
  SameBlock (Some vs) (Some ws) = SameValues vs ws
  SameBlock _ _ = ⊥

  -- each block that is renamed is the same in the thread
  abbrev pub SameMemory : Memory → Memory → Type 0
  SameMemory m t = (h h' : Home) → r h ≡ Some h' → SameBlock (m h) (t h')

  -- the same accesses, to blocks that are the same, and the same at last
  pub data SameForm {L M : Type 0} (same_last : L → M → Type 0) : Accesses L → Accesses M → Type 0 where
    reads : {global : NameBytes} {offset : ℕ} {next : ℕ → Accesses L} {next' : ℕ → Accesses M} →
        ((v : ℕ) → SameForm same_last (next v) (next' v)) →
        SameForm same_last (Reads global offset next) (Reads global offset next')
    writes : {global : NameBytes} {offset word : ℕ} {next : Accesses L} {next' : Accesses M} →
        SameForm same_last next next' →
        SameForm same_last (Writes global offset word next) (Writes global offset word next')
    loads : {home home' : Home} {at : ℕ} {next : Value → Accesses L} {next' : Value → Accesses M} →
        r home ≡ Some home' → ((v w : Value) → SameValue v w → SameForm same_last (next v) (next' w)) →
        SameForm same_last (Loads home at next) (Loads home' at next')
    stores : {home home' : Home} {at : ℕ} {v w : Value} {next : Accesses L} {next' : Accesses M} →
        r home ≡ Some home' → SameValue v w → SameForm same_last next next' →
        SameForm same_last (Stores home at v next) (Stores home' at w next')
    looks : {home home' : Home} {next : Option ℕ → Accesses L} {next' : Option ℕ → Accesses M} →
        r home ≡ Some home' → SameForm same_last (next None) (next' None) →
        SameForm same_last (next (Some (size home'))) (next' (Some (size home'))) →
        SameForm same_last (Looks home next) (Looks home' next')
    last : {l : L} {m : M} → same_last l m → SameForm same_last (Then l) (Then m)
    fails : SameForm same_last Fails Fails

  abbrev pub SameAtLast : {L M : Type 0} → (L → M → Type 0) → Option L → Option M → Type 0
  SameAtLast same_last None None = ⊤
  SameAtLast same_last (Some l) (Some m) = same_last l m
  SameAtLast same_last _ _ = ⊥

  -- the step of the unit and that of the thread, which began with this memory: the same at last, shares, words touched
  -- and memories; and no other block of the thread has changed
  pub record SameStep {L M : Type 0} (same_last : L → M → Type 0) (begun : Memory) (p : Performed L)
      (q : Performed M) : Type 0 where
    pub same : SameAtLast same_last p.last q.last
    pub share : p.holding.share ≡ q.holding.share
    pub memory : SameMemory p.holding.memory q.holding.memory
    pub elsewhere : (h' : Home) → ((h : Home) → r h ≡ Some h' → ⊥) → q.holding.memory h' ≡ begun h'
    pub footprint : p.footprint ≡ q.footprint

-- each object has so many cells
abbrev pub IsSized : (size : Home → ℕ) → Memory → Type 0
IsSized size t = (h : Home) (ws : List Value) → t h ≡ Some ws → length ws ≡ size h
