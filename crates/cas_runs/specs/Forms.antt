-- Forms that do the same: their accesses are to the same words and to blocks that are the same, but for what the
-- target has no need to read, and what they do at last is the same.
use Rattle.std.specs.Prelude.{◌≡◌, ℕ, ◌<◌, List, Option, Some, None, length, slice_set, ◌⊎◌}
use Rattle.cas_runs.specs.Label.{Each, NameBytes, Held, Share}
use Rattle.cas_runs.specs.Naming.{Home, Value, Number, Pointer, Memory, with_block}
use Rattle.cas_runs.specs.Outside.{IsAmong}
use Rattle.cas_runs.specs.Machine.{Footprint}
use Rattle.cas_runs.specs.Access.{Accesses, Reads, Writes, Loads, Stores, Looks, Then, Fails, value_in}
use Rattle.cas_runs.specs.Access.{length_of}

-- each of these words is the same as itself, as a pass can ask that it is a word
abbrev pub AreSelfSame : (Value → Value → Type 0) → List ℕ → Type 0
AreSelfSame same = Each (λ w. same (Number w) (Number w))

-- and each word of the share
abbrev pub ShareSelfSame : (Value → Value → Type 0) → Share → Type 0
ShareSelfSame same = Each (λ (h : Held). AreSelfSame same h.words)

-- where values are the same, and what a block's length is to the other's
pub data FormAlike {L M : Type 0} (same : Value → Value → Type 0) (same_size : ℕ → ℕ → Type 0)
    (same_last : L → M → Type 0) : Accesses L → Accesses M → Type 0 where
  reads : {global : NameBytes} {offset : ℕ} {next : ℕ → Accesses L} {next' : ℕ → Accesses M} →
      ((v : ℕ) → same (Number v) (Number v) → FormAlike same same_size same_last (next v) (next' v)) →
      FormAlike same same_size same_last (Reads global offset next) (Reads global offset next')
  writes : {global : NameBytes} {offset word : ℕ} {next : Accesses L} {next' : Accesses M} →
      same (Number word) (Number word) → FormAlike same same_size same_last next next' →
      FormAlike same same_size same_last (Writes global offset word next) (Writes global offset word next')
  loads : {home home' : Home} {at at' : ℕ} {next : Value → Accesses L} {next' : Value → Accesses M} →
      same (Pointer home at) (Pointer home' at') →
      ((v w : Value) → same v w → FormAlike same same_size same_last (next v) (next' w)) →
      FormAlike same same_size same_last (Loads home at next) (Loads home' at' next')
  stores : {home home' : Home} {at at' : ℕ} {v w : Value} {next : Accesses L} {next' : Accesses M} →
      same (Pointer home at) (Pointer home' at') → same v w → FormAlike same same_size same_last next next' →
      FormAlike same same_size same_last (Stores home at v next) (Stores home' at' w next')
  looks : {home home' : Home} (at at' : ℕ) {next : Option ℕ → Accesses L} {next' : Option ℕ → Accesses M} →
      same (Pointer home at) (Pointer home' at') → FormAlike same same_size same_last (next None) (next' None) →
      ((n m : ℕ) → same_size n m → FormAlike same same_size same_last (next (Some n)) (next' (Some m))) →
      FormAlike same same_size same_last (Looks home next) (Looks home' next')
  -- the target has no need of what the source reads, loads or looks at
  drops_read : {global : NameBytes} {offset : ℕ} {x : Accesses L} {next' : ℕ → Accesses M} →
      ((v : ℕ) → same (Number v) (Number v) → FormAlike same same_size same_last x (next' v)) →
      FormAlike same same_size same_last x (Reads global offset next')
  drops_load : {home : Home} {at : ℕ} {x : Accesses L} {next' : Value → Accesses M} →
      ((w : Value) → FormAlike same same_size same_last x (next' w)) →
      FormAlike same same_size same_last x (Loads home at next')
  drops_look : {home : Home} {x : Accesses L} {next' : Option ℕ → Accesses M} →
      ((o : Option ℕ) → FormAlike same same_size same_last x (next' o)) →
      FormAlike same same_size same_last x (Looks home next')
  last : {l : L} {m : M} → same_last l m → FormAlike same same_size same_last (Then l) (Then m)
  never : {x : Accesses L} → FormAlike same same_size same_last x Fails

-- both blocks are there with such lengths, or neither is
abbrev pub LengthsAlike : (ℕ → ℕ → Type 0) → Option ℕ → Option ℕ → Type 0
LengthsAlike same_size None None = Unit {0}
LengthsAlike same_size None (Some m) = ⊥
LengthsAlike same_size (Some n) None = ⊥
LengthsAlike same_size (Some n) (Some m) = same_size n m

-- a store: where, and of what
pub record Store : Type 0 where
  pub home : Home
  pub place : ℕ
  pub value : Value

abbrev pub store : Home → (place : ℕ) → Value → Store
store home place value = record { home = home; place = place; value = value }

-- the memory with the store, where this is its block
abbrev pub after_store : Memory → Store → List Value → Memory
after_store m x block = with_block m x.home (Some (slice_set block x.place x.value))

-- the memories after a store of each, where the source's block is this one
pub record Stored (alike : Memory → Memory → Type 0) (t s : Memory) (x y : Store) (ws : List Value) : Type 0 where
  pub block : List Value
  pub there : t x.home ≡ Some block
  pub within : x.place < length block
  pub after : alike (after_store t x block) (after_store s y ws)

-- loads and stores by pointers that are the same keep memories alike
pub record MemoryKeeps (same : Value → Value → Type 0) (same_size : ℕ → ℕ → Type 0)
    (alike : Memory → Memory → Type 0) : Type 0 where
  pub loads : (t s : Memory) → alike t s → (home home' : Home) (at at' : ℕ) →
      same (Pointer home at) (Pointer home' at') → (w : Value) → value_in (s home') at' ≡ Some w →
      (v : Value) × (value_in (t home) at ≡ Some v) × same v w
  pub stores : (t s : Memory) → alike t s → (home home' : Home) (at at' : ℕ) →
      same (Pointer home at) (Pointer home' at') → (v w : Value) → same v w → (ws : List Value) → s home' ≡ Some ws →
      at' < length ws → Stored alike t s (store home at v) (store home' at' w) ws
  pub lengths : (t s : Memory) → alike t s → (home home' : Home) (at at' : ℕ) →
      same (Pointer home at) (Pointer home' at') → LengthsAlike same_size (length_of (t home)) (length_of (s home'))

-- a footprint within another, as of blocks
pub record FootIn (f g : Footprint) : Type 0 where
  pub writes : (w : ℕ) → IsAmong w f.writes → IsAmong w g.writes
  pub reads : (w : ℕ) → IsAmong w f.reads → IsAmong w g.reads ⊎ IsAmong w g.writes
