-- The three states of a lock, and how many threads are refused.
use Rattle.std.specs.Prelude.{◌≡◌, ℕ, zero, suc, ◌+◌, ◌&&◌, nat_eq, Bool, true, false, List, ◌∷◌, Option, Some, None}
use Rattle.cas_runs.specs.Edge.{Cell}
use Rattle.cas_runs.specs.Legal.{LockState, Free, IsHeld}
use Rattle.cas_atomic.specs.Leftover.{Leftover, IsMinus, less_or_equal}
use Rattle.cas_atomic.specs.Buffer.{Store, store, newest, view}
use Rattle.cas_atomic.specs.Cells.{IsUnder, under, values}
use Rattle.cas_atomic.specs.Buffered.{Point, Outside, Inside, Thread}

-- refused at a place of the accepted body: at `jns` with the sign, at `cmp`, and at `jle` with `le`
abbrev pub refused_at : ℕ → Leftover → Bool
refused_at zero f = false
refused_at (suc zero) f = f.flags.sign
refused_at (suc (suc zero)) f = true
refused_at (suc (suc (suc zero))) f = less_or_equal f
refused_at (suc (suc (suc (suc n)))) f = false

abbrev pub is_refused : {X : Type 0} → ℕ → Point X → Bool
is_refused lock (Outside x) = false
is_refused lock (Inside place f l k) = nat_eq l lock && refused_at place f

abbrev pub one : Bool → ℕ
one true = 1
one false = 0

-- how many of the first n are such
abbrev pub count : (ℕ → Bool) → ℕ → ℕ
count f zero = 0
count f (suc n) = one (f n) + count f n

abbrev pub refusals : {X : Type 0} → ℕ → ℕ → (ℕ → Thread X) → ℕ
refusals n lock threads = count (λ j. is_refused lock (threads j).at) n

-- no store to the lock's word, and none to a word that it guards
pub record IsClear (cells : List Cell) (lock : ℕ) (b : List Store) : Type 0 where
  pub lock_word : newest b lock ≡ None
  pub guarded : (w : ℕ) → IsUnder cells lock w → newest b w ≡ None

-- one store to the lock's word, of 1, and none to its guarded words behind it
pub data Releases (cells : List Cell) (lock : ℕ) : List Store → Type 0 where
  now : (rest : List Store) → IsClear cells lock rest → Releases cells lock (store lock 1 ∷ rest)
  later : (w v : ℕ) (rest : List Store) → (w ≡ lock → ⊥) → Releases cells lock rest →
      Releases cells lock (store w v ∷ rest)

-- no thread but this one has a store to the lock's word or to a word that it guards
abbrev pub OthersAreClear : List Cell → (lock i : ℕ) → (ℕ → List Store) → Type 0
OthersAreClear cells lock i buffers = (j : ℕ) → (j ≡ i → ⊥) → IsClear cells lock (buffers j)

-- what a lock is looked at by: the buffers, the memory, how far its word may fall, its words in each thread's share,
-- and what the labels say
pub record Sight : Type 0 where
  pub buffers : ℕ → List Store
  pub memory : ℕ → ℕ
  pub most : ℕ
  pub shares : ℕ → Option (List ℕ)
  pub labelled : LockState

-- the values of the words that a lock guards
abbrev pub guarded_by : List Cell → (lock : ℕ) → (ℕ → ℕ) → List ℕ
guarded_by cells lock words = values words (under cells 0 lock)

-- A lock is in one of three states.
pub data LockStands (cells : List Cell) (lock : ℕ) (v : Sight) : Type 0 where
  -- free: its word is 1, all that was written under it is in memory, and the labels say free with memory's words
  free : v.memory lock ≡ 1 → ((j : ℕ) → IsClear cells lock (v.buffers j)) → ((j : ℕ) → v.shares j ≡ None) →
      v.labelled ≡ Free (guarded_by cells lock v.memory) → LockStands cells lock v
  -- held by i: its word is 0 or less, and its words in i's share are those that i sees
  held : (i : ℕ) → IsMinus v.most (v.memory lock) → newest (v.buffers i) lock ≡ None →
      OthersAreClear cells lock i v.buffers →
      v.shares i ≡ Some (guarded_by cells lock (view (v.buffers i) v.memory)) →
      ((j : ℕ) → (j ≡ i → ⊥) → v.shares j ≡ None) → v.labelled ≡ IsHeld → LockStands cells lock v
  -- released by i: the store of 1 is in i's buffer, after all that i wrote under the lock; the labels say free with the
  -- words that i sees
  released : (i : ℕ) → IsMinus v.most (v.memory lock) → Releases cells lock (v.buffers i) →
      OthersAreClear cells lock i v.buffers → ((j : ℕ) → v.shares j ≡ None) →
      v.labelled ≡ Free (guarded_by cells lock (view (v.buffers i) v.memory)) → LockStands cells lock v
