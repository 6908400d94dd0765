-- The three states of a lock by the locks and the words that each thread has, and where each thread stands.
use Rattle.std.specs.Prelude.{◌≡◌, ℕ, zero, suc, Bool, true, false, List, [], None}
use Rattle.cas_runs.specs.Edge.{Cell}
use Rattle.cas_runs.specs.Legal.{LockState, Free, IsHeld}
use Rattle.cas_atomic.specs.Leftover.{Leftover, IsMinus}
use Rattle.cas_atomic.specs.Buffer.{Store, newest, view}
use Rattle.cas_atomic.specs.Cells.{IsUnder, under, values}
use Rattle.cas_atomic.specs.Program.{Setup, CallLock, CallUnlock}
use Rattle.cas_atomic.specs.Buffered.{Point, Outside, Inside}
use Rattle.cas_atomic.specs.Table.{IsClear, Releases, OthersAreClear}
use Rattle.cas_atomic.proofs.Inner.{Atomic}

-- what a lock is looked at by: the buffers, the memory, how many threads are refused at the lock, which threads have it
-- in
-- their share, the words that each thread has, and what the labels say
pub record Scene : Type 0 where
  pub buffers : ℕ → List Store
  pub memory : ℕ → ℕ
  pub refused : ℕ
  pub holds : ℕ → Bool
  pub words : ℕ → ℕ → ℕ
  pub labelled : LockState

abbrev pub scene : (ℕ → List Store) → (ℕ → ℕ) → ℕ → (ℕ → Bool) → (ℕ → ℕ → ℕ) → LockState → Scene
scene bs m r h ws labelled =
    record { buffers = bs; memory = m; refused = r; holds = h; words = ws; labelled = labelled }

-- A lock is in one of three states.
pub data LockIs (cells : List Cell) (lock : ℕ) (v : Scene) : Type 0 where
  -- free: its word is 1, all that was written under it is in memory, and the labels say free with memory's words
  is_free : v.memory lock ≡ 1 → ((j : ℕ) → IsClear cells lock (v.buffers j)) → ((j : ℕ) → v.holds j ≡ false) →
      v.labelled ≡ Free (values v.memory (under cells 0 lock)) → LockIs cells lock v
  -- held by i: its word is minus at most the number of refused threads, and i's words are those that i sees
  is_held : (i : ℕ) → IsMinus v.refused (v.memory lock) → newest (v.buffers i) lock ≡ None →
      OthersAreClear cells lock i v.buffers → v.holds i ≡ true → ((j : ℕ) → (j ≡ i → ⊥) → v.holds j ≡ false) →
      ((w : ℕ) → IsUnder cells lock w → v.words i w ≡ view (v.buffers i) v.memory w) → v.labelled ≡ IsHeld →
      LockIs cells lock v
  -- released by i: the store of 1 is in i's buffer, after all that i wrote under the lock; the labels say free with the
  -- words that i sees
  is_released : (i : ℕ) → IsMinus v.refused (v.memory lock) → Releases cells lock (v.buffers i) →
      OthersAreClear cells lock i v.buffers → ((j : ℕ) → v.holds j ≡ false) →
      v.labelled ≡ Free (values (view (v.buffers i) v.memory) (under cells 0 lock)) → LockIs cells lock v

-- at the call of lock, whose label hasn't come yet
pub record Asks {X : Type 0} (p : Setup X) (a : Atomic X) (executed : ℕ) (lock : ℕ) (k : Leftover → X) : Type 0 where
  pub next : p.next a.at ≡ CallLock lock k
  pub steps : suc a.steps ≡ executed

pub record AsksEmpty {X : Type 0} (p : Setup X) (a : Atomic X) (b : List Store) (executed : ℕ) (lock : ℕ)
    (k : Leftover → X) : Type 0 where
  pub asks : Asks p a executed lock k
  pub empty : b ≡ []

pub record Gives {X : Type 0} (p : Setup X) (a : Atomic X) (executed : ℕ) (lock : ℕ) (k : Leftover → X) : Type 0 where
  pub next : p.next a.at ≡ CallUnlock lock k
  pub steps : suc a.steps ≡ executed

-- behind the call, whose label has come
pub record IsAt {X : Type 0} (a : Atomic X) (executed : ℕ) (x : X) : Type 0 where
  pub at : a.at ≡ x
  pub steps : a.steps ≡ executed

-- a thread over atomic locks beside one with a buffer, that has executed so many instructions outside the lock object
pub record Beside (X : Type 0) : Type 0 where
  pub setup : Setup X
  pub atomic : Atomic X
  pub buffer : List Store
  pub executed : ℕ

abbrev pub beside : {X : Type 0} → Setup X → Atomic X → List Store → ℕ → Beside X
beside p a b n = record { setup = p; atomic = a; buffer = b; executed = n }

-- after the locked decrement: refused if the sign is set, else the lock is taken
abbrev pub AfterSign : {X : Type 0} → Beside X → Leftover → (lock : ℕ) → (Leftover → X) → (sign : Bool) → Type 0
AfterSign z f l k true = AsksEmpty z.setup z.atomic z.buffer z.executed l k
AfterSign z f l k false = IsAt z.atomic z.executed (k f)

-- where the other one is, for each place of the lock object
abbrev pub StandsAt : {X : Type 0} → Beside X → Leftover → (lock : ℕ) → (Leftover → X) → (place : ℕ) → Type 0
StandsAt z f l k zero = Asks z.setup z.atomic z.executed l k
StandsAt z f l k (suc zero) = AfterSign z f l k f.flags.sign
StandsAt z f l k (suc (suc zero)) = AsksEmpty z.setup z.atomic z.buffer z.executed l k
StandsAt z f l k (suc (suc (suc zero))) = AsksEmpty z.setup z.atomic z.buffer z.executed l k
StandsAt z f l k (suc (suc (suc (suc zero)))) = Asks z.setup z.atomic z.executed l k
StandsAt z f l k (suc (suc (suc (suc (suc zero))))) = IsAt z.atomic z.executed (k f)
StandsAt z f l k (suc (suc (suc (suc (suc (suc zero)))))) = Gives z.setup z.atomic z.executed l k
StandsAt z f l k (suc (suc (suc (suc (suc (suc (suc zero))))))) = IsAt z.atomic z.executed (k f)
StandsAt z f l k _ = ⊥

abbrev pub Stands : {X : Type 0} → Setup X → Atomic X → List Store → ℕ → Point X → Type 0
Stands p a b n (Outside x) = IsAt a n x
Stands p a b n (Inside place f l k) = StandsAt (beside p a b n) f l k place
