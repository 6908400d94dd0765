-- Threads that call a lock object: what a thread does between its calls is any program.
use Rattle.std.specs.Prelude.{ℕ}
use Rattle.cas_runs.specs.Edge.{Edge}
use Rattle.cas_atomic.specs.Leftover.{Leftover}
use Rattle.cas_atomic.specs.Object.{LockObject}

-- what becomes of an instruction that loads, by the loaded word: it is executed, or is Bad, or finds the stack full
pub data After (X : Type 0) : Type 0 where
  Goes : (next : X) → After X
  Fails : After X
  Halts : After X

-- what the next instruction of a program does, as a program's state X says it
pub data Event (X : Type 0) : Type 0 where
  Plain : (next : X) → Event X
  Load : (word : ℕ) (next : ℕ → After X) → Event X
  Store : (word value : ℕ) (next : X) → Event X
  -- a locked decrement: it goes on by the word that was there
  Decrement : (word : ℕ) (next : ℕ → X) → Event X
  -- a call goes on by what the lock object leaves of flags and words below the stack's top
  CallLock : (lock : ℕ) (next : Leftover → X) → Event X
  CallUnlock : (lock : ℕ) (next : Leftover → X) → Event X
  Prints : (value : ℕ) (next : X) → Event X
  Ends : (next : X) → Event X
  -- the program is over
  Over : Event X
  -- the stack is full
  NoRoom : Event X
  Wrong : Event X

-- the words, how many threads, where each begins, what its instructions do, and the lock object that it calls
pub record Setup (X : Type 0) : Type 0 where
  pub edge : Edge
  pub threads : ℕ
  pub first : ℕ → X
  -- the flags and the words below the stack's top, as a call finds them
  pub flags : X → Leftover
  pub next : X → Event X
  pub object : LockObject
