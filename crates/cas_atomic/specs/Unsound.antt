-- Lock objects that aren't sound. Each differs from the accepted body in an instruction or two, and two threads that
-- take and give back one lock show it.
use Rattle.std.specs.Prelude.{ℕ, List, [], ◌∷◌, None}
use Rattle.cas_asm.specs.Flags.{cleared}
use Rattle.cas_runs.specs.Edge.{Edge, LockWord}
use Rattle.cas_atomic.specs.Object.{LockObject, Instr, LockDec, JumpNotSign, CompareZero, JumpLessEqual, Jump, Return, StoreWord, AddOne}
use Rattle.cas_atomic.specs.Program.{Setup, Event, CallLock, CallUnlock, Over}
use Rattle.cas_atomic.specs.Sound.{IsSound}

-- where such a thread is: before the lock, with it, or over
pub data Stage : Type 0 where
  Asks : Stage
  Has : Stage
  IsThrough : Stage

abbrev pub stage_event : Stage → Event Stage
stage_event Asks = CallLock 0 (λ f. Has)
stage_event Has = CallUnlock 0 (λ f. IsThrough)
stage_event IsThrough = Over

-- one word, which is a lock
abbrev pub one_lock : Edge
one_lock = record { cells = LockWord ∷ []; words = λ name. None; functions = [] }

abbrev pub two_threads : LockObject → Setup Stage
two_threads o = record {
  edge = one_lock;
  threads = 2;
  first = λ i. Asks;
  flags = λ x. record { flags = cleared; below = λ k. 0 };
  next = stage_event;
  object = o;
}

-- a body with unlock at this instruction
abbrev pub body : List Instr → (unlock : ℕ) → LockObject
body code unlock = record { code = code; lock = 0; unlock = unlock }

-- a thread that finds the lock taken goes on: `jle` leads to `ret`
abbrev pub enters_taken : LockObject
enters_taken =
    body (LockDec ∷ JumpNotSign 5 ∷ CompareZero ∷ JumpLessEqual 5 ∷ Jump 0 ∷ Return ∷ StoreWord 1 ∷ Return ∷ []) 6

-- without the look at the word that waits until it is above 0
abbrev pub never_waits : LockObject
never_waits = body (LockDec ∷ JumpNotSign 3 ∷ Jump 0 ∷ Return ∷ StoreWord 1 ∷ Return ∷ []) 4

-- the accepted body with another instruction in the place of unlock's store
abbrev pub unlocks_by : Instr → LockObject
unlocks_by store =
    body (LockDec ∷ JumpNotSign 5 ∷ CompareZero ∷ JumpLessEqual 2 ∷ Jump 0 ∷ Return ∷ store ∷ Return ∷ []) 6

-- unlock adds 1 in place of storing 1
abbrev pub adds_one : LockObject
adds_one = unlocks_by AddOne

-- unlock stores 0
abbrev pub stores_zero : LockObject
stores_zero = unlocks_by (StoreWord 0)

-- two threads show that it isn't sound
abbrev pub IsUnsound : LockObject → Type 0
IsUnsound o = IsSound (two_threads o) → ⊥
