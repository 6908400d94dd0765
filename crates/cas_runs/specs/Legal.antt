-- Legal labels: what threads do together on words behind atomic locks.
use Rattle.std.specs.Prelude.{◌≡◌, ℕ, ◌<◌, nat_eq, List, [], ◌∷◌, Some, None, if◌then◌else◌}
use Rattle.cas_runs.specs.Label.{RunLabel, Lock, Unlock, Out, Done, Enter, Back, Call, Leave}
use Rattle.cas_runs.specs.Edge.{Cell, LockWord, SharedWord, TableWord}

-- a label with the number of its thread
pub record ThreadLabel : Type 0 where
  pub thread : ℕ
  pub label : RunLabel

-- a lock, as the labels so far leave it: free, with these words, or held
pub data LockState : Type 0 where
  Free : (words : List ℕ) → LockState
  IsHeld : LockState

abbrev pub value_if_guarded : ℕ → Cell → List ℕ → List ℕ
value_if_guarded lock (SharedWord kind (Some guard) initial) words =
    if nat_eq guard lock then initial ∷ words else words
value_if_guarded lock (SharedWord kind None initial) words = words
value_if_guarded lock LockWord words = words
value_if_guarded lock (TableWord value) words = words

-- the initial values of the words that the lock guards
abbrev pub initial_words : List Cell → ℕ → List ℕ
initial_words [] lock = []
initial_words (c ∷ cs) lock = value_if_guarded lock c (initial_words cs lock)

abbrev pub after_label : ℕ → RunLabel → LockState → LockState
after_label lock (Lock l words) state = if nat_eq l lock then IsHeld else state
after_label lock (Unlock l words) state = if nat_eq l lock then Free words else state
after_label lock (Out w) state = state
after_label lock Done state = state
after_label lock (Enter f c) state = state
after_label lock (Back c) state = state
after_label lock (Call f c) state = state
after_label lock (Leave c) state = state

-- the lock after these labels, the newest first
abbrev pub state_of : List Cell → ℕ → List ThreadLabel → LockState
state_of cells lock [] = Free (initial_words cells lock)
state_of cells lock (l ∷ ls) = after_label lock l.label (state_of cells lock ls)

-- a Lock takes a lock that is free, and brings the words that it was left with. No call crosses
abbrev pub IsLegalNext : List Cell → List ThreadLabel → RunLabel → Type 0
IsLegalNext cells before (Lock l words) = state_of cells l before ≡ Free words
IsLegalNext cells before (Unlock l words) = Unit {0}
IsLegalNext cells before (Out w) = Unit {0}
IsLegalNext cells before Done = Unit {0}
IsLegalNext cells before (Enter f c) = ⊥
IsLegalNext cells before (Back c) = ⊥
IsLegalNext cells before (Call f c) = ⊥
IsLegalNext cells before (Leave c) = ⊥

-- legal labels of so many threads over these words, the newest first: each is of a thread that is there
abbrev pub IsLegal : List Cell → (threads : ℕ) → List ThreadLabel → Type 0
IsLegal cells n [] = Unit {0}
IsLegal cells n (l ∷ ls) = (l.thread < n) × IsLegalNext cells ls l.label × IsLegal cells n ls

-- the labels of one thread
abbrev pub projection : ℕ → List ThreadLabel → List RunLabel
projection i [] = []
projection i (l ∷ ls) = if nat_eq l.thread i then l.label ∷ projection i ls else projection i ls
