-- A small language of critical sections, on which what the definitions refuse is shown: one lock, the one word that
-- it guards, and a register.
use Rattle.std.specs.Prelude.{ℕ, List, [], ◌∷◌, Option, Some, None}
use Rattle.cas_base.specs.declared.kind.Kind.TheVariants.{U32}
use Rattle.cas_runs.specs.Edge.{Edge, LockWord, SharedWord, IsOfKind}
use Rattle.cas_runs.specs.Machine.{Act, Quiet, Emits, Locks, Bad, Stops, Taken, Ended, Unlocks, Prints, Ends}
use Rattle.cas_runs.specs.Machine.{Footprint, Machine}

pub data Instruction : Type 0 where
  Take : Instruction
  Give : Instruction
  Load : Instruction
  Store : (word : ℕ) → Instruction
  Print : Instruction
  Spin : Instruction

-- where a program stands: what is left of it, the register, and the word where the lock is held; or it has ended
pub data Standing : Type 0 where
  At : (rest : List Instruction) (register : ℕ) (held : Option ℕ) → Standing
  Over : Standing

-- the lock is word 0, and it guards word 1
abbrev pub one_lock : Edge
one_lock = record { cells = LockWord ∷ SharedWord U32 (Some 0) 0 ∷ []; words = λ name. None; functions = [] }

abbrev pub standing : List Instruction → ℕ → Option ℕ → Standing
standing rest register held = At rest register held

-- the first of the words that came
abbrev pub first_of_words : List ℕ → Option ℕ
first_of_words [] = None
first_of_words (w ∷ ws) = Some w

abbrev pub gives : List Instruction → ℕ → Option ℕ → Act Standing
gives rest register (Some w) = Emits (Unlocks 0 (w ∷ [])) (standing rest register None)
gives rest register None = Bad

abbrev pub takes : List Instruction → ℕ → Option ℕ → Act Standing
takes rest register None = Locks 0 (λ words. standing rest register (first_of_words words))
takes rest register (Some w) = Stops (Taken 0)

abbrev pub loads : List Instruction → Option ℕ → Act Standing
loads rest (Some w) = Quiet (standing rest w (Some w))
loads rest None = Bad

abbrev pub stores : List Instruction → ℕ → ℕ → Option ℕ → Act Standing
stores rest register word (Some w) = Quiet (standing rest register (Some word))
stores rest register word None = Bad

abbrev pub act_of : List Instruction → ℕ → Option ℕ → Act Standing
act_of [] register held = Emits Ends Over
act_of (Take ∷ rest) register held = takes rest register held
act_of (Give ∷ rest) register held = gives rest register held
act_of (Load ∷ rest) register held = loads rest held
act_of (Store word ∷ rest) register held = stores rest register word held
act_of (Print ∷ rest) register held = Emits (Prints register) (standing rest register held)
act_of (Spin ∷ rest) register held = Quiet (standing (Spin ∷ rest) register held)

abbrev pub no_footprint : Footprint
no_footprint = record { reads = []; writes = [] }

-- the word is touched where the lock is held
abbrev pub touched : List Instruction → Option ℕ → Footprint
touched (Load ∷ rest) (Some w) = record { reads = 1 ∷ []; writes = [] }
touched (Store word ∷ rest) (Some w) = record { reads = []; writes = 1 ∷ [] }
touched _ _ = no_footprint

abbrev pub act_at : Standing → Act Standing
act_at (At rest register held) = act_of rest register held
act_at Over = Stops Ended

abbrev pub footprint_at : Standing → Footprint
footprint_at (At rest register held) = touched rest held
footprint_at Over = no_footprint

-- a program as it runs, where each step costs this
abbrev pub sections : ℕ → List Instruction → Machine Standing
sections price program = record {
  start = standing program 0 None;
  act = act_at;
  price = λ x. price;
  footprint = footprint_at;
  activations = λ x. [];
  called = λ x. None;
}

-- what the program stores are words
abbrev pub StoresWords : List Instruction → Type 0
StoresWords [] = Unit {0}
StoresWords (Store word ∷ rest) = IsOfKind word U32 × StoresWords rest
StoresWords (Take ∷ rest) = StoresWords rest
StoresWords (Give ∷ rest) = StoresWords rest
StoresWords (Load ∷ rest) = StoresWords rest
StoresWords (Print ∷ rest) = StoresWords rest
StoresWords (Spin ∷ rest) = StoresWords rest
