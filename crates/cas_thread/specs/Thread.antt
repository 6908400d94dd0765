-- Threads of a program of the code, and their next steps.
use Rattle.std.specs.Prelude.{◌≡◌, ℕ, List, [], ◌∷◌, Option, Some, None, slice_get}
use Rattle.cas_base.specs.declared.act.Act.{Act}
use Rattle.cas_base.specs.declared.act.Act.TheVariants as act
use Rattle.cas_program.specs.Program.{env_of, entries_of}
use Rattle.cas_step.specs.Asks.{word}
use Rattle.cas_step.specs.Env.{FunctionAt}
use Rattle.cas_step.specs.Well_formed.{IsWellTypedStore}
use Rattle.cas_step.specs.Sound.{IsSound}
use Rattle.cas_step.specs.Step.{Activation, Config, Step, start, step}
use Rattle.cas_typed.specs.Resolved.{TypedModuleTree}
use Rattle.cas_whole.specs.Program_of.{IsProgramOf}
use Rattle.cas_whole.specs.declared.program.Program.{Program}
use Rattle.cas_thread.specs.Frames.{AreThread}
use Rattle.cas_thread.specs.declared.config.Config as code

-- the thread of the code is this one of the program
abbrev pub IsThread : Program → code.Config → Config → Type 0
IsThread p k c = AreThread p.modules k c

-- the thread of the code is a sound thread of the program that hasn't ended, and these words are a well-typed store
pub record CanStep (p : Program) (k : code.Config) (ws : List ℕ) : Type 0 where
  pub modules : List TypedModuleTree
  pub names : List (List ℕ)
  pub c : Config
  pub newest : Activation
  pub older : List Activation
  pub is_program : IsProgramOf p modules names
  pub is_thread : IsThread p k c
  pub sound : IsSound modules (env_of modules) c
  pub words : IsWellTypedStore (env_of modules) ws
  pub going : c.activations ≡ newest ∷ older

-- the thread of the code is a thread of the program that hasn't ended
pub record IsUnfinished (p : Program) (k : code.Config) : Type 0 where
  pub modules : List TypedModuleTree
  pub names : List (List ℕ)
  pub c : Config
  pub newest : Activation
  pub older : List Activation
  pub is_program : IsProgramOf p modules names
  pub is_thread : IsThread p k c
  pub going : c.activations ≡ newest ∷ older

-- this holds of the thread's next step over these words
abbrev pub OfNextStep : Program → code.Config → (words : List ℕ) → (Step → Type 0) → Type 0
OfNextStep p k ws P = (modules : List TypedModuleTree) (names : List (List ℕ)) (c : Config) (s : Step) →
    IsProgramOf p modules names → IsThread p k c → step (env_of modules) ws c ≡ Some s → P s

-- the thread of the code is the one with this number at its start
abbrev pub IsStarted : Program → (thread : ℕ) → code.Config → Type 0
IsStarted p n k = (modules : List TypedModuleTree) (names : List (List ℕ)) (f : FunctionAt) →
    IsProgramOf p modules names → slice_get (entries_of modules names) n ≡ Some f →
    IsThread p k (start (env_of modules) f (word n ∷ []))

-- the word of the lock that an act takes, if it takes one
abbrev pub lock_of : Act → Option ℕ
lock_of (act.Lock n) = Some n
lock_of _ = None
