-- A thread of the code, with the words and holders of its world, before and after a turn.
use Rattle.std.specs.Prelude.{◌≡◌, ℕ, List, ◌∷◌, Option, Some, None, slice_get}
use Rattle.cas_base.specs.declared.act.Act.TheVariants as act
use Rattle.cas_program.specs.Program.{env_of}
use Rattle.cas_step.specs.Well_formed.{IsWellTypedStore}
use Rattle.cas_step.specs.Sound.{IsSound}
use Rattle.cas_step.specs.Step as step
use Rattle.cas_step.specs.Step.{Activation, Step}
use Rattle.cas_thread.specs.Thread.{IsThread}
use Rattle.cas_thread.specs.declared.config.Config.{Config}
use Rattle.cas_typed.specs.Resolved.{TypedModuleTree}
use Rattle.cas_whole.specs.Program_of.{IsProgramOf}
use Rattle.cas_whole.specs.declared.program.Program.{Program}
use Rattle.cas_world.specs.Turns.{State, at_next}
use Rattle.cas_world.specs.World.{holders_after, out_after}

-- Some program and thread are those of the code.
pub record IsThere (p : Program) (k : Config) : Type 0 where
  pub modules : List TypedModuleTree
  pub names : List (List ℕ)
  pub config : step.Config
  pub program : IsProgramOf p modules names
  pub thread : IsThread p k config

-- A thread of a sound world: it is sound, the store is well-typed, the thread has a step if it hasn't ended, and a
-- lock that its step takes exists.
pub record MayTurn (words : List ℕ) (holders : List (Option ℕ)) (modules : List TypedModuleTree)
    (c : step.Config) : Type 0 where
  pub sound : IsSound modules (env_of modules) c
  pub words_fit : IsWellTypedStore (env_of modules) words
  pub steps : (a : Activation) (older : List Activation) → c.activations ≡ a ∷ older → (s : Step) ×
      (step.step (env_of modules) words c ≡ Some s)
  pub locks : (l : ℕ) (s : Step) → step.step (env_of modules) words c ≡ Some s → s.act ≡ act.Lock l →
      (holder : Option ℕ) × (slice_get holders l ≡ Some holder)

-- this holds of the program's modules and of the thread that the thread of the code stands for
abbrev pub ForThread : Program → Config → (List TypedModuleTree → step.Config → Type 0) → Type 0
ForThread p k P = (modules : List TypedModuleTree) (names : List (List ℕ)) (c : step.Config) →
    IsProgramOf p modules names → IsThread p k c → P modules c

-- its state
abbrev pub state_in : (words : List ℕ) → (holders : List (Option ℕ)) → List TypedModuleTree → step.Config → State
state_in words holders modules c = at_next holders (step.step (env_of modules) words c)

-- the holder of a lock, if it has one
abbrev pub holder_in : Option (Option ℕ) → Option ℕ
holder_in None = None
holder_in (Some holder) = holder

-- The thread with this number took the step: the thread, the words, the holders and the output are those after it.
pub record IsAfter (p : Program) (thread : ℕ) (holders : List (Option ℕ)) (out : List (ℕ × ℕ)) (s : Step)
    (k : Config) (words : List ℕ) (held : List (Option ℕ)) (put : List (ℕ × ℕ)) : Type 0 where
  pub next : IsThread p k s.next
  pub words_are : words ≡ s.words
  pub held_is : held ≡ holders_after s.act thread holders
  pub put_is : put ≡ out_after s.act thread out

-- The thread, the words, the holders and the output are as they were.
pub record IsUnmoved (p : Program) (c : step.Config) (words : List ℕ) (holders : List (Option ℕ)) (out : List (ℕ × ℕ))
    (k : Config) (now : List ℕ) (held : List (Option ℕ)) (put : List (ℕ × ℕ)) : Type 0 where
  pub thread : IsThread p k c
  pub words_are : now ≡ words
  pub held_is : held ≡ holders
  pub put_is : put ≡ out
