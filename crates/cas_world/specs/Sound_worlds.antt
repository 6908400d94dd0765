-- Sound worlds: what the steps of a program need in each reachable world.
use Rattle.std.specs.Prelude.{◌≡◌, ◌↔◌, ℕ, ◌^◌, ◌≤◌, List, ◌∷◌, length, Option, Some, slice_get}
use Rattle.cas_base.specs.declared.act.Act.TheVariants as act
use Rattle.cas_program.specs.Program.{IsProgram, env_of}
use Rattle.cas_step.specs.Env.{Env}
use Rattle.cas_step.specs.Well_formed.{IsWellTypedStore}
use Rattle.cas_step.specs.Sound.{IsSound}
use Rattle.cas_step.specs.Step.{Activation, Config, Step}
use Rattle.cas_typed.specs.Resolved.{TypedModuleTree}
use Rattle.cas_world.specs.Races.{program_world}
use Rattle.cas_world.specs.Turns.{ended, state_of}
use Rattle.cas_world.specs.World.{World, IsNext, Reaches, HasEnded}

-- the world is sound: its store is well-typed, it has as many holders as words, its threads are sound, none is
-- stuck, and each lock that a next step takes or releases exists
pub record IsSoundWorld (modules : List TypedModuleTree) (e : Env) (w : World) : Type 0 where
  pub words : IsWellTypedStore e w.words
  pub holders : length w.holders ≡ length w.words
  pub sound : (i : ℕ) (c : Config) → slice_get w.threads i ≡ Some c → IsSound modules e c
  pub steps : (i : ℕ) (c : Config) (a : Activation) (older : List Activation) → slice_get w.threads i ≡ Some c →
      c.activations ≡ a ∷ older → (s : Step) × IsNext e w i s
  pub locks : (i l : ℕ) (s : Step) → IsNext e w i s → s.act ≡ act.Lock l → (holder : Option ℕ) ×
      (slice_get w.holders l ≡ Some holder)
  pub unlocks : (i l : ℕ) (s : Step) → IsNext e w i s → s.act ≡ act.Unlock l → (holder : Option ℕ) ×
      (slice_get w.holders l ≡ Some holder)

-- In each program with at most 2 ^ 32 threads each reachable world is sound, whether its modules are checked or not.
abbrev pub WorldsAreSound : Type 0
WorldsAreSound = (modules : List TypedModuleTree) (entries : List (List ℕ)) → IsProgram modules entries →
    length entries ≤ 2 ^ 32 →
    (w : World) → Reaches (env_of modules) (program_world modules entries) w → IsSoundWorld modules (env_of modules) w

-- In a reachable world the state of a thread is `ended` exactly if the thread has ended.
abbrev pub EndsAreReported : Type 0
EndsAreReported = (modules : List TypedModuleTree) (entries : List (List ℕ)) → IsProgram modules entries →
    length entries ≤ 2 ^ 32 →
    (w : World) (i : ℕ) (c : Config) → Reaches (env_of modules) (program_world modules entries) w →
    slice_get w.threads i ≡ Some c →
    (state_of (env_of modules) w i ≡ ended) ↔ HasEnded w i
