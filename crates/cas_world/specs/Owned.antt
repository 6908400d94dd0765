-- Ownership of locks: each activation of a thread owns a part of the locks that the thread holds, and the parts are
-- disjoint.
--
--     newest   set s            its part: s, the set of locks at its first item
--     older    set t, a call    its part: t without the locks that the called function's `holds` names
--
-- A set has items of one module; sets of different modules are compared by the words of their locks.
use Rattle.std.specs.Prelude.{◌≡◌, ⊤, ℕ, ◌+◌, ◌-◌, ◌≤◌, ◌==◌, Bool, true, false, List, [], ◌∷◌, Option, Some, None, slice_get, All}
use Rattle.cas_base.specs.declared.decl.Decl.{Decl}
use Rattle.cas_own.specs.Checked.{IsChecked, held_set}
use Rattle.cas_own.specs.Locks.{Locks}
use Rattle.cas_program.specs.Program.{IsProgram, env_of}
use Rattle.cas_step.specs.Env.{FunctionAt, Entity, lock, Env}
use Rattle.cas_step.specs.Operators.{truth}
use Rattle.cas_step.specs.Step.{Activation, Config, Step}
use Rattle.cas_typed.specs.Resolved.{TypedFunTree, TypedModuleTree}
use Rattle.cas_world.specs.Races.{program_world}
use Rattle.cas_world.specs.Lock_flow.{LoopContext, HasLockFlow}
use Rattle.cas_world.specs.World.{World, MayStep, Reaches, world_after}
use Rattle.cas_typed.specs.Modules.{decls_of}

-- the entity is the lock with this word
abbrev pub is_word : Option Entity → (word : ℕ) → Bool
is_word (Some (lock n)) w = n == w
is_word _ w = false

-- how many locks of a set have this word
module _ (entity : ℕ → Option Entity) where
  abbrev pub count : Locks → (word : ℕ) → ℕ
  count [] w = 0
  count (l ∷ s) w = truth (is_word (entity l) w) + count s w

-- 1 if the thread holds the lock, else 0
abbrev pub holding : Option (Option ℕ) → (thread : ℕ) → ℕ
holding None i = 0
holding (Some None) i = 0
holding (Some (Some j)) i = truth (j == i)

-- the declarations of a module, and the set of locks at the start of its function at this place
abbrev pub decls_in : Option TypedModuleTree → List Decl
decls_in None = []
decls_in (Some m) = decls_of m

abbrev pub own_of : List Decl → Option TypedFunTree → Locks
own_of ds None = []
own_of ds (Some it) = held_set ds it.item

abbrev pub own_in : (place : ℕ) → Option TypedModuleTree → Locks
own_in n None = []
own_in n (Some m) = own_of (decls_of m) (slice_get m.functions n)

module _ (modules : List TypedModuleTree) (e : Env) where
  -- the same for the module with this number, and for a function
  abbrev pub decls_at : (unit : ℕ) → List Decl
  decls_at n = decls_in (slice_get modules n)

  abbrev pub own_at : FunctionAt → Locks
  own_at f = own_in f.place (slice_get modules f.unit)

  -- how many locks of a module's set have this word, and how many of the locks that a function's caller holds
  abbrev pub counted : (unit : ℕ) → Locks → (word : ℕ) → ℕ
  counted n s w = count (e.entity n) s w

  abbrev pub held : FunctionAt → (word : ℕ) → ℕ
  held f w = counted f.unit (own_at f) w

  -- the older activations have this flow, each with its set after the call, which includes what the called function
  -- holds; f is the function that the first of them called. The outermost activation has no caller, and its function
  -- holds no lock at its start
  abbrev pub CallersFlow : FunctionAt → List Activation → List Locks → Type 0
  CallersFlow f [] [] = (w : ℕ) → held f w ≡ 0
  CallersFlow f [] (s ∷ ss) = ⊥
  CallersFlow f (a ∷ older) [] = ⊥
  CallersFlow f (a ∷ older) (s ∷ ss) =
      ((w : ℕ) → held f w ≤ counted a.function.unit s w) × (x : LoopContext) ×
      HasLockFlow (decls_at a.function.unit) (own_at a.function) a.cont x (Some s) × CallersFlow a.function older ss

  -- how many parts of the older activations have the lock with this word
  abbrev pub kept : FunctionAt → List Activation → List Locks → (word : ℕ) → ℕ
  kept f [] ss w = 0
  kept f (a ∷ older) [] w = 0
  kept f (a ∷ older) (s ∷ ss) w = (counted a.function.unit s w - held f w) + kept a.function older ss w

  -- all activations have this flow, the newest with the set at its first item
  abbrev pub StackFlows : List Activation → List Locks → Type 0
  StackFlows [] [] = ⊤
  StackFlows [] (s ∷ ss) = ⊥
  StackFlows (a ∷ older) [] = ⊥
  StackFlows (a ∷ older) (s ∷ ss) = (x : LoopContext) ×
      HasLockFlow (decls_at a.function.unit) (own_at a.function) a.cont x (Some s) × CallersFlow a.function older ss

  -- how many parts of all activations have the lock
  abbrev pub parts : List Activation → List Locks → (word : ℕ) → ℕ
  parts [] ss w = 0
  parts (a ∷ older) [] w = 0
  parts (a ∷ older) (s ∷ ss) w = counted a.function.unit s w + kept a.function older ss w

  -- the thread holds the locks of its activations' parts, each in one part, and no others
  pub record Owns (holders : List (Option ℕ)) (thread : ℕ) (config : Config) : Type 0 where
    pub sets : List Locks
    pub stands : StackFlows config.activations sets
    pub parts_are : (l : ℕ) → parts config.activations sets l ≡ holding (slice_get holders l) thread

  -- this holds for each thread of the world, and each holder is a thread of the world
  pub record IsOwned (w : World) : Type 0 where
    pub each : (i : ℕ) (c : Config) → slice_get w.threads i ≡ Some c → Owns w.holders i c
    pub holders_are : (l j : ℕ) → slice_get w.holders l ≡ Some (Some j) → (c : Config) ×
        (slice_get w.threads j ≡ Some c)

-- In each program of checked modules, each reachable world is owned.
abbrev pub WorldsAreOwned : Type 0
WorldsAreOwned = (modules : List TypedModuleTree) (entries : List (List ℕ)) → IsProgram modules entries →
    All IsChecked modules →
    (w : World) → Reaches (env_of modules) (program_world modules entries) w → IsOwned modules (env_of modules) w

-- In each program of checked modules, each step that a thread may take in an owned world leads to an owned world.
abbrev pub StepsKeepOwned : Type 0
StepsKeepOwned = (modules : List TypedModuleTree) (entries : List (List ℕ)) → IsProgram modules entries →
    All IsChecked modules →
    (w : World) (i : ℕ) (s : Step) → IsOwned modules (env_of modules) w → MayStep (env_of modules) w i s →
    IsOwned modules (env_of modules) (world_after w i s)
