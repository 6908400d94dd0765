-- Threads of the code before and after a step.
use Rattle.std.specs.Prelude.{◌≡◌, ℕ, ◌+◌, slice_get, Bool, List, [], ◌∷◌, Option, Some, None, Result}
use Rattle.cas_base.specs.declared.act.Act.{Act}
use Rattle.cas_typed.specs.declared.typed.Typed.{Typed}
use Rattle.cas_thread.specs.Frames.{AreThread}
use Rattle.cas_thread.specs.declared.config.Config as code
use Rattle.cas_step.specs.Continuation.{Effect, effect_of}
use Rattle.cas_step.specs.Step.{Activation, Object, StepContext, Step, entity_in, eval_context_of, newest_step}
use Rattle.cas_step.specs.Env as env
use Rattle.cas_step.specs.Env.{Env, shared, lock}
use Rattle.cas_memory.specs.Entities.{entity_if}
use Rattle.cas_memory.specs.declared.entity.Entity.{Entity}
use Rattle.cas_eval.specs.Answer.{answer}
use Rattle.cas_eval.specs.declared.values.NoResult.{NoResult}
use Rattle.cas_program.specs.Program.{env_of}
use Rattle.cas_typed.specs.Resolved.{TypedModuleTree}
use Rattle.cas_whole.specs.Program_of.{IsProgramOf}
use Rattle.cas_whole.specs.declared.program.Program.{Program}
use Rattle.cas_thread.specs.Control.{after}
use Rattle.cas_thread.specs.Effects.{FirstStatementIs, IsCall}
use Rattle.cas_thread.specs.Eval_state.{eval_state_in}

-- the activations after the first item of the newest one
abbrev pub gone : Bool → List Activation → List Activation
gone is [] = []
gone is (a ∷ older) = record { serial = a.serial; function = a.function; target = a.target; cont = after is a.cont } ∷
    older

-- the serial number of the newest activation, if there is one
abbrev pub newest_serial : List Activation → Option ℕ
newest_serial [] = None
newest_serial (a ∷ older) = Some a.serial

-- the act is that of the step, and the thread of the code is the thread after it
abbrev pub IsTaken : List Typed → Option Act → code.Config → Step → Type 0
IsTaken ts act k s = (act ≡ Some s.act) × AreThread ts k s.next

-- the same, and these are the words after the step
abbrev pub IsStep : List Typed → Option Act → code.Config → (words : List ℕ) → Step → Type 0
IsStep ts act k ws s = (act ≡ Some s.act) × AreThread ts k s.next × (ws ≡ s.words)

-- the items of the newest activation's module stand for what the environment says
abbrev pub AreEntities : List (Option Entity) → Env → StepContext → Type 0
AreEntities its e h = (g : ℕ) → entity_if (slice_get its g) ≡ entity_in e h g

-- the thread of the code and its words are those of this context
pub record IsStepContext (ts : List Typed) (its : List (Option Entity)) (k : code.Config) (ws : List ℕ) (e : Env)
    (h : StepContext) : Type 0 where
  pub thread : AreThread ts k h.config
  pub newest : h.config.activations ≡ h.newest ∷ h.older
  pub words : ws ≡ h.words
  pub entities : AreEntities its e h

-- for each program and thread that the code's stand for, this holds of the modules and of the context of the next step
abbrev pub AtThread : Program → code.Config → (List TypedModuleTree → StepContext → Type 0) → Type 0
AtThread p k P = (ms : List TypedModuleTree) (names : List (List ℕ)) (h : StepContext) → IsProgramOf p ms names →
    AreThread p.modules k h.config →
    h.config.activations ≡ h.newest ∷ h.older → P ms h

-- the same with these words
abbrev pub AtStep : Program → code.Config → (words : List ℕ) → (List TypedModuleTree → StepContext → Type 0) → Type 0
AtStep p k ws P = AtThread p k (λ ms h. ws ≡ h.words → P ms h)

-- the same, if the step is that of a call
abbrev pub AtCall : Program → code.Config → (words : List ℕ) → (List TypedModuleTree → StepContext → Type 0) → Type 0
AtCall p k ws P = AtStep p k ws (λ ms h. FirstStatementIs IsCall h.newest.cont → P ms h)

-- this holds of the step
abbrev pub OfStep : (Step → Type 0) → List TypedModuleTree → StepContext → Type 0
OfStep P ms h = (s : Step) → newest_step (env_of ms) h ≡ Some s → P s

-- the effect of the step, as its evaluation answers
abbrev pub evaluated_effect : List TypedModuleTree → StepContext → Result (Effect Object) NoResult
evaluated_effect ms h = let e = env_of ms in answer (eval_state_in e h)
    (effect_of (eval_context_of e h) (e.function h.newest.function).ret h.newest.cont)

-- the word of a lock, and the number of a word of a shared global
abbrev pub lock_word : Option env.Entity → Option ℕ
lock_word (Some (lock n)) = Some n
lock_word _ = None

abbrev pub shared_word : Option env.Entity → (place : ℕ) → Option ℕ
shared_word (Some (shared first n guard)) i = Some (first + i)
shared_word _ i = None
