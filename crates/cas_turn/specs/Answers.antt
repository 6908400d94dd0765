-- What a turn answers, and what is shown of a thread in a world.
use Rattle.std.specs.Prelude.{◌≡◌, ◌⊎◌, ℕ, List, [], ◌∷◌, Option, Some, None, slice_get}
use Rattle.cas_base.specs.declared.act.Act.{Act}
use Rattle.cas_base.specs.declared.act.Act.TheVariants as act
use Rattle.cas_step.specs.Step.{Activation, Config, Step}
use Rattle.cas_thread.specs.Effects.{FirstStatementIs, IsCall}
use Rattle.cas_world.specs.Turns.{State, running, ended, waits, bad}
use Rattle.cas_world.specs.World.{World}
use Rattle.cas_turn.specs.declared.answer.ThreadState.{ThreadState}
use Rattle.cas_turn.specs.declared.answer.ThreadState.TheVariants as shown
use Rattle.cas_turn.specs.declared.answer.WorldAnswer.{WorldAnswer}
use Rattle.cas_turn.specs.declared.answer.WorldAnswer.TheVariants as answer

-- the thread may take its next step, of which this holds
abbrev pub IsRunning : State → (Step → Type 0) → Type 0
IsRunning (running s) P = P s
IsRunning _ P = ⊥

-- the activations of a thread, if there is one
abbrev pub activations_in : Option Config → List Activation
activations_in None = []
activations_in (Some c) = c.activations

abbrev pub activations_of : World → (thread : ℕ) → List Activation
activations_of w i = activations_in (slice_get w.threads i)

-- the next step of these activations is a call
abbrev pub BeginsCall : List Activation → Type 0
BeginsCall [] = ⊥
BeginsCall (a ∷ older) = FirstStatementIs IsCall a.cont

-- a turn may run out of memory only if the thread may take its next step, and that step is a call or outputs a word;
-- it never does if the next step is Bad or waits for a lock, or if the thread has ended
abbrev pub MayWantMemory : List Activation → State → Type 0
MayWantMemory activations (running s) = BeginsCall activations ⊎ ((n : ℕ) × (s.act ≡ act.Out n))
MayWantMemory activations _ = ⊥

-- the answer is the state of the thread, or that the turn ran out of memory, if that is possible
abbrev pub Answers : List Activation → State → WorldAnswer → Type 0
Answers activations state answer.Memory = MayWantMemory activations state
Answers activations state (answer.Waits l holder) = state ≡ waits l holder
Answers activations state answer.Ended = state ≡ ended
Answers activations state (answer.Bad why unit p) = state ≡ bad why unit p

-- the state of a thread, as the code shows it
abbrev pub state_shown : State → ThreadState
state_shown (running s) = shown.Running
state_shown ended = shown.Ended
state_shown (waits l holder) = shown.Waits l holder
state_shown (bad why unit p) = shown.Bad why unit p

-- the state of a thread whose next step, with this act, waits for no lock
abbrev pub free_shown : Step → Act → ThreadState
free_shown s (act.Bad why) = shown.Bad why s.unit s.place
free_shown s _ = shown.Running
