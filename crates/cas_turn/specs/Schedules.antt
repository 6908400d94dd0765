-- Schedules, and turns that run out of memory.
use Rattle.std.specs.Prelude.{◌≡◌, ℕ, ◌<◌, List, [], ◌∷◌, ◌++◌, length, replicate}
use Rattle.cas_step.specs.Env.{Env}
use Rattle.cas_world.specs.Turns.{state_of, turns, threads_from, rounds}
use Rattle.cas_world.specs.World.{World}
use Rattle.cas_turn.specs.Answers.{MayWantMemory, activations_of}
use Rattle.cas_turn.specs.declared.item.Item.{Item}

-- the turns of a schedule: each item gives its thread as many turns as its count says
abbrev pub unrolled : List Item → List ℕ
unrolled [] = []
unrolled (item ∷ items) = replicate item.count item.thread ++ unrolled items

-- the first of these turns may run out of memory
abbrev pub NextMayWant : Env → World → (left : List ℕ) → Type 0
NextMayWant e w [] = ⊥
NextMayWant e w (i ∷ left) = MayWantMemory (activations_of w i) (state_of e w i)

-- this holds of the world after the first few of these turns, and the next turn may run out of memory
abbrev pub AfterSome : Env → World → (schedule : List ℕ) → (World → Type 0) → Type 0
AfterSome e w schedule P = (done left : List ℕ) × (done ++ left ≡ schedule) × P (turns e w done) ×
    NextMayWant e (turns e w done) left

-- this holds of the world after some whole rounds, fewer than the count, and the first few turns of the next round
abbrev pub AfterSomeRounds : Env → World → (count : ℕ) → (World → Type 0) → Type 0
AfterSomeRounds e w count P = (n : ℕ) × (n < count) × AfterSome e (rounds e w n) (threads_from 0 (length w.threads)) P
