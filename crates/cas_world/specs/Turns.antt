-- The state of a thread in a world, schedules turn by turn, and rounds over all threads.
use Rattle.std.specs.Prelude.{◌≡◌, ◌↔◌, ℕ, zero, suc, ◌+◌, List, [], ◌∷◌, ◌++◌, length, replicate, Option, Some, None, slice_get}
use Rattle.cas_base.specs.declared.act.Act.{Act}
use Rattle.cas_base.specs.declared.act.Act.TheVariants as act
use Rattle.cas_base.specs.declared.act.Why.{Why}
use Rattle.cas_base.specs.declared.place.Place.{Place}
use Rattle.cas_step.specs.Env.{Env}
use Rattle.cas_step.specs.Step.{Config, Step, step}
use Rattle.cas_world.specs.World.{World, world_after, Interleaves}

-- the state of a thread: it may take its next step; it has ended; it waits for a lock that another thread holds; or
-- its next step is Bad, at a place of a module
pub data State : Type 0 where
  running : Step → State
  ended : State
  waits : (lock holder : ℕ) → State
  bad : Why → (unit : ℕ) → Place → State

-- the state before a Lock of a lock with this holder; in a program each lock exists
abbrev pub at_lock : Step → (lock : ℕ) → (holder : Option (Option ℕ)) → State
at_lock s l (Some (Some i)) = waits l i
at_lock s l (Some None) = running s
at_lock s l None = ended

-- the state before this step
abbrev pub at_step : (holders : List (Option ℕ)) → Step → Act → State
at_step holders s (act.Lock l) = at_lock s l (slice_get holders l)
at_step holders s (act.Bad why) = bad why s.unit s.place
at_step holders s _ = running s

abbrev pub at_next : (holders : List (Option ℕ)) → Option Step → State
at_next holders None = ended
at_next holders (Some s) = at_step holders s s.act

abbrev pub at_config : Env → World → Option Config → State
at_config e w None = ended
at_config e w (Some c) = at_next w.holders (step e w.words c)

-- the state of the thread with this number
abbrev pub state_of : Env → World → (thread : ℕ) → State
state_of e w i = at_config e w (slice_get w.threads i)

-- the world after a turn of a thread in this state: it takes its step, or nothing changes
abbrev pub after_turn : World → (thread : ℕ) → State → World
after_turn w i (running s) = world_after w i s
after_turn w i ended = w
after_turn w i (waits l holder) = w
after_turn w i (bad why unit p) = w

abbrev pub turn : Env → World → (thread : ℕ) → World
turn e w i = after_turn w i (state_of e w i)

-- the world after a schedule, a list of thread numbers; a turn of a thread that may not step changes nothing
abbrev pub turns : Env → World → (schedule : List ℕ) → World
turns e w [] = w
turns e w (i ∷ schedule) = turns e (turn e w i) schedule

-- the numbers of so many threads, from this one on
abbrev pub threads_from : (thread count : ℕ) → List ℕ
threads_from i zero = []
threads_from i (suc n) = i ∷ threads_from (i + 1) n

-- a round over all threads in order
abbrev pub round : Env → World → World
round e w = turns e w (threads_from 0 (length w.threads))

-- this many rounds; after one that changes nothing, none does
abbrev pub rounds : Env → World → (count : ℕ) → World
rounds e w zero = w
rounds e w (suc n) = rounds e (round e w) n

-- the threads of a schedule whose turns are taken
abbrev pub taker : (thread : ℕ) → State → List ℕ
taker i (running s) = i ∷ []
taker i ended = []
taker i (waits l holder) = []
taker i (bad why unit p) = []

abbrev pub taken : Env → World → (schedule : List ℕ) → List ℕ
taken e w [] = []
taken e w (i ∷ schedule) = taker i (state_of e w i) ++ taken e (turn e w i) schedule

abbrev pub taken_in_rounds : Env → World → (count : ℕ) → List ℕ
taken_in_rounds e w zero = []
taken_in_rounds e w (suc n) = taken e w (threads_from 0 (length w.threads)) ++ taken_in_rounds e (round e w) n

-- A schedule leads to the same world as the interleaving of its turns that are taken; and so do rounds.
abbrev pub TurnsInterleave : Type 0
TurnsInterleave = (e : Env) (first w : World) (threads schedule : List ℕ) → Interleaves e first threads w →
    Interleaves e first (threads ++ taken e w schedule) (turns e w schedule)

abbrev pub RoundsInterleave : Type 0
RoundsInterleave = (e : Env) (first w : World) (threads : List ℕ) (count : ℕ) → Interleaves e first threads w →
    Interleaves e first (threads ++ taken_in_rounds e w count) (rounds e w count)

-- A turn that is taken changes its thread.
abbrev pub TurnsMove : Type 0
TurnsMove = (e : Env) (w : World) (i : ℕ) (s : Step) → state_of e w i ≡ running s →
    slice_get (turn e w i).threads i ≡ slice_get w.threads i → ⊥

-- A turn that changes nothing still changes nothing when it is repeated; and after a round that changes nothing,
-- none does.
abbrev pub TurnsStay : Type 0
TurnsStay = (e : Env) (w : World) (i count : ℕ) → turn e w i ≡ w → turns e w (replicate count i) ≡ w

abbrev pub RoundsStay : Type 0
RoundsStay = (e : Env) (w : World) (count : ℕ) → round e w ≡ w → rounds e w count ≡ w

-- A round changes nothing exactly if no turn in it is taken.
abbrev pub RoundsTakeTurns : Type 0
RoundsTakeTurns = (e : Env) (w : World) → (round e w ≡ w) ↔ (taken e w (threads_from 0 (length w.threads)) ≡ [])
