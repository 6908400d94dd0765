-- Rounds: in its turn a thread drains its due stores and executes one instruction, and the threads take turns in the
-- order of
-- their numbers.
use Rattle.std.specs.Prelude.{◌≡◌, ℕ, ◌+◌, ◌<◌, true, false, length, Some, slice_get}
use Rattle.cas_tso.specs.Refusal.{StepsAs}
use Rattle.cas_tso.specs.State.{Setup, State, Thread}
use Rattle.cas_tso.specs.Timed.{is_due, IsEnded}
use Rattle.cas_tso.specs.declared.end.End.{End}
use Rattle.cas_tso.specs.declared.refused.Choice.TheVariants as choice

module _ (p : Setup) (hold : ℕ) where
  -- a store of the thread is due, or none is
  abbrev pub IsDue : State → (thread : ℕ) → Type 0
  IsDue s i = (c : Thread) → slice_get s.threads i ≡ Some c → is_due p.image hold c ≡ true

  abbrev pub IsNotDue : State → (thread : ℕ) → Type 0
  IsNotDue s i = (c : Thread) → slice_get s.threads i ≡ Some c → is_due p.image hold c ≡ false

  abbrev pub HasEnd : State → (thread : ℕ) → Type 0
  HasEnd s i = (c : Thread) → slice_get s.threads i ≡ Some c → (e : End) × (c.ended ≡ Some e)

  -- the thread drains stores that are due
  pub data Drained (i : ℕ) (s : State) : State → Type 0 where
    none : Drained i s s
    one_more : (t u : State) → Drained i s t → IsDue t i → StepsAs p t (choice.Drain i) u → Drained i s u

  -- a turn of the thread: all stores that are due are drained, and then it takes a step, if it has no end
  pub data Turn (i : ℕ) (s : State) : State → Type 0 where
    steps : (t u : State) → Drained i s t → IsNotDue t i → StepsAs p t (choice.Run i) u → Turn i s u
    rests : (t : State) → Drained i s t → IsNotDue t i → HasEnd t i → Turn i s t

  -- the first threads had their turns, so many of them
  pub data Turns (s : State) : (done : ℕ) → State → Type 0 where
    begin : Turns s 0 s
    next : (n : ℕ) (t u : State) → Turns s n t → n < length s.threads → Turn n t u → Turns s (n + 1) u

  -- rounds, each over all threads, and each begun in a state that isn't ended
  pub data Rounds (s : State) : State → Type 0 where
    no_round : Rounds s s
    one_round : (t u : State) → Rounds s t → (IsEnded t → ⊥) → Turns t (length t.threads) u → Rounds s u
