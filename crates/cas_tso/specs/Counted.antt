-- What holds of each state that the machine reaches: the counts count what they say, and each place is one of memory.
use Rattle.std.specs.Prelude.{◌≡◌, ℕ, ◌+◌, ◌<◌, ◌≤◌, List, [], ◌∷◌, length, None, Some, slice_get}
use Rattle.cas_tso.specs.State.{Setup, State, Thread, room}
use Rattle.cas_tso.specs.declared.pending.Pending.{Pending}

-- the greatest fuel
abbrev pub most_fuel : ℕ
most_fuel = 4000000000

-- a thread's counts fit each other: not more loads than instructions, not more forwarded than loads, each store entered
-- by an
-- instruction and is either in the buffer or was drained, each output was made by an instruction
pub record IsCounted (c : Thread) : Type 0 where
  pub loads : c.counts.loads ≤ c.counts.executed
  pub forwarded : c.counts.forwarded ≤ c.counts.loads
  pub stores : c.counts.drains + length c.buffer ≤ c.counts.executed
  pub outs : c.counts.outs ≤ c.counts.executed
  pub fuel : c.counts.executed ≤ most_fuel
  pub full : length c.buffer ≤ room

-- a thread of a machine: a running one has fuel left, it has made no more outputs than it may, and its stores are to
-- memory
pub record IsKeptThread (p : Setup) (c : Thread) : Type 0 where
  pub counted : IsCounted c
  pub fuel : c.counts.executed ≤ p.options.fuel
  pub running : c.ended ≡ None → c.counts.executed < p.options.fuel
  pub outs : c.counts.outs ≤ p.options.outs
  pub within : (k : ℕ) (x : Pending) → slice_get c.buffer k ≡ Some x → x.at < length p.image.words

-- the outputs that threads have made, together
abbrev pub all_outs : List Thread → ℕ
all_outs [] = 0
all_outs (c ∷ cs) = c.counts.outs + all_outs cs

-- a state of a machine: memory has the image's words, as many outputs stand in the output as the threads have made, and
-- there is
-- a thread for each entry
pub record IsKept (p : Setup) (s : State) : Type 0 where
  pub memory : length s.memory ≡ length p.image.words
  pub outputs : length s.output ≡ all_outs s.threads
  pub count : length s.threads ≡ length p.image.entries
  pub threads : (i : ℕ) (c : Thread) → slice_get s.threads i ≡ Some c → IsKeptThread p c
