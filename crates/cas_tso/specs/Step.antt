-- The seven steps of the machine. What a thread does is said of its own state alone (`Takes`), by an act that names the
-- words
-- that it met. What an act needs of memory and output (`Agrees`) and what it does to them is said apart.
use Rattle.std.specs.Prelude.{◌≡◌, ⊤, ℕ, ◌+◌, ◌<◌, List, [], ◌∷◌, ◌++◌, length, Option, Some, None, if◌then◌else◌, nat_eq, nat_lt, slice_get, slice_set}
use Rattle.cas_base.specs.Word.{word_sub}
use Rattle.cas_asm.specs.Ask.{ask_of, stepped}
use Rattle.cas_asm.specs.declared.ask.Ask.{Ask}
use Rattle.cas_asm.specs.declared.ask.Ask.TheVariants as ask
use Rattle.cas_tso.specs.State.{Setup, State, Thread, newest, room}
use Rattle.cas_tso.specs.declared.end.End.{End}
use Rattle.cas_tso.specs.declared.end.End.TheVariants as end
use Rattle.cas_tso.specs.declared.options.Options.{Options}
use Rattle.cas_tso.specs.declared.pending.Pending.{Pending}

-- where an instruction that a thread stands at found the shared word that it loads
pub data Read : Type 0 where
  unread : Read  -- it loads none
  from_buffer : (at word : ℕ) → Read  -- in the thread's own buffer
  from_memory : (at word : ℕ) → Read  -- in memory

-- what a thread does in one step
pub data Act : Type 0 where
  plain : Act  -- 1: an instruction that touches no shared word
  forwarded : (at word : ℕ) → Act  -- 2: an instruction that loads the newest store of the thread's own buffer
  loaded : (at word : ℕ) → Act  -- 2: an instruction that loads a word from memory
  stored : (at value : ℕ) → Act  -- 3: an instruction that appends a store to the buffer
  drained : (at value : ℕ) → Act  -- 4: the oldest store goes to memory
  decremented : (at word : ℕ) → Act  -- 5: a locked decrement, which found this word
  printed : (ticket word : ℕ) → Act  -- 6: an `out` of this word, which is the entry `ticket` of the output
  stopped : Read → End → Act  -- 7: the end Stack, Outs or Bad at the next instruction

-- the thread has no end
abbrev pub IsRunning : Thread → Type 0
IsRunning c = c.ended ≡ None

-- what the thread's next instruction does, given the shared word that it loads
abbrev pub asks : Setup → Thread → (word : Option ℕ) → Ask
asks p c word = ask_of p.image c.cpu word

-- the instruction touches no shared word further
abbrev pub IsPlain : Ask → Type 0
IsPlain ask.Plain = ⊤
IsPlain ask.Finish = ⊤
IsPlain _ = ⊥

-- the end that a thread finds at its next instruction in place of executing it
abbrev pub stop_of : Options → Thread → Ask → Option End
stop_of o c ask.Stack = Some end.Stack
stop_of o c (ask.Bad why) = Some (end.Bad why)
stop_of o c (ask.Out value) = if nat_lt c.counts.outs o.outs then None else Some end.Outs
stop_of o c _ = None

-- the thread's next instruction, with the shared word that it loads, is one that ends it
abbrev pub Stops : Setup → Thread → Read → End → Type 0
Stops p c unread e = stop_of p.options c (asks p c None) ≡ Some e
Stops p c (from_buffer at word) e =
    (asks p c None ≡ ask.Load at) × (newest c.buffer at ≡ Some word)
    × (stop_of p.options c (asks p c (Some word)) ≡ Some e)
Stops p c (from_memory at word) e =
    (asks p c None ≡ ask.Load at) × (newest c.buffer at ≡ None) × (stop_of p.options c (asks p c (Some word)) ≡ Some e)

-- the end of a thread that has executed so many instructions, the last of them that to which this was the answer: Done
-- by the
-- return to the outermost place, else Fuel as soon as no fuel is left
abbrev pub end_after : Options → Ask → (executed : ℕ) → Option End
end_after o ask.Finish n = Some end.Done
end_after o _ n = if nat_eq n o.fuel then Some end.Fuel else None

-- the thread after its next instruction, which asked for this, with the word that it loaded or decremented
abbrev pub executed : Setup → Thread → Ask → (word : ℕ) → Thread
executed p c asked word = record {
  cpu = stepped p.image c.cpu word;
  buffer = c.buffer;
  counts = record c.counts { executed = c.counts.executed + 1 };
  ended = end_after p.options asked (c.counts.executed + 1);
}

-- so many loads more, and so many of them forwarded
abbrev pub counting_load : Thread → (forwards : ℕ) → Thread
counting_load c n =
    record c { counts = record c.counts { loads = c.counts.loads + 1; forwarded = c.counts.forwarded + n } }

abbrev pub after_plain : Setup → Thread → Thread
after_plain p c = executed p c (asks p c None) 0

abbrev pub after_forward : Setup → Thread → (word : ℕ) → Thread
after_forward p c word = counting_load (executed p c (asks p c (Some word)) word) 1

abbrev pub after_load : Setup → Thread → (word : ℕ) → Thread
after_load p c word = counting_load (executed p c (asks p c (Some word)) word) 0

-- the store entered the buffer as the thread had executed so many instructions, the one that stored included
abbrev pub after_store : Setup → Thread → (at value : ℕ) → Thread
after_store p c at value = record (executed p c (asks p c None) 0) {
  buffer = c.buffer ++ record { at = at; value = value; entered = c.counts.executed + 1 } ∷ [];
}

abbrev pub after_drain : Thread → (rest : List Pending) → Thread
after_drain c rest = record c { buffer = rest; counts = record c.counts { drains = c.counts.drains + 1 } }

abbrev pub after_decrement : Setup → Thread → (word : ℕ) → Thread
after_decrement p c word = executed p c (asks p c None) word

abbrev pub after_out : Setup → Thread → Thread
after_out p c = record (executed p c (asks p c None) 0) {
  counts = record c.counts { executed = c.counts.executed + 1; outs = c.counts.outs + 1 };
}

abbrev pub after_stop : Thread → End → Thread
after_stop c e = record c { ended = Some e }

-- the thread c does this by its own state, and is d then; a thread with an end takes only step 4
abbrev pub Takes : Setup → Thread → Act → Thread → Type 0
Takes p c plain d = IsRunning c × IsPlain (asks p c None) × (d ≡ after_plain p c)
Takes p c (forwarded at word) d =
    IsRunning c × (asks p c None ≡ ask.Load at) × (newest c.buffer at ≡ Some word) × IsPlain (asks p c (Some word))
    × (d ≡ after_forward p c word)
Takes p c (loaded at word) d =
    IsRunning c × (asks p c None ≡ ask.Load at) × (newest c.buffer at ≡ None) × IsPlain (asks p c (Some word))
    × (d ≡ after_load p c word)
Takes p c (stored at value) d =
    IsRunning c × (asks p c None ≡ ask.Store at value) × (length c.buffer < room) × (d ≡ after_store p c at value)
Takes p c (drained at value) d =
    (entered : ℕ) × (rest : List Pending) × (c.buffer ≡ record { at = at; value = value; entered = entered } ∷ rest)
    × (d ≡ after_drain c rest)
Takes p c (decremented at word) d =
    IsRunning c × (asks p c None ≡ ask.LockedDec at) × (c.buffer ≡ []) × (d ≡ after_decrement p c word)
Takes p c (printed ticket word) d =
    IsRunning c × (asks p c None ≡ ask.Out word) × (c.counts.outs < p.options.outs) × (d ≡ after_out p c)
Takes p c (stopped read e) d = IsRunning c × Stops p c read e × (d ≡ after_stop c e)

-- what the act finds in memory and output
abbrev pub Agrees : Act → (memory : List ℕ) → (output : List (ℕ × ℕ)) → Type 0
Agrees (loaded at word) m o = slice_get m at ≡ Some word
Agrees (drained at value) m o = at < length m
Agrees (decremented at word) m o = slice_get m at ≡ Some word
Agrees (printed ticket word) m o = ticket ≡ length o
Agrees (stopped (from_memory at word) e) m o = slice_get m at ≡ Some word
Agrees _ m o = ⊤

abbrev pub memory_after : Act → List ℕ → List ℕ
memory_after (drained at value) m = slice_set m at value
memory_after (decremented at word) m = slice_set m at (word_sub word 1)
memory_after _ m = m

abbrev pub output_after : (thread : ℕ) → Act → List (ℕ × ℕ) → List (ℕ × ℕ)
output_after i (printed ticket word) o = o ++ (i, word) ∷ []
output_after i _ o = o

-- the state after an act of the thread i, which is d then
abbrev pub after : (thread : ℕ) → Act → Thread → State → State
after i a d s = record {
  memory = memory_after a s.memory;
  output = output_after i a s.output;
  threads = slice_set s.threads i d;
}

-- one step of the machine: the thread i acts
abbrev pub Step : Setup → State → (thread : ℕ) → Act → State → Type 0
Step p s i a t = (c : Thread) × (d : Thread) × (slice_get s.threads i ≡ Some c) × Takes p c a d
    × Agrees a s.memory s.output × (t ≡ after i a d s)
