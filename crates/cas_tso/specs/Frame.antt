-- What a step leaves untouched, and what each thread sees of a word after it.
use Rattle.std.specs.Prelude.{◌≡◌, ⊤, ℕ, length, Option, Some, None, if◌then◌else◌, nat_eq, slice_get}
use Rattle.cas_base.specs.Word.{word_sub}
use Rattle.cas_tso.specs.State.{State, Thread, view}
use Rattle.cas_tso.specs.Step.{Act, forwarded, loaded, drained, decremented, printed, stored, stopped}

-- the word of memory that an act writes: a drained one or a decremented one
abbrev pub written : Act → Option ℕ
written (drained at value) = Some at
written (decremented at word) = Some at
written _ = None

-- the act makes an output
abbrev pub IsOutput : Act → Type 0
IsOutput (printed ticket word) = ⊤
IsOutput _ = ⊥

-- the act puts a store into the buffer of its thread or takes one out
abbrev pub MovesStore : Act → Type 0
MovesStore (stored at value) = ⊤
MovesStore (drained at value) = ⊤
MovesStore _ = ⊥

-- the act executes no instruction: a drain, or an end in place of an instruction
abbrev pub IsBeside : Act → Type 0
IsBeside (drained at value) = ⊤
IsBeside (stopped read e) = ⊤
IsBeside _ = ⊥

-- the one state is the other after an act of the thread i: all other threads, all other words of memory and, but for an
-- `out`, the output are as before
pub record IsFramed (i : ℕ) (a : Act) (s t : State) : Type 0 where
  pub threads : (j : ℕ) → (j ≡ i → ⊥) → slice_get t.threads j ≡ slice_get s.threads j
  pub count : length t.threads ≡ length s.threads
  pub words : (k : ℕ) → (written a ≡ Some k → ⊥) → slice_get t.memory k ≡ slice_get s.memory k
  pub size : length t.memory ≡ length s.memory
  pub output : (IsOutput a → ⊥) → t.output ≡ s.output

-- the one thread is the other after its act: but for a store and a drain the buffer is as before, and a drain or an end
-- leaves the processor, and a drain the end
pub record IsKeptBeside (a : Act) (c d : Thread) : Type 0 where
  pub buffer : (MovesStore a → ⊥) → d.buffer ≡ c.buffer
  pub processor : IsBeside a → d.cpu ≡ c.cpu

-- a word of memory after an act, by the word before
abbrev pub word_after : Act → (at word : ℕ) → ℕ
word_after (drained at value) k w = if nat_eq at k then value else w
word_after (decremented at word) k w = if nat_eq at k then word_sub word 1 else w
word_after _ k w = w

-- a thread's view of a word after its own act, by its view before: a store is seen at once, and its drain changes
-- nothing
abbrev pub view_after : Act → (at seen : ℕ) → ℕ
view_after (stored at value) k w = if nat_eq at k then value else w
view_after (decremented at word) k w = if nat_eq at k then word_sub word 1 else w
view_after _ k w = w

-- the shared word that an act loads, with its place
abbrev pub loaded_word : Act → Option (ℕ × ℕ)
loaded_word (forwarded at word) = Some (at, word)
loaded_word (loaded at word) = Some (at, word)
loaded_word _ = None

-- what a thread sees of a word
abbrev pub sees : State → Thread → (at : ℕ) → ℕ
sees s c k = view c.buffer s.memory k
