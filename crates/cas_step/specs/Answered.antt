-- Evaluations with their queries answered. In a whole program the thread's memory and all words answer them; in a
-- module alone its own objects, those of the outside, and the words of its share. A query that has no answer makes
-- the evaluation stuck.
use Rattle.std.specs.Prelude.{ℕ, ◌+◌, List, [], ◌∷◌, ◌++◌, length, Option, Some, None, slice_get}
use Rattle.cas_base.specs.declared.act.Why.{Why}
use Rattle.cas_step.specs.Asks as asks
use Rattle.cas_step.specs.Asks.{Asks, Value}
use Rattle.cas_step.specs.Env.{Entity, shared, table}

-- the outcome of an evaluation: its result, the reason why it has none, or that it is stuck; each with the shared
-- words that it read
pub data Got (A : Type 0) : Type 0 where
  got : (reads : List ℕ) → A → Got A
  bad : (reads : List ℕ) → Why → Got A
  got_stuck : (reads : List ℕ) → Got A

-- the same with these reads before
abbrev pub having_read : {A : Type 0} → List ℕ → Got A → Got A
having_read before (got rs a) = got (before ++ rs) a
having_read before (bad rs why) = bad (before ++ rs) why
having_read before (got_stuck rs) = got_stuck (before ++ rs)

-- the outcome if the query has an answer
abbrev pub if_there : {V A : Type 0} → Option V → (V → Got A) → Got A
if_there None next = got_stuck []
if_there (Some v) next = next v

-- the word at a place of a global, if it exists
abbrev pub word_at : (word : (number : ℕ) → Option ℕ) → Option Entity → (place : ℕ) → Option ℕ
word_at word (Some (shared first n guard)) i = word (first + i)
word_at word (Some (table first n)) i = word (first + i)
word_at word _ i = None

-- what reading this word of a global adds to the footprint; words of tables of constants belong to no footprint
abbrev pub trace_of : Option Entity → (place : ℕ) → List ℕ
trace_of (Some (shared first n guard)) i = (first + i) ∷ []
trace_of _ i = []

module _ {O : Type 0} where
  -- how many cells an object has; none if it is dead
  abbrev pub size_of : Option (List (Value O)) → Option ℕ
  size_of None = None
  size_of (Some cells) = Some (length cells)

  -- the value at a place of an object, if it exists
  abbrev pub value_at : Option (List (Value O)) → (place : ℕ) → Option (Value O)
  value_at None p = None
  value_at (Some cells) p = slice_get cells p

  -- the outcome with these words and these cells of objects. All words are read at one moment
  abbrev pub answered : {A : Type 0} → (entity : ℕ → Option Entity) → (word : (number : ℕ) → Option ℕ) →
      (cells : O → Option (List (Value O))) → Asks O A → Got A
  answered entity word cells (asks.gives a) = got [] a
  answered entity word cells (asks.fails why) = bad [] why
  answered entity word cells asks.stuck = got_stuck []
  answered entity word cells (asks.reads g i more) =
      if_there (word_at word (entity g) i) (λ n. having_read (trace_of (entity g) i)
      (answered entity word cells (more n)))
  answered entity word cells (asks.looks o more) = answered entity word cells (more (size_of (cells o)))
  answered entity word cells (asks.loads o p more) =
      if_there (value_at (cells o) p) (λ v. answered entity word cells (more v))
