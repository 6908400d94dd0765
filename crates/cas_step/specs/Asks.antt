-- Values, and evaluation as a tree of queries. One evaluation serves both a whole program, where the thread's memory
-- and all words answer the queries, and a module alone, where its share and the outside do.
use Rattle.std.specs.Prelude.{ℕ, Option, Some, None}
use Rattle.cas_base.specs.declared.act.Why.{Why}

-- a value: a word, the null pointer, or a pointer to a place in an object, from 0 to the object's length
pub data Value (O : Type 0) : Type 0 where
  word : ℕ → Value O
  null : Value O
  pointer : (object : O) → (place : ℕ) → Value O

-- an evaluation. It gives a result; it fails for a reason (the step is Bad); or it is stuck, as in no typed module:
-- a pointer is used as a word, a word as a pointer, or what is named doesn't exist. Before that it makes queries: it
-- reads the word at a place of a global, it looks up how many cells an object has (none if the object is dead), and
-- it loads a cell of an object
pub data Asks (O A : Type 0) : Type 0 where
  gives : A → Asks O A
  fails : Why → Asks O A
  stuck : Asks O A
  reads : (item place : ℕ) → (ℕ → Asks O A) → Asks O A
  looks : (object : O) → (Option ℕ → Asks O A) → Asks O A
  loads : (object : O) → (place : ℕ) → (Value O → Asks O A) → Asks O A

-- this evaluation, and then the next one on its result
abbrev pub and_then : {O A B : Type 0} → Asks O A → (A → Asks O B) → Asks O B
and_then (gives a) next = next a
and_then (fails why) next = fails why
and_then stuck next = stuck
and_then (reads g i more) next = reads g i (λ n. and_then (more n) next)
and_then (looks o more) next = looks o (λ size. and_then (more size) next)
and_then (loads o p more) next = loads o p (λ v. and_then (more v) next)

-- a value as a word
abbrev pub word_in : {O : Type 0} → Value O → Asks O ℕ
word_in (word n) = gives n
word_in null = stuck
word_in (pointer o p) = stuck

-- a value as a pointer: the object and the place to which it points; null points nowhere
abbrev pub pointed : {O : Type 0} → Value O → Asks O (Option (O × ℕ))
pointed (word n) = stuck
pointed null = gives None
pointed (pointer o p) = gives (Some (o, p))
