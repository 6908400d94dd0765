-- What an operator, an address or a condition asks for before it answers. It stores nothing, so where its answer isn't
-- used it may be left out.
use Rattle.std.specs.Prelude.{ℕ, Option, Some, None}
use Rattle.cas_runs.specs.Label.{NameBytes}
use Rattle.cas_runs.specs.Naming.{Home, Value}
use Rattle.cas_runs.specs.Access.{Accesses, Reads, Loads, Looks, Then, Fails}

pub data Query (V : Type 0) : Type 0 where
  asks_word : (global : NameBytes) → (offset : ℕ) → (ℕ → Query V) → Query V
  asks_place : (home : Home) → (place : ℕ) → (Value → Query V) → Query V
  asks_length : (home : Home) → (Option ℕ → Query V) → Query V
  answers : V → Query V
  no_answer : Query V

-- a step goes on with the answer, and fails where there is none
abbrev pub asking : {V L : Type 0} → Query V → (V → Accesses L) → Accesses L
asking (asks_word g offset next) rest = Reads g offset (λ n. asking (next n) rest)
asking (asks_place home place next) rest = Loads home place (λ v. asking (next v) rest)
asking (asks_length home next) rest = Looks home (λ n. asking (next n) rest)
asking (answers v) rest = rest v
asking no_answer rest = Fails

-- a query goes on with the answer of another
abbrev pub and_asks : {V W : Type 0} → Query V → (V → Query W) → Query W
and_asks (asks_word g offset next) rest = asks_word g offset (λ n. and_asks (next n) rest)
and_asks (asks_place home place next) rest = asks_place home place (λ v. and_asks (next v) rest)
and_asks (asks_length home next) rest = asks_length home (λ n. and_asks (next n) rest)
and_asks (answers v) rest = rest v
and_asks no_answer rest = no_answer

-- what accesses that store nothing ask for
abbrev pub query_of : {V : Type 0} → Accesses V → Query V
query_of (Reads g offset next) = asks_word g offset (λ n. query_of (next n))
query_of (Loads home place next) = asks_place home place (λ v. query_of (next v))
query_of (Looks home next) = asks_length home (λ n. query_of (next n))
query_of (Then v) = answers v
query_of _ = no_answer

-- the answer, if there is one
abbrev pub answer_of : {V : Type 0} → Option V → Query V
answer_of None = no_answer
answer_of (Some v) = answers v
