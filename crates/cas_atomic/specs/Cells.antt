-- The words of a program: which of them are locks, which a lock guards, and their values.
use Rattle.std.specs.Prelude.{◌≡◌, ℕ, suc, nat_eq, List, [], ◌∷◌, Option, Some, None, slice_get, if◌then◌else◌}
use Rattle.cas_base.specs.declared.kind.Kind.{Kind}
use Rattle.cas_runs.specs.Edge.{Cell, LockWord, SharedWord, TableWord}

abbrev pub first_value : Option Cell → ℕ
first_value (Some LockWord) = 1
first_value (Some (SharedWord kind guard initial)) = initial
first_value (Some (TableWord value)) = value
first_value None = 0

-- the words as they are at first
abbrev pub first_words : List Cell → ℕ → ℕ
first_words cells w = first_value (slice_get cells w)

-- the word is a lock
pub record IsLock (cells : List Cell) (lock : ℕ) : Type 0 where
  pub is : slice_get cells lock ≡ Some LockWord

-- the word is guarded by the lock
pub record IsUnder (cells : List Cell) (lock word : ℕ) : Type 0 where
  pub kind : Kind
  pub initial : ℕ
  pub is : slice_get cells word ≡ Some (SharedWord kind (Some lock) initial)

-- each guard is a lock
pub record AreGuards (cells : List Cell) : Type 0 where
  pub each : (word : ℕ) (kind : Kind) (guard initial : ℕ) →
      slice_get cells word ≡ Some (SharedWord kind (Some guard) initial) → IsLock cells guard

abbrev pub and_word : ℕ → ℕ → Cell → List ℕ → List ℕ
and_word lock n (SharedWord kind (Some g) initial) ns = if nat_eq g lock then n ∷ ns else ns
and_word lock n (SharedWord kind None initial) ns = ns
and_word lock n LockWord ns = ns
and_word lock n (TableWord value) ns = ns

-- the numbers of the words that the lock guards, where the first of these cells has the number n
abbrev pub under : List Cell → ℕ → ℕ → List ℕ
under [] n lock = []
under (c ∷ cs) n lock = and_word lock n c (under cs (suc n) lock)

abbrev pub values : (ℕ → ℕ) → List ℕ → List ℕ
values f [] = []
values f (n ∷ ns) = f n ∷ values f ns
