-- What a step touches: shared words of its thread's share, and blocks of memory. A language names its accesses one
-- after another, and the share, the memory and the footprint are computed from them here.
use Rattle.std.specs.Prelude.{ℕ, zero, suc, ◌+◌, nat_eq, nat_lt, Bool, false, List, [], ◌∷◌, length, Option, Some}
use Rattle.std.specs.Prelude.{None, slice_get, slice_set, if◌then◌else◌}
use Rattle.cas_runs.specs.Label.{NameBytes, Share}
use Rattle.cas_runs.specs.Edge.{Cell, SharedWord, TableWord, Stretch, Edge}
use Rattle.cas_runs.specs.Naming.{Home, Value, Memory, with_block}
use Rattle.cas_runs.specs.Machine.{Footprint}

-- the accesses of a step from the first to the last, each with what follows on the value read, and then what it does,
-- or that it fails
pub data Accesses (L : Type 0) : Type 0 where
  Reads : (global : NameBytes) (offset : ℕ) (next : ℕ → Accesses L) → Accesses L
  Writes : (global : NameBytes) (offset word : ℕ) (next : Accesses L) → Accesses L
  Loads : (home : Home) (place : ℕ) (next : Value → Accesses L) → Accesses L
  Stores : (home : Home) (place : ℕ) (value : Value) (next : Accesses L) → Accesses L
  -- how many words the block has, if it is there still
  Looks : (home : Home) (next : Option ℕ → Accesses L) → Accesses L
  Then : (last : L) → Accesses L
  Fails : Accesses L

-- goes on with a value, and fails where there is none: using what has no value has no meaning
abbrev pub with_value : {V L : Type 0} → Option V → (V → Accesses L) → Accesses L
with_value None next = Fails
with_value (Some v) next = next v

-- what accesses change
pub record Holding : Type 0 where
  pub share : Share
  pub memory : Memory

-- the words of a lock, where it is in the share
abbrev pub words_in : Share → ℕ → Option (List ℕ)
words_in [] lock = None
words_in (h ∷ hs) lock = if nat_eq h.lock lock then Some h.words else words_in hs lock

-- the share with a lock more, at its place in the order
abbrev pub with_lock : Share → ℕ → List ℕ → Share
with_lock [] lock words = record { lock = lock; words = words } ∷ []
with_lock (h ∷ hs) lock words =
    if nat_lt lock h.lock then record { lock = lock; words = words } ∷ h ∷ hs else h ∷ with_lock hs lock words

abbrev pub without_lock : Share → ℕ → Share
without_lock [] lock = []
without_lock (h ∷ hs) lock = if nat_eq h.lock lock then hs else h ∷ without_lock hs lock

-- the share with other words of a lock
abbrev pub with_words : Share → ℕ → List ℕ → Share
with_words [] lock words = []
with_words (h ∷ hs) lock words =
    if nat_eq h.lock lock then record { lock = lock; words = words } ∷ hs else h ∷ with_words hs lock words

-- the lock guards the word
abbrev pub is_guarded_by : ℕ → Cell → Bool
is_guarded_by lock (SharedWord kind (Some guard) initial) = nat_eq guard lock
is_guarded_by lock _ = false

-- the place of a word among those of its lock
abbrev pub place_among : List Cell → (lock word : ℕ) → ℕ
place_among [] lock word = 0
place_among (c ∷ cs) lock zero = 0
place_among (c ∷ cs) lock (suc word) =
    if is_guarded_by lock c then place_among cs lock word + 1 else place_among cs lock word

-- the word at this place
abbrev pub word_in : Option (List ℕ) → (place : ℕ) → Option ℕ
word_in None place = None
word_in (Some words) place = slice_get words place

-- what a step has done so far
pub record Doing : Type 0 where
  pub holding : Holding
  pub footprint : Footprint

-- a word was read
abbrev pub has_read : Doing → (word : ℕ) → Doing
has_read d word = record d { footprint = record d.footprint { reads = word ∷ d.footprint.reads } }

-- a word was written: these are the lock's words now
abbrev pub has_written : Doing → (word lock : ℕ) → List ℕ → Doing
has_written d word lock words = record {
  holding = record d.holding { share = with_words d.holding.share lock words };
  footprint = record d.footprint { writes = word ∷ d.footprint.writes };
}

-- a block was stored into: this is the block now
abbrev pub has_stored : Doing → Home → List Value → Doing
has_stored d home block =
    record d { holding = record d.holding { memory = with_block d.holding.memory home (Some block) } }

-- a step with its accesses made: what it does at last, or none where it fails
pub record Performed (L : Type 0) : Type 0 where
  pub last : Option L
  pub holding : Holding
  pub footprint : Footprint

-- the accesses are made, and this is done at last
abbrev pub performs : {L : Type 0} → L → Doing → Performed L
performs last d = record { last = Some last; holding = d.holding; footprint = d.footprint }

-- it has touched what came before
abbrev pub failed : {L : Type 0} → Doing → Performed L
failed d = record { last = None; holding = d.holding; footprint = d.footprint }

-- the word is read, where it is there
abbrev pub reads_as : {L : Type 0} → Option ℕ → (word : ℕ) → Doing → (ℕ → Doing → Performed L) → Performed L
reads_as None word d go = failed d
reads_as (Some v) word d go = go v (has_read d word)

-- a shared word is read in the share alone. A word of a table may be read at any time, and leaves no trace
abbrev pub reads_cell : {L : Type 0} → List Cell → Option Cell → (word : ℕ) → Doing → (ℕ → Doing → Performed L) →
    Performed L
reads_cell cells (Some (SharedWord kind (Some guard) initial)) word d go =
    reads_as (word_in (words_in d.holding.share guard) (place_among cells guard word)) word d go
reads_cell cells (Some (TableWord value)) word d go = go value d
reads_cell cells _ word d go = failed d

-- a word that a lock guards, by its number and its place among the lock's
pub record Under : Type 0 where
  pub lock : ℕ
  pub word : ℕ
  pub place : ℕ

abbrev pub under : List Cell → (lock word : ℕ) → Under
under cells lock word = record { lock = lock; word = word; place = place_among cells lock word }

-- the word is written, where its lock is in the share
abbrev pub writes_in : {L : Type 0} → Option (List ℕ) → Under → (value : ℕ) → Doing → (Doing → Performed L) →
    Performed L
writes_in None u value d go = failed d
writes_in (Some words) u value d go =
    if nat_lt u.place (length words) then go (has_written d u.word u.lock (slice_set words u.place value)) else failed d

-- a shared word is written in the share alone
abbrev pub writes_cell : {L : Type 0} → List Cell → Option Cell → (word value : ℕ) → Doing → (Doing → Performed L) →
    Performed L
writes_cell cells (Some (SharedWord kind (Some guard) initial)) word value d go =
    writes_in (words_in d.holding.share guard) (under cells guard word) value d go
writes_cell cells _ word value d go = failed d

-- the number of a word of a global
abbrev pub number_in : Option Stretch → (offset : ℕ) → Option ℕ
number_in None offset = None
number_in (Some s) offset = if nat_lt offset s.size then Some (s.first + offset) else None

-- the same by the word's number, if there is one
abbrev pub reads_word : {L : Type 0} → List Cell → Option ℕ → Doing → (ℕ → Doing → Performed L) → Performed L
reads_word cells None d go = failed d
reads_word cells (Some word) d go = reads_cell cells (slice_get cells word) word d go

-- the same by the word's number, if there is one
abbrev pub writes_word : {L : Type 0} → List Cell → Option ℕ → (value : ℕ) → Doing → (Doing → Performed L) → Performed L
writes_word cells None value d go = failed d
writes_word cells (Some word) value d go = writes_cell cells (slice_get cells word) word value d go

-- the word of a block at this place
abbrev pub value_in : Option (List Value) → (place : ℕ) → Option Value
value_in None place = None
value_in (Some block) place = slice_get block place

-- the value is loaded, where it is there
abbrev pub loads_as : {L : Type 0} → Option Value → Doing → (Value → Performed L) → Performed L
loads_as None d go = failed d
loads_as (Some v) d go = go v

-- the value is stored, where the place is in the block
abbrev pub stores_in : {L : Type 0} → Option (List Value) → Home → (place : ℕ) → Value → Doing →
    (Doing → Performed L) → Performed L
stores_in None home place value d go = failed d
stores_in (Some block) home place value d go =
    if nat_lt place (length block) then go (has_stored d home (slice_set block place value)) else failed d

-- how many words a block has
abbrev pub length_of : Option (List Value) → Option ℕ
length_of None = None
length_of (Some block) = Some (length block)

-- the step with its accesses made
abbrev pub performed : {L : Type 0} → Edge → Accesses L → Doing → Performed L
performed edge (Reads global offset next) d =
    reads_word edge.cells (number_in (edge.words global) offset) d (λ v e. performed edge (next v) e)
performed edge (Writes global offset word next) d =
    writes_word edge.cells (number_in (edge.words global) offset) word d (λ e. performed edge next e)
performed edge (Loads home place next) d =
    loads_as (value_in (d.holding.memory home) place) d (λ v. performed edge (next v) d)
performed edge (Stores home place value next) d =
    stores_in (d.holding.memory home) home place value d (λ e. performed edge next e)
performed edge (Looks home next) d = performed edge (next (length_of (d.holding.memory home))) d
performed edge (Then last) d = performs last d
performed edge Fails d = failed d
