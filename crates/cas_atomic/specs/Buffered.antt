-- The same threads with store buffers over one memory. Between their programs they run the instructions of the lock
-- object, one step each.
use Rattle.std.specs.Prelude.{⊤, ◌≡◌, ℕ, suc, ◌<◌, nat_eq, List, [], ◌∷◌, ◌++◌, Option, Some, None, slice_get, if◌then◌else◌}
use Rattle.cas_base.specs.Word.{word_add}
use Rattle.cas_runs.specs.Label.{RunLabel}
use Rattle.cas_runs.specs.Label as label
use Rattle.cas_runs.specs.Legal.{ThreadLabel}
use Rattle.cas_atomic.specs.Leftover.{Leftover, one_less, after_decrement, after_compare, less_or_equal}
use Rattle.cas_atomic.specs.Buffer.{Store, store, view, put}
use Rattle.cas_atomic.specs.Cells.{first_words, under, values}
use Rattle.cas_atomic.specs.Labels.{listed}
use Rattle.cas_atomic.specs.Object.{Instr, LockDec, JumpNotSign, CompareZero, JumpLessEqual, Jump, Return, StoreWord, AddOne}
use Rattle.cas_atomic.specs.Program.{Setup, Event, After, Goes, Fails, Halts, Plain, Load, Decrement, CallLock, CallUnlock, Prints, Ends, NoRoom, Wrong}
use Rattle.cas_atomic.specs.Program as program

-- where a thread is: in its program, or in the lock object, at a place, with its flags, for a lock, and the program
-- that it returns to
pub data Point (X : Type 0) : Type 0 where
  Outside : (x : X) → Point X
  Inside : (place : ℕ) (flags : Leftover) (lock : ℕ) (back : Leftover → X) → Point X

-- how a thread has ended, if it has
pub data End : Type 0 where
  Running : End
  IsDone : End
  OutOfFuel : End
  IsFull : End
  HasFailed : End
  OutOfOuts : End

-- a thread, with the count of the instructions that it executed outside the lock object
pub record Thread (X : Type 0) : Type 0 where
  pub at : Point X
  pub buffer : List Store
  pub ended : End
  pub executed : ℕ

abbrev pub thread : {X : Type 0} → Point X → List Store → End → ℕ → Thread X
thread at buffer ended n = record { at = at; buffer = buffer; ended = ended; executed = n }

pub record State (X : Type 0) : Type 0 where
  pub memory : ℕ → ℕ
  pub output : List (ℕ × ℕ)
  pub threads : ℕ → Thread X

abbrev pub state_with : {X : Type 0} → (ℕ → ℕ) → List (ℕ × ℕ) → (ℕ → Thread X) → State X
state_with m o ts = record { memory = m; output = o; threads = ts }

abbrev pub opening : {X : Type 0} → Setup X → State X
opening p = state_with (first_words p.edge.cells) [] (λ i. thread (Outside (p.first i)) [] Running 0)

-- only the thread i has changed
abbrev pub moved : {X : Type 0} → State X → ℕ → Thread X → State X
moved s i c = state_with s.memory s.output (put i c s.threads)

abbrev pub moved_in : {X : Type 0} → State X → (ℕ → ℕ) → ℕ → Thread X → State X
moved_in s m i c = state_with m s.output (put i c s.threads)

abbrev pub out_of : {X : Type 0} → Thread X → X → Thread X
out_of c y = thread (Outside y) c.buffer c.ended (suc c.executed)

abbrev pub within : {X : Type 0} → Thread X → ℕ → Leftover → ℕ → (Leftover → X) → Thread X
within c place f l k = thread (Inside place f l k) c.buffer c.ended c.executed

-- what is listed at a locked decrement in the lock object: a Lock where it gives 0
abbrev pub if_zero : {A : Type 0} → ℕ → A → Option A
if_zero result a = if nat_eq result 0 then Some a else None

-- the thread whose turn it is, in this state
pub record Turn (X : Type 0) : Type 0 where
  pub setup : Setup X
  pub before : State X
  pub thread : ℕ

abbrev pub turn : {X : Type 0} → Setup X → State X → ℕ → Turn X
turn p s i = record { setup = p; before = s; thread = i }

-- a call of the lock object: at a place, with its flags, for a lock, and the program that it returns to by its flags
pub record Call (X : Type 0) : Type 0 where
  pub place : ℕ
  pub flags : Leftover
  pub lock : ℕ
  pub back : Leftover → X

abbrev pub call : {X : Type 0} → ℕ → Leftover → ℕ → (Leftover → X) → Call X
call place f l k = record { place = place; flags = f; lock = l; back = k }

-- the thread
abbrev pub actor : {X : Type 0} → Turn X → Thread X
actor w = w.before.threads w.thread

-- the state after the thread has gone to this place, with these flags
abbrev pub jumped : {X : Type 0} → Turn X → Call X → ℕ → Leftover → State X
jumped w x place f = moved w.before w.thread (within (actor w) place f x.lock x.back)

-- what a locked decrement of the call's lock leaves there
abbrev pub decremented : {X : Type 0} → Turn X → Call X → ℕ
decremented w x = one_less (w.before.memory x.lock)

-- the words that the lock guards, where words are these
abbrev pub guarded : {X : Type 0} → Turn X → Call X → (ℕ → ℕ) → List ℕ
guarded w x words = values words (under w.setup.edge.cells 0 x.lock)

-- the state after a plain store to the call's lock
abbrev pub stored : {X : Type 0} → Turn X → Call X → (value : ℕ) → State X
stored w x v = moved w.before w.thread (thread (Inside (suc x.place) x.flags x.lock x.back)
    ((actor w).buffer ++ store x.lock v ∷ []) (actor w).ended (actor w).executed)

-- what is listed as it enters the buffer: an Unlock, with what the thread sees of the words
abbrev pub released : {X : Type 0} → Turn X → Call X → RunLabel
released w x = label.Unlock x.lock (guarded w x (view (actor w).buffer w.before.memory))

-- one instruction of the lock object, with what is listed
abbrev pub Executes : {X : Type 0} → Turn X → Call X → Instr → State X → Option RunLabel → Type 0
Executes w x LockDec t o = ((actor w).buffer ≡ [])
    × (t ≡ moved_in w.before (put x.lock (decremented w x) w.before.memory) w.thread
    (within (actor w) (suc x.place) (after_decrement x.flags (decremented w x)) x.lock x.back))
    × (o ≡ if_zero (decremented w x) (label.Lock x.lock (guarded w x w.before.memory)))
Executes w x (JumpNotSign to) t o =
    (t ≡ jumped w x (if x.flags.flags.sign then suc x.place else to) x.flags) × (o ≡ None)
Executes w x CompareZero t o =
    (t ≡ jumped w x (suc x.place) (after_compare x.flags (view (actor w).buffer w.before.memory x.lock))) × (o ≡ None)
Executes w x (JumpLessEqual to) t o =
    (t ≡ jumped w x (if less_or_equal x.flags then to else suc x.place) x.flags) × (o ≡ None)
Executes w x (Jump to) t o = (t ≡ jumped w x to x.flags) × (o ≡ None)
Executes w x Return t o =
    (t ≡ moved w.before w.thread
    (thread (Outside (x.back x.flags)) (actor w).buffer (actor w).ended (actor w).executed))
    × (o ≡ None)
Executes w x (StoreWord v) t o = (t ≡ stored w x v) × (o ≡ Some (released w x))
Executes w x AddOne t o =
    (t ≡ stored w x (word_add (view (actor w).buffer w.before.memory x.lock) 1)) × (o ≡ Some (released w x))

-- the thread's next instruction would be this, and a load would find this word
pub data WouldBe {X : Type 0} (p : Setup X) (m : ℕ → ℕ) (c : Thread X) (event : Event X) (after : After X)
    : Type 0 where
  outright : (x : X) → c.at ≡ Outside x → p.next x ≡ event → WouldBe p m c event after
  by_load : (x : X) (w : ℕ) (k : ℕ → After X) → c.at ≡ Outside x → p.next x ≡ Load w k → k (view c.buffer m w) ≡ after →
      WouldBe p m c event after

-- an end that a thread may have at its next instruction
abbrev pub MayEnd : {X : Type 0} → Setup X → (ℕ → ℕ) → Thread X → End → Type 0
MayEnd p m c Running = ⊥
MayEnd p m c IsDone = ⊥
MayEnd p m c OutOfFuel = ⊤
MayEnd p m c IsFull = WouldBe p m c NoRoom Halts
MayEnd p m c HasFailed = WouldBe p m c Wrong Fails
MayEnd {X} p m c OutOfOuts = (x : X) × (v : ℕ) × (y : X) × (c.at ≡ Outside x) × (p.next x ≡ Prints v y)

-- one step by the thread i, with what is listed at it
pub data Step {X : Type 0} (p : Setup X) (s : State X) (i : ℕ) : State X → Option RunLabel → Type 0 where
  plain : (x y : X) → (s.threads i).at ≡ Outside x → p.next x ≡ Plain y →
      Step p s i (moved s i (out_of (s.threads i) y)) None
  load : (x : X) (w : ℕ) (k : ℕ → After X) (y : X) → (s.threads i).at ≡ Outside x → p.next x ≡ Load w k →
      k (view (s.threads i).buffer s.memory w) ≡ Goes y → Step p s i (moved s i (out_of (s.threads i) y)) None
  put_off : (x : X) (w v : ℕ) (y : X) → (s.threads i).at ≡ Outside x → p.next x ≡ program.Store w v y →
      Step p s i
      (moved s i (thread (Outside y) ((s.threads i).buffer ++ store w v ∷ []) (s.threads i).ended
      (suc (s.threads i).executed))) None
  decrement : (x : X) (w : ℕ) (k : ℕ → X) → (s.threads i).at ≡ Outside x → p.next x ≡ Decrement w k →
      (s.threads i).buffer ≡ [] →
      Step p s i (moved_in s (put w (one_less (s.memory w)) s.memory) i (out_of (s.threads i) (k (s.memory w)))) None
  call_lock : (x : X) (l : ℕ) (k : Leftover → X) → (s.threads i).at ≡ Outside x → p.next x ≡ CallLock l k →
      Step p s i
      (moved s i (thread (Inside p.object.lock (p.flags x) l k) (s.threads i).buffer (s.threads i).ended
      (suc (s.threads i).executed))) None
  call_unlock : (x : X) (l : ℕ) (k : Leftover → X) → (s.threads i).at ≡ Outside x → p.next x ≡ CallUnlock l k →
      Step p s i
      (moved s i (thread (Inside p.object.unlock (p.flags x) l k) (s.threads i).buffer (s.threads i).ended
      (suc (s.threads i).executed))) None
  prints : (x : X) (v : ℕ) (y : X) → (s.threads i).at ≡ Outside x → p.next x ≡ Prints v y →
      Step p s i (state_with s.memory ((i, v) ∷ s.output) (put i (out_of (s.threads i) y) s.threads))
      (Some (label.Out v))
  done : (x y : X) → (s.threads i).at ≡ Outside x → p.next x ≡ Ends y →
      Step p s i (moved s i (thread (Outside y) (s.threads i).buffer IsDone (suc (s.threads i).executed)))
      (Some label.Done)
  inside : (place : ℕ) (f : Leftover) (l : ℕ) (k : Leftover → X) (instr : Instr) (t : State X) (o : Option RunLabel) →
      (s.threads i).at ≡ Inside place f l k → slice_get p.object.code place ≡ Some instr →
      Executes (turn p s i) (call place f l k) instr t o → Step p s i t o
  stops : (why : End) → MayEnd p s.memory (s.threads i) why →
      Step p s i (moved s i (thread (s.threads i).at (s.threads i).buffer why (s.threads i).executed)) None
  drain : (w v : ℕ) (rest : List Store) → (s.threads i).buffer ≡ store w v ∷ rest →
      Step p s i
      (moved_in s (put w v s.memory) i (thread (s.threads i).at rest (s.threads i).ended (s.threads i).executed)) None

-- a thread that has ended only drains
abbrev pub MayStep : {X : Type 0} {p : Setup X} {s : State X} {i : ℕ} {t : State X} {o : Option RunLabel} →
    Step p s i t o → Type 0
MayStep (drain w v rest e) = ⊤
MayStep {s = s} {i = i} (plain x y h n) = (s.threads i).ended ≡ Running
MayStep {s = s} {i = i} (load x w k y h n g) = (s.threads i).ended ≡ Running
MayStep {s = s} {i = i} (put_off x w v y h n) = (s.threads i).ended ≡ Running
MayStep {s = s} {i = i} (decrement x w k h n e) = (s.threads i).ended ≡ Running
MayStep {s = s} {i = i} (call_lock x l k h n) = (s.threads i).ended ≡ Running
MayStep {s = s} {i = i} (call_unlock x l k h n) = (s.threads i).ended ≡ Running
MayStep {s = s} {i = i} (prints x v y h n) = (s.threads i).ended ≡ Running
MayStep {s = s} {i = i} (done x y h n) = (s.threads i).ended ≡ Running
MayStep {s = s} {i = i} (inside place f l k j t o h q x) = (s.threads i).ended ≡ Running
MayStep {s = s} {i = i} (stops why e) = (s.threads i).ended ≡ Running

-- a run, with the labels that are listed, the newest first
pub data Run {X : Type 0} (p : Setup X) : State X → List ThreadLabel → Type 0 where
  opens : Run p (opening p) []
  and_then : {s : State X} {ls : List ThreadLabel} (i : ℕ) (t : State X) (o : Option RunLabel) → Run p s ls →
      i < p.threads → (step : Step p s i t o) → MayStep step → Run p t (listed i o ls)
