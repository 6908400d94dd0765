-- Processors with store buffers over shared words, whose code begins with the lock object.
use Rattle.std.specs.Prelude.{⊤, ◌≡◌, ℕ, suc, ◌+◌, ◌*◌, ◌<◌, nat_eq, nat_lt, List, [], ◌∷◌, ◌++◌, length, Option, Some, None, if◌then◌else◌}
use Rattle.cas_asm.specs.declared.image.Image.{Image}
use Rattle.cas_asm.specs.declared.ask.Ask.{Ask}
use Rattle.cas_asm.specs.declared.ask.Ask.TheVariants as ask
use Rattle.cas_asm.specs.State.{State}
use Rattle.cas_asm.specs.Ask.{ask_of, stepped}
use Rattle.cas_atomic.specs.Buffer.{Store, store, view, put}
use Rattle.cas_atomic.specs.Leftover.{Leftover, one_less}
use Rattle.cas_asm.specs.Flags.{cleared}
use Rattle.cas_atomic.specs.Buffered.{End, Running, IsDone, OutOfFuel, IsFull, HasFailed, OutOfOuts, if_zero}
use Rattle.cas_atomic.specs.Cells.{first_words, under, values}
use Rattle.cas_atomic.specs.Labels.{listed}
use Rattle.cas_atomic.specs.Object.{accepted}
use Rattle.cas_atomic.specs.Program.{Setup}
use Rattle.cas_runs.specs.Edge.{Edge}
use Rattle.cas_runs.specs.Label.{RunLabel, Lock, Unlock, Out, Done}
use Rattle.cas_runs.specs.Legal.{ThreadLabel}
use Rattle.cas_refine.specs.Cpu.{Program, unfixed, event_of}

pub record Core : Type 0 where
  pub cpu : State
  pub buffer : List Store
  pub ended : End
  pub executed : ℕ

abbrev pub core : State → List Store → End → ℕ → Core
core c b e n = record { cpu = c; buffer = b; ended = e; executed = n }

pub record World : Type 0 where
  pub memory : ℕ → ℕ
  pub output : List (ℕ × ℕ)
  pub threads : ℕ → Core

abbrev pub world : (ℕ → ℕ) → List (ℕ × ℕ) → (ℕ → Core) → World
world m o ts = record { memory = m; output = o; threads = ts }

-- an image that is linked with its words, and where each thread begins
pub record Linked : Type 0 where
  pub image : Image
  pub edge : Edge
  pub threads : ℕ
  pub first : ℕ → State

abbrev pub entry_flags : Image → Program → Leftover
entry_flags m None = unfixed cleared []
entry_flags m (Some c) = let d = stepped m c 0 in unfixed d.core.flags d.stack

abbrev pub setup : Linked → Setup Program
setup p =
    record {
      edge = p.edge;
      threads = p.threads;
      first = λ i. Some (p.first i);
      flags = entry_flags p.image;
      next = event_of p.image;
      object = accepted;
    }

abbrev pub opening : Linked → World
opening p = world (first_words p.edge.cells) [] (λ i. core (p.first i) [] Running 0)

-- instructions of the lock object aren't counted
abbrev pub counted : State → ℕ → ℕ
counted c n = if nat_lt c.core.place 8 then n else suc n

abbrev pub goes : Core → State → Core
goes c d = core d c.buffer c.ended (counted c.cpu c.executed)

-- what is listed: Lock at the locked decrement of place 0 that gives 0, Unlock at the store of place 6
abbrev pub lock_listed : ℕ → ℕ → RunLabel → Option RunLabel
lock_listed place result l = if nat_eq place 0 then if_zero result l else None

abbrev pub unlock_listed : ℕ → RunLabel → Option RunLabel
unlock_listed place l = if nat_eq place 6 then Some l else None

-- a state, and the thread whose turn it is
pub record Moment : Type 0 where
  pub linked : Linked
  pub before : World
  pub thread : ℕ

abbrev pub moment : Linked → World → ℕ → Moment
moment p s i = record { linked = p; before = s; thread = i }

-- the state after the thread has become this, with this memory and output
abbrev pub becomes : Moment → (ℕ → ℕ) → List (ℕ × ℕ) → Core → World
becomes w m o c = world m o (put w.thread c w.before.threads)

-- the processor after its instruction, with this word
abbrev pub executed : Moment → Core → (word : ℕ) → State
executed w c v = stepped w.linked.image c.cpu v

-- the words under a lock, where words are these
abbrev pub guarded : Moment → (lock : ℕ) → (ℕ → ℕ) → List ℕ
guarded w k words = values words (under w.linked.edge.cells 0 k)

-- what the thread does where its next instruction asks for this, and what is listed
abbrev pub Takes : Moment → Core → Ask → World → Option RunLabel → Type 0
Takes w c ask.Plain t o = (t ≡ becomes w w.before.memory w.before.output (goes c (executed w c 0))) × (o ≡ None)
Takes w c (ask.Load k) t o =
    (ask_of w.linked.image c.cpu (Some (view c.buffer w.before.memory k)) ≡ ask.Plain)
    × (t ≡ becomes w w.before.memory w.before.output (goes c (executed w c (view c.buffer w.before.memory k))))
    × (o ≡ None)
Takes w c (ask.Store k v) t o =
    (t ≡ becomes w w.before.memory w.before.output
    (core (executed w c 0) (c.buffer ++ store k v ∷ []) c.ended (counted c.cpu c.executed)))
    × (o ≡ unlock_listed c.cpu.core.place (Unlock k (guarded w k (view c.buffer w.before.memory))))
Takes w c (ask.LockedDec k) t o =
    (c.buffer ≡ [])
    × (t ≡ becomes w (put k (one_less (w.before.memory k)) w.before.memory) w.before.output
    (goes c (executed w c (w.before.memory k))))
    × (o ≡ lock_listed c.cpu.core.place (one_less (w.before.memory k)) (Lock k (guarded w k w.before.memory)))
Takes w c (ask.Out v) t o =
    (t ≡ becomes w w.before.memory ((w.thread, v) ∷ w.before.output) (goes c (executed w c 0))) × (o ≡ Some (Out v))
Takes w c ask.Finish t o =
    (t ≡ becomes w w.before.memory w.before.output
    (core (executed w c 0) c.buffer IsDone (counted c.cpu c.executed)))
    × (o ≡ Some Done)
Takes w c _ t o = ⊥

-- the thread's next instruction would ask for this, also by the word that it loads
pub data WouldAsk (m : Image) (memory : ℕ → ℕ) (c : Core) (IsSuch : Ask → Type 0) : Type 0 where
  outright : (a : Ask) → ask_of m c.cpu None ≡ a → IsSuch a → WouldAsk m memory c IsSuch
  by_load : (k : ℕ) (a : Ask) → ask_of m c.cpu None ≡ ask.Load k → ask_of m c.cpu (Some (view c.buffer memory k)) ≡ a →
      IsSuch a → WouldAsk m memory c IsSuch

abbrev pub IsStack : Ask → Type 0
IsStack ask.Stack = ⊤
IsStack _ = ⊥

abbrev pub IsBad : Ask → Type 0
IsBad (ask.Bad why) = ⊤
IsBad _ = ⊥

abbrev pub IsOut : Ask → Type 0
IsOut (ask.Out v) = ⊤
IsOut _ = ⊥

abbrev pub MayEnd : Linked → World → Core → End → Type 0
MayEnd p s c Running = ⊥
MayEnd p s c IsDone = ⊥
MayEnd p s c OutOfFuel = ⊤
MayEnd p s c IsFull = WouldAsk p.image s.memory c IsStack
MayEnd p s c HasFailed = WouldAsk p.image s.memory c IsBad
MayEnd p s c OutOfOuts = (a : Ask) × (ask_of p.image c.cpu None ≡ a) × IsOut a

pub data Step (p : Linked) (s : World) (i : ℕ) : World → Option RunLabel → Type 0 where
  takes : (t : World) (o : Option RunLabel) → (s.threads i).ended ≡ Running →
      Takes (moment p s i) (s.threads i) (ask_of p.image (s.threads i).cpu None) t o → Step p s i t o
  stops : (why : End) → (s.threads i).ended ≡ Running → MayEnd p s (s.threads i) why →
      Step p s i
      (world s.memory s.output (put i (core (s.threads i).cpu (s.threads i).buffer why (s.threads i).executed)
      s.threads)) None
  drains : (w v : ℕ) (rest : List Store) → (s.threads i).buffer ≡ store w v ∷ rest →
      Step p s i
      (world (put w v s.memory) s.output (put i (core (s.threads i).cpu rest (s.threads i).ended (s.threads i).executed)
      s.threads)) None

pub data Run (p : Linked) : World → List ThreadLabel → Type 0 where
  opens : Run p (opening p) []
  and_then : {s : World} {ls : List ThreadLabel} (i : ℕ) (t : World) (o : Option RunLabel) → Run p s ls →
      i < p.threads → Step p s i t o → Run p t (listed i o ls)

-- 1 for an instruction of the lock object
abbrev pub in_object : State → ℕ
in_object c = if nat_lt c.core.place 8 then 1 else 0

abbrev pub one_inside : {p : Linked} {s : World} {i : ℕ} {t : World} {o : Option RunLabel} → Step p s i t o → ℕ
one_inside {s = s} {i = i} (takes t o live x) = in_object (s.threads i).cpu
one_inside _ = 0

-- how many instructions of the lock object each thread has executed
abbrev pub inside_of : {p : Linked} {s : World} {ls : List ThreadLabel} → Run p s ls → ℕ → ℕ
inside_of opens = λ j. 0
inside_of (and_then i t o r below step) = put i (inside_of r i + one_inside step) (inside_of r)

-- where the threads begin: outside the lock object, with a stack that ends within words
pub record Begins (p : Linked) : Type 0 where
  pub room : (i : ℕ) → (p.first i).bottom + 4 * length (p.first i).stack + 4 < 4294967296
