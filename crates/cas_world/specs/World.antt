-- Threads that take turns over shared words: a world, a world step, and the worlds that interleavings reach.
use Rattle.std.specs.Prelude.{◌≡◌, ⊤, ℕ, ◌+◌, List, [], ◌∷◌, ◌++◌, Option, Some, None, slice_get, slice_set, length, replicate}
use Rattle.cas_base.specs.declared.act.Act.{Act}
use Rattle.cas_base.specs.declared.act.Act.TheVariants as act
use Rattle.cas_step.specs.Asks.{word}
use Rattle.cas_step.specs.Env.{FunctionAt, Env}
use Rattle.cas_step.specs.Step.{Config, Step, step, start}

-- a world: the threads, the shared words, for each word the thread that holds the lock of this word, if any, and the
-- output, pairs of thread and word
pub record World : Type 0 where
  pub threads : List Config
  pub words : List ℕ
  pub holders : List (Option ℕ)
  pub out : List (ℕ × ℕ)

-- an act is enabled unless it is Bad, or takes a lock that has a holder
abbrev pub IsEnabled : Act → List (Option ℕ) → Type 0
IsEnabled (act.Lock l) holders = slice_get holders l ≡ Some None
IsEnabled (act.Bad why) holders = ⊥
IsEnabled _ holders = ⊤

-- the holders after an act of a thread
abbrev pub holders_after : Act → (thread : ℕ) → List (Option ℕ) → List (Option ℕ)
holders_after (act.Lock l) i holders = slice_set holders l (Some i)
holders_after (act.Unlock l) i holders = slice_set holders l None
holders_after _ i holders = holders

-- the output after an act of a thread
abbrev pub out_after : Act → (thread : ℕ) → List (ℕ × ℕ) → List (ℕ × ℕ)
out_after (act.Out n) i out = out ++ (i, n) ∷ []
out_after _ i out = out

-- the world after a step of a thread
abbrev pub world_after : World → (thread : ℕ) → Step → World
world_after w i s = record {
  threads = slice_set w.threads i s.next;
  words = s.words;
  holders = holders_after s.act i w.holders;
  out = out_after s.act i w.out;
}

-- the next step of a thread that hasn't ended
pub record IsNext (e : Env) (w : World) (thread : ℕ) (s : Step) : Type 0 where
  pub config : Config
  pub stands : slice_get w.threads thread ≡ Some config
  pub steps : step e w.words config ≡ Some s

-- the thread may take its next step, which is this
pub record MayStep (e : Env) (w : World) (thread : ℕ) (s : Step) : Type 0 where
  pub next : IsNext e w thread s
  pub enabled : IsEnabled s.act w.holders

-- an interleaving leads from the first world to this one: a list of thread numbers, each of a thread that may step
-- in the world before
pub data Interleaves (e : Env) (first : World) : List ℕ → World → Type 0 where
  at_first : Interleaves e first [] first
  and_step : {threads : List ℕ} {w : World} → Interleaves e first threads w →
      (i : ℕ) (s : Step) → MayStep e w i s → Interleaves e first (threads ++ i ∷ []) (world_after w i s)

-- threads at the start of these functions; the argument of each is its number, counted from this one on
abbrev pub started : Env → (thread : ℕ) → (entries : List FunctionAt) → List Config
started e i [] = []
started e i (f ∷ fs) = start e f (word i ∷ []) ∷ started e (i + 1) fs

-- the first world: all threads at their entries, the initial words, no lock held, no output
abbrev pub first_world : Env → (entries : List FunctionAt) → (initial : List ℕ) → World
first_world e entries initial = record {
  threads = started e 0 entries;
  words = initial;
  holders = replicate (length initial) None;
  out = [];
}

-- some interleaving leads from the first world to this one
abbrev pub Reaches : Env → (first : World) → World → Type 0
Reaches e first w = (threads : List ℕ) × Interleaves e first threads w

-- the thread has ended
abbrev pub HasEnded : World → (thread : ℕ) → Type 0
HasEnded w i = (config : Config) × (slice_get w.threads i ≡ Some config) × (config.activations ≡ [])
