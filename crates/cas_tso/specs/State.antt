-- The states of the x86-TSO machine (Sewell, Sarkar, Owens, Zappa Nardelli and Myreen): one memory, and for each thread
-- a
-- processor with a first-in first-out buffer of stores.
use Rattle.std.specs.Prelude.{ℕ, List, [], ◌∷◌, Option, Some, None, if◌then◌else◌, nat_eq, slice_index}
use Rattle.std.specs.Option.{option_or, unwrap_or}
use Rattle.cas_asm.specs.State.{State as Cpu}
use Rattle.cas_asm.specs.declared.image.Image.{Image}
use Rattle.cas_tso.specs.declared.end.End.{End}
use Rattle.cas_tso.specs.declared.options.Options.{Options}
use Rattle.cas_tso.specs.declared.pending.Pending.{Pending}

-- how many instructions a thread executed, how many of them loaded a shared word, how many of these took it from the
-- thread's
-- own buffer, how many stores were drained, and how many outputs were made
pub record Counts : Type 0 where
  pub executed : ℕ
  pub loads : ℕ
  pub forwarded : ℕ
  pub drains : ℕ
  pub outs : ℕ

-- a thread: its processor, its stores that aren't in memory yet, the oldest first, its counts, and its end, if it has
-- one
pub record Thread : Type 0 where
  pub cpu : Cpu
  pub buffer : List Pending
  pub counts : Counts
  pub ended : Option End

-- a state: the memory's words, the output as pairs of thread and word, the oldest first, and the threads
pub record State : Type 0 where
  pub memory : List ℕ
  pub output : List (ℕ × ℕ)
  pub threads : List Thread

-- what a machine is set up with, which no step changes
pub record Setup : Type 0 where
  pub image : Image
  pub options : Options

abbrev pub setup : Image → Options → Setup
setup image options = record { image = image; options = options }

-- how many stores a buffer has room for
abbrev pub room : ℕ
room = 64

-- the value of the newest store to a place
abbrev pub newest : List Pending → (at : ℕ) → Option ℕ
newest [] at = None
newest (x ∷ xs) at = option_or (newest xs at) (if nat_eq x.at at then Some x.value else None)

-- a thread's view of a word: the newest store of its own buffer to it, else the word of memory
abbrev pub view : List Pending → (memory : List ℕ) → (at : ℕ) → ℕ
view buffer memory at = unwrap_or (newest buffer at) (slice_index memory at)

-- no instruction was executed
abbrev pub no_counts : Counts
no_counts = record { executed = 0; loads = 0; forwarded = 0; drains = 0; outs = 0 }
