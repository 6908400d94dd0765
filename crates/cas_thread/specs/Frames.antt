-- The thread that a thread of the code stands for.
use Rattle.std.specs.Prelude.{◌≡◌, ⊤, ℕ, List, [], ◌∷◌, reverse, Option, Some, None, IsSome, vec_capacity}
use Rattle.cas_typed.specs.declared.rows.StmtRow.{StmtRow}
use Rattle.cas_typed.specs.declared.rows.TypedFun.{TypedFun}
use Rattle.cas_typed.specs.declared.typed.Typed.{Typed}
use Rattle.cas_step.specs.Step.{Activation, Block, Config}
use Rattle.cas_whole.specs.Bodies.{typed_at}
use Rattle.cas_memory.specs.Blocks.{AreBefore}
use Rattle.cas_thread.specs.Room.{Fits}
use Rattle.cas_thread.specs.Continuations.{IsContinuation}
use Rattle.cas_thread.specs.declared.config.Config as code
use Rattle.cas_thread.specs.declared.config.Frame.{Frame}

-- the rows of the function at this place of the module with this number; none if there is no such function
abbrev pub rows_of : Option TypedFun → List StmtRow
rows_of None = []
rows_of (Some f) = f.rows

abbrev pub rows_at : List Typed → (unit place : ℕ) → List StmtRow
rows_at ts u p = rows_of (typed_at ts u p)

-- the frame of the code is this activation of a function of these modules, and has room for its continuations
pub record IsFrame (ts : List Typed) (f : Frame) (a : Activation) : Type 0 where
  pub serial : a.serial ≡ f.serial
  pub function : a.function ≡ record { unit = f.unit; place = f.place }
  pub there : IsSome (typed_at ts f.unit f.place)
  pub target : a.target ≡ f.target
  pub cont : IsContinuation (rows_at ts f.unit f.place) (reverse f.cont.items) a.cont
  pub room : Fits (vec_capacity f.cont) a.cont

-- the frames, the newest first, are these activations
abbrev pub AreFrames : List Typed → List Frame → List Activation → Type 0
AreFrames ts [] [] = ⊤
AreFrames ts (f ∷ fs) (a ∷ older) = IsFrame ts f a × AreFrames ts fs older
AreFrames ts _ _ = ⊥

-- these frames, the newest last, this memory and next serial number are the thread's; its blocks have smaller serial
-- numbers
pub record AreParts (ts : List Typed) (frames : List Frame) (memory : List Block) (fresh : ℕ)
    (c : Config) : Type 0 where
  pub frames_are : AreFrames ts (reverse frames) c.activations
  pub memory_is : c.memory ≡ memory
  pub fresh_is : c.fresh ≡ fresh
  pub before : AreBefore c.fresh c.memory

-- the thread of the code, whose functions are of these modules, is this one
abbrev pub AreThread : List Typed → code.Config → Config → Type 0
AreThread ts k c = AreParts ts k.frames.items k.memory k.fresh c

-- the thread of the code stands for some thread
abbrev pub IsAThread : List Typed → code.Config → Type 0
IsAThread ts k = (c : Config) × AreThread ts k c
