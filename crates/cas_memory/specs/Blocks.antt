-- What the blocks of the code's memory stand for.
use Rattle.std.specs.Prelude.{◌≡◌, ◌≢◌, ◌<◌, ⊤, ℕ, List, [], ◌∷◌, length, map, take, drop, replicate, slice_index_or}
use Rattle.cas_base.specs.Ty.{words_of_ty}
use Rattle.cas_base.specs.declared.kind.Ty.{Ty}
use Rattle.cas_step.specs.Asks.{Value}
use Rattle.cas_step.specs.Step as step
use Rattle.cas_step.specs.Step.{Object, zero_of}
use Rattle.cas_memory.specs.declared.block.Block.{Block}
use Rattle.cas_memory.specs.declared.block.Span.{Span}
use Rattle.cas_memory.specs.Values.{value_of}

-- the cells of a local
abbrev pub cells_in : List (Value Object) → Span → List (Value Object)
cells_in cells s = take s.length (drop s.first cells)

-- the locals with these spans of the cells
abbrev pub locals_in : List Span → List (Value Object) → List (List (Value Object))
locals_in spans cells = map (cells_in cells) spans

-- the locals of an activation
abbrev pub block_of : Block → step.Block
block_of b = record { serial = b.serial; locals = locals_in b.spans.items (map value_of b.cells.items) }

-- these blocks, of which the last is the newest, before others
abbrev pub blocks_before : List Block → List step.Block → List step.Block
blocks_before [] older = older
blocks_before (b ∷ bs) older = blocks_before bs (block_of b ∷ older)

-- serial numbers ascend
abbrev pub AscendBySerial : List Block → Type 0
AscendBySerial bs = (i j : ℕ) (d : Block) → i < j → j < length bs →
    (slice_index_or bs i d).serial < (slice_index_or bs j d).serial

-- the block at this place has this serial number
pub record IsAtSerial (bs : List Block) (serial at : ℕ) : Type 0 where
  pub in_range : at < length bs
  pub is : (d : Block) → (slice_index_or bs at d).serial ≡ serial

-- no block has this serial number
abbrev pub HasNone : List Block → (serial : ℕ) → Type 0
HasNone bs serial = (j : ℕ) (d : Block) → j < length bs → (slice_index_or bs j d).serial ≢ serial

-- each block's serial number is less than this one
abbrev pub AreBefore : (serial : ℕ) → List step.Block → Type 0
AreBefore serial [] = ⊤
AreBefore serial (b ∷ bs) = (b.serial < serial) × AreBefore serial bs

-- the cells of a local when its activation begins: the first of these arguments, or 0 or null
abbrev pub cells_at_first : Ty → (arguments : List (Value Object)) → List (Value Object)
cells_at_first ty [] = replicate (words_of_ty ty) (zero_of ty)
cells_at_first ty (v ∷ vs) = v ∷ []
