-- Passes that put the blocks of an activation elsewhere: each block of the source is a stretch of one of the target's.
use Rattle.std.specs.Prelude.{◌≡◌, ℕ, ◌+◌, ◌≤◌, List, [], ◌∷◌, length, Option, Some, None, slice_get, ◌⊎◌}
use Rattle.cas_base.specs.declared.decl.Decl.{Decl}
use Rattle.cas_runs.specs.Label.{NameBytes}
use Rattle.cas_runs.specs.Naming.{Home, Own, Theirs, Value, Number, Pointer, Hidden, Part, Layout, Named, Naming}
use Rattle.cas_runs.specs.Naming.{Memory, part_by}
use Rattle.cas_runs.specs.Bounds.{IsTariff, waiting_price}
use Rattle.cas_runs.specs.Access.{Holding}
use Rattle.cas_runs.specs.Unit.{Setting, LaidOutToo}
use Rattle.cas_runs.specs.Calls.{Activations, Past, language}
use Rattle.cas_runs.specs.Passing.{Position, Matches, Relation, AllMade, MadeSo, Matching, MadeOf, RunTogether}
use Rattle.cas_runs.specs.Held.{States, Held, Steps, Midway}

-- where a block of the source begins in the target
pub record Spot : Type 0 where
  pub block : ℕ
  pub offset : ℕ

-- of each block of a function, unless the target keeps it otherwise
abbrev pub Placing : Type 0
Placing = NameBytes → ℕ → Option Spot

abbrev pub pointer_in : NameBytes → (activation : ℕ) → Option Spot → (at : ℕ) → Option Value
pointer_in function activation None at = None
pointer_in function activation (Some s) at = Some (Pointer (Own function activation s.block) (s.offset + at))

abbrev pub moved : Placing → Value → Option Value
moved place (Number w) = Some (Number w)
moved place (Pointer (Own function activation block) at) = pointer_in function activation (place function block) at
moved place (Pointer (Theirs object) at) = Some (Pointer (Theirs object) at)
moved place (Hidden what) = Some (Hidden what)

-- the target's value is the source's, moved
abbrev pub SameMoved : Placing → Value → Value → Type 0
SameMoved place v w = moved place w ≡ Some v

abbrev pub AllMoved : Placing → List Value → List Value → Type 0
AllMoved place [] [] = Unit {0}
AllMoved place [] (w ∷ ws) = ⊥
AllMoved place (v ∷ vs) [] = ⊥
AllMoved place (v ∷ vs) (w ∷ ws) = SameMoved place v w × AllMoved place vs ws

-- from the offset on, the block of the target has the words of the source's
abbrev pub CellsMoved : Placing → (offset : ℕ) → List Value → List Value → Type 0
CellsMoved place offset vs ws = (i : ℕ) (w : Value) → slice_get ws i ≡ Some w →
    (v : Value) × (slice_get vs (offset + i) ≡ Some v) × SameMoved place v w

abbrev pub BlockMoved : Placing → (offset : ℕ) → Option (List Value) → Option (List Value) → Type 0
BlockMoved place offset vs None = vs ≡ None
BlockMoved place offset None (Some ws) = ⊥
BlockMoved place offset (Some vs) (Some ws) = CellsMoved place offset vs ws

-- the words of an object of the outside's
abbrev pub ObjectMoved : Placing → Option (List Value) → Option (List Value) → Type 0
ObjectMoved place None None = Unit {0}
ObjectMoved place None (Some ws) = ⊥
ObjectMoved place (Some vs) None = ⊥
ObjectMoved place (Some vs) (Some ws) = AllMoved place vs ws

-- the memory of the target has that of the source, whose blocks have these sizes
pub record MemoryMoved (place : Placing) (sizes : NameBytes → ℕ → ℕ) (t s : Memory) : Type 0 where
  pub own : (function : NameBytes) (activation block : ℕ) (to : Spot) → place function block ≡ Some to →
      BlockMoved place to.offset (t (Own function activation to.block)) (s (Own function activation block))
  pub theirs : (object : ℕ) → ObjectMoved place (t (Theirs object)) (s (Theirs object))
  pub have_sizes : (function : NameBytes) (activation block : ℕ) (ws : List Value) →
      s (Own function activation block) ≡ Some ws → length ws ≡ sizes function block

abbrev pub moved_part : ℕ → Part → Part
moved_part offset p = record { from = offset + p.from; size = p.size; kind = p.kind }

-- the object of the target is this one of the source, moved. It is in its block
abbrev pub NamedMoved : Placing → (NameBytes → ℕ → ℕ) → Named → Home → Part → Type 0
NamedMoved place sizes m (Own function activation block) part =
    (to : Spot) × (place function block ≡ Some to)
    × (m ≡ record { home = Own function activation to.block; part = moved_part to.offset part }) × (1 ≤ part.size)
    × (part.from + part.size ≤ sizes function block)
NamedMoved place sizes m (Theirs object) part = m ≡ record { home = Theirs object; part = part }

abbrev pub NamingMoved : Placing → (NameBytes → ℕ → ℕ) → Naming → Naming → Type 0
NamingMoved place sizes [] [] = Unit {0}
NamingMoved place sizes [] (n ∷ ns) = ⊥
NamingMoved place sizes (m ∷ ms) [] = ⊥
NamingMoved place sizes (m ∷ ms) (n ∷ ns) = NamedMoved place sizes m n.home n.part × NamingMoved place sizes ms ns

-- what both threads hold, where blocks are moved so
pub record AlikeMoved (place : Placing) (sizes : NameBytes → ℕ → ℕ) (p : Past) (h : Holding) (q : Past)
    (k : Holding) : Type 0 where
  pub begun : p.begun ≡ q.begun
  pub share : h.share ≡ k.share
  pub memory : MemoryMoved place sizes h.memory k.memory
  pub naming : NamingMoved place sizes p.naming q.naming

-- the same of the shares alone, and of the objects that have crossed
pub record SharesMoved (place : Placing) (sizes : NameBytes → ℕ → ℕ) (p : Past) (h : Holding) (q : Past)
    (k : Holding) : Type 0 where
  pub begun : p.begun ≡ q.begun
  pub share : h.share ≡ k.share
  pub naming : NamingMoved place sizes p.naming q.naming

-- the blocks of the source that the target doesn't have are as they were, of the activations with smaller serial
-- numbers than this
abbrev pub KeepsUnplaced : Placing → ℕ → Memory → Memory → Type 0
KeepsUnplaced place n s s' =
    (function : NameBytes) (activation block : ℕ) → activation + 1 ≤ n → place function block ≡ None
    → s' (Own function activation block) ≡ s (Own function activation block)

-- where blocks lie, and how many words each of the source's has
pub record Placed : Type 0 where
  pub place : Placing
  pub sizes : NameBytes → ℕ → ℕ

-- the blocks of a function lie in those of the other without overlap, and the objects of a block go with it
pub record IsPlacing {F A G B : Type 0} (target : Activations F A) (source : Activations G B) (made : F → G → Type 0)
    (p : Placed) (placed layout : Layout) : Type 0 where
  pub names : (f : F) (g : G) → made f g → target.name f ≡ source.name g
  pub known : (f : F) (g : G) → made f g → (block size : ℕ) → slice_get (source.blocks g) block ≡ Some size →
      size ≡ p.sizes (source.name g) block
  pub room : (f : F) (g : G) → made f g → (block : ℕ) (s : Spot) → p.place (source.name g) block ≡ Some s →
      (size total : ℕ) × (slice_get (source.blocks g) block ≡ Some size)
      × (slice_get (target.blocks f) s.block ≡ Some total) × (s.offset + size ≤ total)
  pub apart : (function : NameBytes) (b c : ℕ) (s t : Spot) → p.place function b ≡ Some s →
      p.place function c ≡ Some t →
      s.block ≡ t.block → (b ≡ c) ⊎ (s.offset + p.sizes function b ≤ t.offset)
      ⊎ (t.offset + p.sizes function c ≤ s.offset)
  pub parts : (function : NameBytes) (block : ℕ) (s : Spot) → p.place function block ≡ Some s →
      (at in_part : ℕ) (q : Part) → part_by (layout function block) at in_part ≡ Some q →
      (part_by (placed function s.block) (s.offset + at) in_part ≡ Some (moved_part s.offset q))
      × (1 ≤ q.size) × (q.from + q.size ≤ p.sizes function block)

-- what matches, by where activations match
abbrev pub moved_matches : {F A G B : Type 0} → Placing → (NameBytes → ℕ → ℕ) → (F → G → Type 0) →
    (F → G → ℕ → Position A → Position B → Type 0) → Matches F A G B
moved_matches place sizes made match_states = record {
  made = made;
  match_values = SameMoved place;
  match_memory = SharesMoved place sizes;
  settled = AlikeMoved place sizes;
  frame = λ n h k h' k'. KeepsUnplaced place n k.memory k'.memory;
  match_states = match_states;
}

-- what it names for the law over memories, by where both begin a step. What an activation has in blocks that the target
-- doesn't have is its own: no other one stores there
abbrev pub moving :
    {F A G B : Type 0} → Placing → (NameBytes → ℕ → ℕ) → States F A G B
    → Held F A G B
moving place sizes match_states = record {
  match_states = match_states;
  match_memory = MemoryMoved place sizes;
  target_frame = λ n t t'. Unit {0};
  source_frame = KeepsUnplaced place;
}

-- such a pass, by what it makes, where it puts blocks, and where both begin a step, for all functions that run
-- together in a setting
pub record Moved (F A G B : Type 0) : Type 1 where
  pub target : Activations F A
  pub source : Activations G B
  pub made : List Decl → F → G → Type 0
  pub naming : List G → Layout → Layout
  pub place : List G → Placing
  pub sizes : List G → NameBytes → ℕ → ℕ
  pub match_states : Setting → List F → List G → States F A G B

module _ {F A G B : Type 0} (p : Moved F A G B) where
  abbrev pub places : Setting → List F → List G → Held F A G B
  places setting ts ss = moving (p.place ss) (p.sizes ss) (p.match_states setting ts ss)

  -- the relation over which the steps are shown
  abbrev pub bare : Setting → List F → List G → (F → G → Type 0) → Relation F A G B
  bare setting ts ss made = record {
    target = p.target;
    source = p.source;
    setting = setting;
    placed = p.naming ss setting.layout;
    targets = ts;
    sources = ss;
    by = moved_matches (p.place ss) (p.sizes ss) made (λ f g n x y. Unit {0});
  }

  abbrev pub moved_blocks : Matching F A G B
  moved_blocks = record {
    target = p.target;
    source = p.source;
    made = p.made;
    naming = p.naming;
    matches = λ setting ts ss made.
        moved_matches (p.place ss) (p.sizes ss) made (Midway (bare setting ts ss made) (places setting ts ss));
  }

  -- what it shows
  pub record IsMoved : Type 0 where
    pub names : (decls : List Decl) (f : F) (g : G) → p.made decls f g → p.target.name f ≡ p.source.name g
    pub laid_out_too :
        (ts : List F) (ss : List G) → AllMade (MadeSo p.made) ts ss
        → LaidOutToo (language p.target) (language p.source) ts ss (p.naming ss)
    pub is_placing :
        (setting : Setting) (decls : List Decl) (ts : List F) (ss : List G) →
        RunTogether moved_blocks setting decls ts ss
        → IsPlacing p.target p.source (MadeOf moved_blocks setting ts ss)
        (record { place = p.place ss; sizes = p.sizes ss }) (p.naming ss setting.layout) setting.layout
    pub prices : IsTariff p.target.tariff
    pub waits :
        (ts : List F) (ss : List G) → AllMade (MadeSo p.made) ts ss
        → waiting_price p.target.tariff ts ≤ waiting_price p.source.tariff ss
    pub steps :
        (setting : Setting) (decls : List Decl) (ts : List F) (ss : List G) →
        RunTogether moved_blocks setting decls ts ss
        → Steps (bare setting ts ss (MadeOf moved_blocks setting ts ss)) (places setting ts ss)
