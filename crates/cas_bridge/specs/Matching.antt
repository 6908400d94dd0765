-- A thread of a whole program, and the same thread in the layer of calls: what its values, its memory and the words of
-- its share are to each other, and what an item of a module is in the environment and at the edge.
use Rattle.std.specs.Prelude.{◌≡◌, ◌⊎◌, ⊤, ℕ, ◌+◌, ◌<◌, Bool, false, List, [], ◌∷◌, Option, Some, None, slice_get}
use Rattle.cas_base.specs.declared.decl.Decl.{Decl}
use Rattle.cas_base.specs.declared.kind.Kind.{Kind}
use Rattle.cas_base.specs.declared.kind.Ty.{Ty}
use Rattle.cas_typed.specs.Resolved as t
use Rattle.cas_typed.specs.Resolved.{TypedExprTree, TypedTargetTree, to_local, to_global, to_element, to_behind}
use Rattle.cas_typed.specs.Resolved.{TypedStmtTree}
use Rattle.cas_step.specs.Asks as asks
use Rattle.cas_step.specs.Asks.{Asks}
use Rattle.cas_step.specs.Env as env
use Rattle.cas_step.specs.Env.{Entity}
use Rattle.cas_step.specs.Continuation as items
use Rattle.cas_step.specs.Continuation.{ContItem, Effect}
use Rattle.cas_step.specs.Step as step
use Rattle.cas_runs.specs.Label.{Share}
use Rattle.cas_runs.specs.Edge.{Edge, Cell, LockWord, SharedWord, TableWord}
use Rattle.cas_runs.specs.Naming.{Home, Own, Value, Memory}
use Rattle.cas_runs.specs.Access.{words_in, place_among}
use Rattle.cas_clight.specs.Clight as clight
use Rattle.cas_bridge.specs.Alike.{ValuesAlike, AllValuesAlike, ResultsAlike, QueriesAlike, EffectsAlike}
use Rattle.cas_clight.specs.Clight.{ClightFun, decoded, keeps_pointer}

-- the address of a local is taken only if the local keeps no pointer, as in each typed function
abbrev pub IsAddressable : List Ty → TypedExprTree → Type 0
IsAddressable tys (t.place_of n) = keeps_pointer (slice_get tys n) ≡ false
IsAddressable tys (t.element g at s a) = IsAddressable tys a
IsAddressable tys (t.behind k p) = IsAddressable tys p
IsAddressable tys (t.pointer_plus s p a) = IsAddressable tys p × IsAddressable tys a
IsAddressable tys (t.plus_pointer s a p) = IsAddressable tys a × IsAddressable tys p
IsAddressable tys (t.pointer_minus s p a) = IsAddressable tys p × IsAddressable tys a
IsAddressable tys (t.pointer_difference p q) = IsAddressable tys p × IsAddressable tys q
IsAddressable tys (t.compare op p q) = IsAddressable tys p × IsAddressable tys q
IsAddressable tys (t.unary op a) = IsAddressable tys a
IsAddressable tys (t.binary op s a b) = IsAddressable tys a × IsAddressable tys b
IsAddressable tys (t.narrow k a) = IsAddressable tys a
IsAddressable tys (t.and_also a b) = IsAddressable tys a × IsAddressable tys b
IsAddressable tys (t.or_else a b) = IsAddressable tys a × IsAddressable tys b
IsAddressable tys (t.choose c a b) = IsAddressable tys c × IsAddressable tys a × IsAddressable tys b
IsAddressable tys _ = ⊤

-- the same of the expressions of a statement's step
abbrev pub AreAddressable : List Ty → List TypedExprTree → Type 0
AreAddressable tys [] = ⊤
AreAddressable tys (a ∷ args) = IsAddressable tys a × AreAddressable tys args

abbrev pub IsAddressableTarget : List Ty → TypedTargetTree → Type 0
IsAddressableTarget tys (to_local n) = ⊤
IsAddressableTarget tys (to_global g at) = ⊤
IsAddressableTarget tys (to_element g at s a) = IsAddressable tys a
IsAddressableTarget tys (to_behind k p) = IsAddressable tys p

abbrev pub IsAddressableOption : List Ty → Option TypedExprTree → Type 0
IsAddressableOption tys None = ⊤
IsAddressableOption tys (Some a) = IsAddressable tys a

abbrev pub IsAddressableStatement : List Ty → TypedStmtTree → Type 0
IsAddressableStatement tys (t.assign p target a) = IsAddressableTarget tys target × IsAddressable tys a
IsAddressableStatement tys (t.call p kept g at args) = AreAddressable tys args
IsAddressableStatement tys (t.if_ p c a b) = IsAddressable tys c
IsAddressableStatement tys (t.while_ p c a) = IsAddressable tys c
IsAddressableStatement tys (t.return_ p a) = IsAddressableOption tys a
IsAddressableStatement tys (t.print p a) = IsAddressable tys a
IsAddressableStatement tys _ = ⊤

-- and of the step of a continuation's first item
abbrev pub IsAddressableNext : List Ty → List ContItem → Type 0
IsAddressableNext tys [] = ⊤
IsAddressableNext tys (items.begin a ∷ cont) = IsAddressableStatement tys a
IsAddressableNext tys (items.begun p c a ∷ cont) = IsAddressable tys c
IsAddressableNext tys (items.loop p c u a ∷ cont) = IsAddressableOption tys c
IsAddressableNext tys (items.next p t.absent ∷ cont) = ⊤
IsAddressableNext tys (items.next p (t.present a) ∷ cont) = IsAddressableStatement tys a

-- where the activation with each serial number is of this function
module _ (owner : (serial : ℕ) → ClightFun) where
  -- the block of a local
  abbrev pub home_of : step.Object → Home
  home_of o = Own (owner o.serial).decl.name o.serial o.local

  -- the object's cell has a pointer
  abbrev pub points : step.Object → Bool
  points o = keeps_pointer (slice_get (owner o.serial).locals o.local)

  -- the same object in both
  pub record ObjectsMatch (o : step.Object) (o' : clight.Object) : Type 0 where
    pub home : o'.home ≡ home_of o
    pub points : o'.has_pointer ≡ points o

  -- a pointer is to an object of integers
  abbrev pub IsPlain : step.Object → clight.Object → ℕ → Type 0
  IsPlain o o' p = o'.has_pointer ≡ false

  -- an object may have any number of cells
  abbrev pub AnySize : step.Object → clight.Object → ℕ → Type 0
  AnySize o o' n = ⊤

  abbrev pub ValuesMatch : asks.Value step.Object → asks.Value clight.Object → Type 0
  ValuesMatch v w = ValuesAlike ObjectsMatch IsPlain v w

  abbrev pub AllValuesMatch : List (asks.Value step.Object) → List (asks.Value clight.Object) → Type 0
  AllValuesMatch vs ws = AllValuesAlike ObjectsMatch IsPlain vs ws

  -- what is returned
  abbrev pub ResultsMatch : Option (asks.Value step.Object) → Option (asks.Value clight.Object) → Type 0
  ResultsMatch v w = ResultsAlike ObjectsMatch IsPlain v w

  abbrev pub QueriesMatch : (len : ℕ → Option ℕ) {A B : Type 0} (R : A → B → Type 0) → Asks step.Object A →
      Asks clight.Object B → Type 0
  QueriesMatch len R x y = QueriesAlike ObjectsMatch IsPlain AnySize len R x y

  abbrev pub EffectsMatch : (len : ℕ → Option ℕ) → Effect step.Object → Effect clight.Object → Type 0
  EffectsMatch len d d' = EffectsAlike ObjectsMatch IsPlain AnySize len d d'

  -- the cell's value is this of the source, whether the cell has a pointer or not
  abbrev pub CellMatches : (has_pointer : Bool) → asks.Value step.Object → Value → Type 0
  CellMatches b v x = (v' : asks.Value clight.Object) × (decoded b x ≡ Some v') × ValuesMatch v v'

  abbrev pub CellsMatch : (has_pointer : Bool) → List (asks.Value step.Object) → List Value → Type 0
  CellsMatch b [] [] = ⊤
  CellsMatch b (v ∷ vs) (x ∷ xs) = CellMatches b v x × CellsMatch b vs xs
  CellsMatch b _ _ = ⊥

  abbrev pub BlocksMatch : (has_pointer : Bool) → Option (List (asks.Value step.Object)) → Option (List Value) → Type 0
  BlocksMatch b None None = ⊤
  BlocksMatch b (Some vs) (Some xs) = CellsMatch b vs xs
  BlocksMatch b _ _ = ⊥

  -- each object is the same in both memories
  abbrev pub MemoryMatches : (step.Object → Option (List (asks.Value step.Object))) → Memory → Type 0
  MemoryMatches cells memory = (o : step.Object) → BlocksMatch (points o) (cells o) (memory (home_of o))

-- the words of the share are these words, and so are those of tables
pub record WordsMatch (cells : List Cell) (share : Share) (words : List ℕ) : Type 0 where
  pub held : (lock : ℕ) (ws : List ℕ) → words_in share lock ≡ Some ws → (n initial : ℕ) (kind : Kind) →
      slice_get cells n ≡ Some (SharedWord kind (Some lock) initial) →
      slice_get ws (place_among cells lock n) ≡ slice_get words n
  pub tables : (n value : ℕ) → slice_get cells n ≡ Some (TableWord value) → slice_get words n ≡ Some value

-- the words from the first on, so many, are such cells
abbrev pub AreCellsFrom : List Cell → (first count : ℕ) → (Cell → Type 0) → Type 0
AreCellsFrom cells first count IsSuch =
    (i : ℕ) → i < count → (c : Cell) × (slice_get cells (first + i) ≡ Some c) × IsSuch c

-- the cell is a shared word with this guard
abbrev pub HasGuard : (guard : Option ℕ) → Cell → Type 0
HasGuard guard (SharedWord kind g initial) = g ≡ guard
HasGuard guard _ = ⊥

abbrev pub IsTableWord : Cell → Type 0
IsTableWord (TableWord value) = ⊤
IsTableWord _ = ⊥

-- what an item stands for in the program is what its name stands for at the edge
abbrev pub ItemMatches : Edge → Option Entity → Option Decl → Type 0
ItemMatches edge (Some (env.shared first n guard)) (Some d) =
    (edge.words d.name ≡ Some (record { first = first; size = n })) × AreCellsFrom edge.cells first n (HasGuard guard)
ItemMatches edge (Some (env.table first n)) (Some d) =
    (edge.words d.name ≡ Some (record { first = first; size = n })) × AreCellsFrom edge.cells first n IsTableWord
ItemMatches edge (Some (env.lock n)) (Some d) =
    (edge.words d.name ≡ Some (record { first = n; size = 1 })) × (slice_get edge.cells n ≡ Some LockWord)
ItemMatches edge (Some (env.function f)) (Some d) = ⊤
ItemMatches edge None None = ⊤
ItemMatches edge _ _ = ⊥

abbrev pub IsGuardMissing : Share → Option ℕ → Type 0
IsGuardMissing share None = ⊤
IsGuardMissing share (Some lock) = words_in share lock ≡ None

-- the word is shared, and no lock of the share guards it
abbrev pub IsUnheldWord : List Cell → Share → ℕ → Type 0
IsUnheldWord cells share n =
    (guard : Option ℕ) × (c : Cell) × (slice_get cells n ≡ Some c) × HasGuard guard c × IsGuardMissing share guard

-- only words under locks of the share differ
abbrev pub DifferUnder : List Cell → Share → (words after : List ℕ) → Type 0
DifferUnder cells share words after = (w : ℕ) → (slice_get after w ≡ slice_get words w) ⊎
    ((lock initial : ℕ) × (kind : Kind) × (held : List ℕ) ×
    (slice_get cells w ≡ Some (SharedWord kind (Some lock) initial)) × (words_in share lock ≡ Some held))
