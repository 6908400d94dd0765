-- Namings: which places of a machine's memory are the objects that have crossed.
use Rattle.std.specs.Prelude.{ℕ, zero, suc, ◌+◌, ◌≤◌, nat_eq, nat_lt, nat_le, Bool, true, false, ◌&&◌, List, [], ◌∷◌}
use Rattle.std.specs.Prelude.{◌++◌, length, Option, Some, None, slice_get, if◌then◌else◌}
use Rattle.cas_base.specs.declared.kind.Kind.{Kind}
use Rattle.cas_base.specs.declared.kind.Kind.TheVariants.{I8, U8, I16, U16, I32, U32}
use Rattle.cas_base.specs.declared.reg.Reg.{Reg}
use Rattle.cas_runs.specs.Label.{NameBytes, same_name, Shown, Word, Place, Owner, Inside, Outside, Object}

-- a block of memory: of an activation of this function, by its serial number and the place of the block among the
-- function's, or an object of the outside's, by its number
pub data Home : Type 0 where
  Own : (function : NameBytes) (activation block : ℕ) → Home
  Theirs : (object : ℕ) → Home

-- what a cell or a register holds where no step may look into it: no value at all, or what the caller of an
-- activation had in a register. Another activation's is another value
pub data Unseen : Type 0 where
  Unset : Unseen
  Callers : (activation : ℕ) (register : Reg) → Unseen

-- a value of a language between: a word, or a place in a block; or what may only be kept and put back
pub data Value : Type 0 where
  Number : (word : ℕ) → Value
  Pointer : (home : Home) (place : ℕ) → Value
  Hidden : (what : Unseen) → Value

-- a value that may be used, and not only be kept
abbrev pub usable : Value → Option Value
usable (Hidden what) = None
usable v = Some v

-- the same of what is there
abbrev pub usable_in : Option Value → Option Value
usable_in None = None
usable_in (Some v) = usable v

-- a stretch of a block that is one object, with the kind of its cells
pub record Part : Type 0 where
  pub from : ℕ
  pub size : ℕ
  pub kind : Kind

-- which stretches of each block of a function are objects
abbrev pub Layout : Type 0
Layout = NameBytes → ℕ → List Part

-- the parts begin here or later, in order, don't overlap, and end within the block
abbrev pub ArePlaced : ℕ → ℕ → List Part → Type 0
ArePlaced from size [] = Unit {0}
ArePlaced from size (p ∷ ps) =
    (from ≤ p.from) × (1 ≤ p.size) × (p.from + p.size ≤ size) × ArePlaced (p.from + p.size) size ps

-- the objects of a block of an activation that has begun, where so many have
abbrev pub parts_at : Layout → (begun : ℕ) → Home → List Part
parts_at layout begun (Own function activation block) =
    if nat_lt activation begun then layout function block else []
parts_at layout begun (Theirs object) = []

-- an object that has crossed, as the machine has it
pub record Named : Type 0 where
  pub home : Home
  pub part : Part

-- the objects that have crossed, in the order of their first crossing
abbrev pub Naming : Type 0
Naming = List Named

-- the homes are equal
abbrev pub same_home : Home → Home → Bool
same_home (Own f a b) (Own g c d) = same_name f g && nat_eq a c && nat_eq b d
same_home (Theirs n) (Theirs m) = nat_eq n m
same_home _ _ = false

-- the kinds are told apart by a number
abbrev pub kind_number : Kind → ℕ
kind_number I8 = 0
kind_number U8 = 1
kind_number I16 = 2
kind_number U16 = 3
kind_number I32 = 4
kind_number U32 = 5

-- the parts are equal
abbrev pub same_part : Part → Part → Bool
same_part p q =
    nat_eq p.from q.from && nat_eq p.size q.size && nat_eq (kind_number p.kind) (kind_number q.kind)

-- the object is this part of this block
abbrev pub is_it : Home → Part → Named → Bool
is_it home part n = same_home n.home home && same_part n.part part

-- in a list with one more at the front
abbrev pub one_later : Option ℕ → Option ℕ
one_later None = None
one_later (Some k) = Some (k + 1)

-- under which number the part has crossed
abbrev pub number_of : Naming → Home → Part → Option ℕ
number_of [] home part = None
number_of (n ∷ ns) home part = if is_it home part n then Some 0 else one_later (number_of ns home part)

-- at this place of the block is that place of the part, from its beginning up to its end
abbrev pub is_place : Part → (at place : ℕ) → Bool
is_place part at place = nat_eq at (part.from + place) && nat_le place part.size

-- the part of which that is so
abbrev pub part_by : List Part → (at place : ℕ) → Option Part
part_by [] at place = None
part_by (p ∷ ps) at place = if is_place p at place then Some p else part_by ps at place

-- an object that has crossed before crosses again
abbrev pub again : Option Named → Naming → Home → (at place : ℕ) → Option Naming
again None ns home at place = None
again (Some n) ns home at place =
    if same_home n.home home && is_place n.part at place then Some ns else None

-- where it has no number yet
abbrev pub if_new : Option ℕ → Naming → Named → Option Naming
if_new None ns n = Some (ns ++ n ∷ [])
if_new (Some k) ns n = None

-- an object of the unit's crosses for the first time, and takes the next number
abbrev pub first_time : Option Part → Naming → Home → Option Naming
first_time (Some part) ns (Own function activation block) =
    let named : Named = record { home = Own function activation block; part = part } in
    if_new (number_of ns named.home part) ns named
first_time _ ns home = None

-- the naming after a value has crossed as this: none if it can't be shown so
abbrev pub named_by : (Home → List Part) → Naming → Value → Shown → Option Naming
named_by parts ns (Number v) (Word w) = if nat_eq v w then Some ns else None
named_by parts ns (Pointer home at) (Place object place) =
    if nat_lt object (length ns) then again (slice_get ns object) ns home at place
    else if nat_eq object (length ns) then first_time (part_by (parts home) at place) ns home else None
named_by parts ns _ _ = None

-- goes on with a value, if there is one
abbrev pub and_then : {A B : Type 0} → Option A → (A → Option B) → Option B
and_then None go = None
and_then (Some a) go = go a

-- the same for several values, from the first to the last
abbrev pub all_named_by : (Home → List Part) → Naming → List Value → List Shown → Option Naming
all_named_by parts ns [] [] = Some ns
all_named_by parts ns (v ∷ vs) (x ∷ xs) = and_then (named_by parts ns v x) (λ ms. all_named_by parts ms vs xs)
all_named_by parts ns _ _ = None

-- the place is within the part, or at its end
abbrev pub reaches : Part → (at : ℕ) → Bool
reaches part at = nat_le part.from at && nat_le at (part.from + part.size)

-- it is so of one of the parts
abbrev pub some_reaches : List Part → (at : ℕ) → Bool
some_reaches [] at = false
some_reaches (p ∷ ps) at = if reaches p at then true else some_reaches ps at

-- it is so of this object
abbrev pub reached_in : Option Named → Home → (at : ℕ) → Bool
reached_in None home at = false
reached_in (Some n) home at = same_home n.home home && reaches n.part at

-- the pointer is to a place of an object, so that it can be shown
abbrev pub can_point : (Home → List Part) → Naming → Home → (at : ℕ) → Bool
can_point parts ns (Own function activation block) at = some_reaches (parts (Own function activation block)) at
can_point parts ns (Theirs object) at = reached_in (slice_get ns object) (Theirs object) at

-- a word can always be shown, and what is hidden never
abbrev pub can_show : (Home → List Part) → Naming → Value → Bool
can_show parts ns (Number w) = true
can_show parts ns (Pointer home at) = can_point parts ns home at
can_show parts ns (Hidden what) = false

abbrev pub can_show_all : (Home → List Part) → Naming → List Value → Bool
can_show_all parts ns [] = true
can_show_all parts ns (v ∷ vs) = if can_show parts ns v then can_show_all parts ns vs else false

-- the words of a block, or none where its activation has returned
abbrev pub Memory : Type 0
Memory = Home → Option (List Value)

-- the cells of a part
abbrev pub cells : List Value → (from size : ℕ) → List Value
cells [] from size = []
cells (v ∷ vs) from zero = []
cells (v ∷ vs) zero (suc n) = v ∷ cells vs zero n
cells (v ∷ vs) (suc from) (suc n) = cells vs from (suc n)

-- the word of a cell, if it is one
abbrev pub content : Value → Option ℕ
content (Number w) = Some w
content _ = None

-- the words of the cells
abbrev pub contents : List Value → List (Option ℕ)
contents [] = []
contents (v ∷ vs) = content v ∷ contents vs

-- those of a part, where its block is there
abbrev pub contents_in : Option (List Value) → Part → Option (List (Option ℕ))
contents_in None part = None
contents_in (Some block) part = Some (contents (cells block part.from part.size))

-- whose activation the block belongs to
abbrev pub owner_of : Home → Owner
owner_of (Own function activation block) = Inside
owner_of (Theirs object) = Outside

-- an object, as a label shows it
abbrev pub object_of : Memory → Named → Object
object_of memory n = record {
  owner = owner_of n.home;
  kind = n.part.kind;
  size = n.part.size;
  contents = contents_in (memory n.home) n.part;
}

-- all of them
abbrev pub objects_of : Memory → Naming → List Object
objects_of memory [] = []
objects_of memory (n ∷ ns) = object_of memory n ∷ objects_of memory ns

-- objects are compared field by field
abbrev pub same_owner : Owner → Owner → Bool
same_owner Inside Inside = true
same_owner Outside Outside = true
same_owner _ _ = false

abbrev pub same_content : Option ℕ → Option ℕ → Bool
same_content None None = true
same_content (Some v) (Some w) = nat_eq v w
same_content _ _ = false

abbrev pub same_contents : List (Option ℕ) → List (Option ℕ) → Bool
same_contents [] [] = true
same_contents (v ∷ vs) (w ∷ ws) = same_content v w && same_contents vs ws
same_contents _ _ = false

abbrev pub same_state : Option (List (Option ℕ)) → Option (List (Option ℕ)) → Bool
same_state None None = true
same_state (Some vs) (Some ws) = same_contents vs ws
same_state _ _ = false

abbrev pub same_object : Object → Object → Bool
same_object o p =
    same_owner o.owner p.owner && nat_eq (kind_number o.kind) (kind_number p.kind) && nat_eq o.size p.size
    && same_state o.contents p.contents

abbrev pub same_objects : List Object → List Object → Bool
same_objects [] [] = true
same_objects (o ∷ os) (p ∷ ps) = same_object o p && same_objects os ps
same_objects _ _ = false

-- the value that crosses as this, where these objects have crossed
abbrev pub value_at : Option Named → (place : ℕ) → Option Value
value_at None place = None
value_at (Some n) place = Some (Pointer n.home (n.part.from + place))

abbrev pub taken : Naming → Shown → Option Value
taken ns (Word w) = Some (Number w)
taken ns (Place object place) = value_at (slice_get ns object) place

-- the same for several values: none if one of them is no value here
abbrev pub all_taken : Naming → List Shown → Option (List Value)
all_taken ns [] = Some []
all_taken ns (x ∷ xs) = and_then (taken ns x) (λ v. and_then (all_taken ns xs) (λ vs. Some (v ∷ vs)))

-- the cell with a new word, if there is one
abbrev pub refilled : Option ℕ → Value → Value
refilled None old = old
refilled (Some w) old = Number w

-- the block with these words at its front, and at most so many
abbrev pub overwritten : List Value → (size : ℕ) → List (Option ℕ) → List Value
overwritten [] size ws = []
overwritten (v ∷ vs) zero ws = v ∷ vs
overwritten (v ∷ vs) (suc size) [] = v ∷ vs
overwritten (v ∷ vs) (suc size) (w ∷ ws) = refilled w v ∷ overwritten vs size ws

-- the block with these words in the stretch that begins here and has this size
abbrev pub written : List Value → (from size : ℕ) → List (Option ℕ) → List Value
written vs zero size ws = overwritten vs size ws
written [] (suc from) size ws = []
written (v ∷ vs) (suc from) size ws = v ∷ written vs from size ws

-- the memory with another block at this home
abbrev pub with_block : Memory → Home → Option (List Value) → Memory
with_block memory home block = λ h. if same_home h home then block else memory h

-- where the outside lets an object die: only one of its own does
abbrev pub died : Home → List Value → Option (List Value)
died (Own function activation block) values = Some values
died (Theirs object) values = None

-- what the outside leaves of a block
abbrev pub left_in : Named → Option (List Value) → Option (List (Option ℕ)) → Option (List Value)
left_in n None ws = None
left_in n (Some block) None = died n.home block
left_in n (Some block) (Some ws) = Some (written block n.part.from n.part.size ws)

-- so many words
abbrev pub filled : (size : ℕ) → List (Option ℕ) → List Value
filled zero ws = []
filled (suc size) [] = Number 0 ∷ filled size []
filled (suc size) (w ∷ ws) = refilled w (Number 0) ∷ filled size ws

-- the block of a new object
abbrev pub new_block : (size : ℕ) → Option (List (Option ℕ)) → Option (List Value)
new_block size None = None
new_block size (Some ws) = Some (filled size ws)

-- an object of the outside's, which crosses under this number
abbrev pub theirs : ℕ → Object → Named
theirs k o = record { home = Theirs k; part = record { from = 0; size = o.size; kind = o.kind } }

-- a naming and a memory
pub record Crossed : Type 0 where
  pub naming : Naming
  pub memory : Memory

abbrev pub and_named : Named → Crossed → Crossed
and_named n c = record { naming = n ∷ c.naming; memory = c.memory }

-- what the outside leaves, from the object with number k on: new contents of the objects that have crossed, and objects
-- of its own. Nothing else of a block changes
abbrev pub brought : Memory → Naming → (k : ℕ) → List Object → Crossed
brought memory ns k [] = record { naming = ns; memory = memory }
brought memory [] k (o ∷ os) =
    and_named (theirs k o) (brought (with_block memory (Theirs k) (new_block o.size o.contents)) [] (k + 1) os)
brought memory (n ∷ ns) k (o ∷ os) =
    and_named n (brought (with_block memory n.home (left_in n (memory n.home) o.contents)) ns (k + 1) os)
