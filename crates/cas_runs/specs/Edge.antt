-- What stands at the edge of a unit: the words by number, and the functions by name.
use Rattle.std.specs.Prelude.{◌≡◌, ℕ, ◌<◌, ◌≤◌, nat_eq, Bool, IsTrue, List, [], ◌∷◌, length, Option, Some, None}
use Rattle.std.specs.Prelude.{slice_get, if◌then◌else◌}
use Rattle.cas_base.specs.Kind.{is_of_kind}
use Rattle.cas_base.specs.declared.kind.Kind.{Kind}
use Rattle.cas_base.specs.declared.kind.Ty.{Ty}
use Rattle.cas_base.specs.declared.kind.Ty.TheVariants.{Void, Int, Ptr, Array}
use Rattle.cas_runs.specs.Label.{Each, Both, NameBytes, same_name, Shown, Word, Place, Object, Held, Share}

-- what a word is: a lock, a shared word with its kind and the lock that guards it, if its guard is a lock, or a word
-- of a table of constants
pub data Cell : Type 0 where
  LockWord : Cell
  SharedWord : (kind : Kind) (guard : Option ℕ) (initial : ℕ) → Cell
  TableWord : (value : ℕ) → Cell

-- a function as calls see it: which locks it holds, and whether its body is inside, where the outside may enter it
pub record Signature : Type 0 where
  pub name : NameBytes
  pub ret : Ty
  pub params : List Ty
  pub holds : List ℕ
  pub inside : Bool

-- the words of a global or of a lock: the number of the first, and how many they are
pub record Stretch : Type 0 where
  pub first : ℕ
  pub size : ℕ

-- where the words of each global and lock stand
abbrev pub Words : Type 0
Words = NameBytes → Option Stretch

-- the words, where those of each global and lock stand, and the functions. A lock goes by the number of its word
pub record Edge : Type 0 where
  pub cells : List Cell
  pub words : Words
  pub functions : List Signature

-- the word is a value of the kind
abbrev pub IsOfKind : ℕ → Kind → Type 0
IsOfKind word kind = IsTrue (is_of_kind word kind)

-- the kind of a word that this lock guards
abbrev pub kind_under : Option ℕ → ℕ → Kind → Option Kind
kind_under None lock kind = None
kind_under (Some guard) lock kind = if nat_eq guard lock then Some kind else None

abbrev pub kind_if_guarded : ℕ → Cell → Option Kind
kind_if_guarded lock (SharedWord kind guard initial) = kind_under guard lock kind
kind_if_guarded lock _ = None

abbrev pub and_kind : Option Kind → List Kind → List Kind
and_kind None kinds = kinds
and_kind (Some kind) kinds = kind ∷ kinds

-- the kinds of the words that the lock guards, in the order of their numbers
abbrev pub guarded : ℕ → List Cell → List Kind
guarded lock [] = []
guarded lock (c ∷ cs) = and_kind (kind_if_guarded lock c) (guarded lock cs)

-- as many words as kinds, and each a value of its kind
abbrev pub AreOfKinds : List ℕ → List Kind → Type 0
AreOfKinds = Both IsOfKind

-- the words are such as the lock can guard
pub record AreGuarded (edge : Edge) (lock : ℕ) (words : List ℕ) : Type 0 where
  pub is_lock : slice_get edge.cells lock ≡ Some LockWord
  pub kinds : AreOfKinds words (guarded lock edge.cells)

-- the words are as many as the lock guards
pub record AreUnder (edge : Edge) (lock : ℕ) (words : List ℕ) : Type 0 where
  pub is_lock : slice_get edge.cells lock ≡ Some LockWord
  pub count : length words ≡ length (guarded lock edge.cells)

-- all locks of the share are greater than this one
abbrev pub AreAbove : ℕ → Share → Type 0
AreAbove lock = Each (λ (h : Held). lock < h.lock)

-- the share is in order, and the words are such for their lock
abbrev pub IsOrderedWith : (ℕ → List ℕ → Type 0) → Share → Type 0
IsOrderedWith AreSuch [] = Unit {0}
IsOrderedWith AreSuch (h ∷ hs) = AreSuch h.lock h.words × AreAbove h.lock hs × IsOrderedWith AreSuch hs

-- the share is in order, and has as many words as its locks guard
abbrev pub IsOrdered : Edge → Share → Type 0
IsOrdered edge = IsOrderedWith (AreUnder edge)

-- and its words are such as its locks can guard
abbrev pub IsShare : Edge → Share → Type 0
IsShare edge = IsOrderedWith (AreGuarded edge)

abbrev pub HasContents : Option (List (Option ℕ)) → Type 0
HasContents None = ⊥
HasContents (Some contents) = Unit {0}

-- the object is live
abbrev pub IsLive : Object → Type 0
IsLive o = HasContents o.contents

-- a place that a pointer to cells of this kind can have: up to the object's end. Of a dead object the kind isn't known
pub record IsPlace (objects : List Object) (kind : Kind) (object place : ℕ) : Type 0 where
  pub it : Object
  pub there : slice_get objects object ≡ Some it
  pub same_kind : IsLive it → it.kind ≡ kind
  pub in_reach : place ≤ it.size

-- the value is of the type, where these objects have crossed
abbrev pub IsOfType : List Object → Ty → Shown → Type 0
IsOfType objects (Int kind) (Word w) = IsOfKind w kind
IsOfType objects (Ptr kind) (Word w) = w ≡ 0
IsOfType objects (Ptr kind) (Place object place) = IsPlace objects kind object place
IsOfType objects _ _ = ⊥

abbrev pub AreOfTypes : List Object → List Ty → List Shown → Type 0
AreOfTypes objects = Both (IsOfType objects)

-- the types of what a function returns: none, or one value
abbrev pub returned : Ty → List Ty
returned Void = []
returned (Int kind) = Int kind ∷ []
returned (Ptr kind) = Ptr kind ∷ []
returned (Array kind size) = []

-- the function of this name
abbrev pub signature_of : List Signature → NameBytes → Option Signature
signature_of [] name = None
signature_of (f ∷ fs) name = if same_name f.name name then Some f else signature_of fs name

abbrev pub count_of : Option Signature → Option ℕ
count_of None = None
count_of (Some f) = Some (length (returned f.ret))

-- how many values the function of this name returns, where the edge has it
abbrev pub results_of : Edge → NameBytes → Option ℕ
results_of edge name = count_of (signature_of edge.functions name)

-- the most words of globals and locks that a program has
abbrev pub most_words : ℕ
most_words = 65536

-- the most cells that an object has: those of all locals of a function
abbrev pub most_cells : ℕ
most_cells = 4096

-- the most words of stack that a thread has, and so the most cells of live objects
abbrev pub most_live : ℕ
most_live = 1048576
