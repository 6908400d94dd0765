-- What the outside may bring, after the labels of a run so far. It rests on labels alone, and on no language.
use Rattle.std.specs.Prelude.{◌≡◌, ℕ, ◌+◌, ◌≤◌, nat_eq, nat_lt, true, List, [], ◌∷◌, length, Option, Some, None}
use Rattle.std.specs.Prelude.{if◌then◌else◌}
use Rattle.cas_base.specs.declared.kind.Kind.{Kind}
use Rattle.cas_runs.specs.Label.{Each, NameBytes, Shown, Word, Place, Owner, Outside, Object, Crossing, RunLabel}
use Rattle.cas_runs.specs.Label.{Enter, Back, Call, Leave, locks_of}
use Rattle.cas_runs.specs.Edge.{Signature, Edge, IsOfKind, IsShare, AreOfTypes, returned, signature_of, most_cells}
use Rattle.cas_runs.specs.Edge.{most_live}

-- a call or an entry that hasn't returned yet, with the locks of the share that came or went with it
pub data Pending : Type 0 where
  Called : (function : NameBytes) (locks : List ℕ) → Pending
  Entered : (function : NameBytes) (locks : List ℕ) → Pending

abbrev pub without_newest : List Pending → List Pending
without_newest [] = []
without_newest (p ∷ ps) = ps

-- the calls and entries that haven't returned, the newest first. Labels are the newest first
abbrev pub pending : List RunLabel → List Pending
pending [] = []
pending (Enter f crossing ∷ ls) = Entered f (locks_of crossing.share) ∷ pending ls
pending (Call f crossing ∷ ls) = Called f (locks_of crossing.share) ∷ pending ls
pending (Back crossing ∷ ls) = without_newest (pending ls)
pending (Leave crossing ∷ ls) = without_newest (pending ls)
pending (l ∷ ls) = pending ls

-- the objects that have crossed, as the newest crossing shows them
abbrev pub crossed : List RunLabel → List Object
crossed [] = []
crossed (Enter f crossing ∷ ls) = crossing.objects
crossed (Call f crossing ∷ ls) = crossing.objects
crossed (Back crossing ∷ ls) = crossing.objects
crossed (Leave crossing ∷ ls) = crossing.objects
crossed (l ∷ ls) = crossed ls

-- what an object's cells show: none where it is dead
abbrev pub Contents : Type 0
Contents = Option (List (Option ℕ))

-- a cell's content is a word of the kind
abbrev pub IsWordOf : Kind → Option ℕ → Type 0
IsWordOf kind (Some w) = IsOfKind w kind
IsWordOf kind None = ⊥

abbrev pub AreWordsOf : Kind → List (Option ℕ) → Type 0
AreWordsOf kind = Each (IsWordOf kind)

-- new contents of an object: as many words as it has cells, each of its kind
pub record Fills (object : Object) (contents : List (Option ℕ)) : Type 0 where
  pub size : length contents ≡ object.size
  pub kinds : AreWordsOf object.kind contents

-- the same object, but for its owner and its contents, which may be such
pub record SameBut (MayOwn : Owner → Owner → Type 0) (MayShow : Object → Contents → Contents → Type 0)
    (old new : Object) : Type 0 where
  pub owner : MayOwn new.owner old.owner
  pub kind : new.kind ≡ old.kind
  pub size : new.size ≡ old.size
  pub contents : MayShow old old.contents new.contents

-- what the outside may make of an object's contents: an object of its own may die, and a dead one stays dead
abbrev pub ChangesTo : Object → Contents → Contents → Type 0
ChangesTo o (Some old) (Some new) = Fills o new
ChangesTo o (Some old) None = o.owner ≡ Outside
ChangesTo o None None = Unit {0}
ChangesTo o None (Some new) = ⊥

abbrev pub Changes : Object → Object → Type 0
Changes = SameBut (λ o p. o ≡ p) ChangesTo

-- what a new object may contain: it may be dead
abbrev pub NewContents : Object → Contents → Type 0
NewContents o None = Unit {0}
NewContents o (Some new) = Fills o new

-- an object of the outside's, which comes for the first time
pub record IsNew (object : Object) : Type 0 where
  pub owner : object.owner ≡ Outside
  pub least : 1 ≤ object.size
  pub most : object.size ≤ most_cells
  pub contents : NewContents object object.contents

-- the objects that crossed before are still there, and the others are new
abbrev pub Extend : (May : Object → Object → Type 0) → (IsFirst : Object → Type 0) → List Object → List Object → Type 0
Extend May IsFirst [] news = Each IsFirst news
Extend May IsFirst (o ∷ os) (n ∷ ns) = May o n × Extend May IsFirst os ns
Extend May IsFirst _ _ = ⊥

-- as the outside may leave them
abbrev pub Continues : List Object → List Object → Type 0
Continues = Extend Changes IsNew

-- how many objects have crossed with these values, where each crosses under the next number: none if a number is
-- skipped
abbrev pub numbered : ℕ → List Shown → Option ℕ
numbered n [] = Some n
numbered n (Word w ∷ vs) = numbered n vs
numbered n (Place object place ∷ vs) =
    if nat_lt object n then numbered n vs else if nat_eq object n then numbered (n + 1) vs else None

abbrev pub cells_if : Contents → (size : ℕ) → ℕ
cells_if None size = 0
cells_if (Some contents) size = size

-- how many cells the live objects have
abbrev pub live_cells : List Object → ℕ
live_cells [] = 0
live_cells (o ∷ os) = cells_if o.contents o.size + live_cells os

-- what the outside may bring with an entry or a return: a share, and the objects, with no more live cells than a thread
-- has words of stack
pub record Brings (edge : Edge) (before : List Object) (crossing : Crossing) : Type 0 where
  pub share : IsShare edge crossing.share
  pub objects : Continues before crossing.objects
  pub room : live_cells crossing.objects ≤ most_live
  pub numbers : numbered (length before) crossing.values ≡ Some (length crossing.objects)

-- the lock is one of these
pub data IsAmong : ℕ → List ℕ → Type 0 where
  first : {l : ℕ} {ls : List ℕ} → IsAmong l (l ∷ ls)
  later : {l k : ℕ} {ls : List ℕ} → IsAmong l ls → IsAmong l (k ∷ ls)

-- each of the second locks is one of the first
abbrev pub Holds : List ℕ → List ℕ → Type 0
Holds locks = Each (λ l. IsAmong l locks)

-- the outside enters a function of the unit, with values of its parameters' types and at least the locks that it holds
pub record MayEnter (edge : Edge) (before : List RunLabel) (function : NameBytes) (crossing : Crossing) : Type 0 where
  pub signature : Signature
  pub known : signature_of edge.functions function ≡ Some signature
  pub inside : signature.inside ≡ true
  pub values : AreOfTypes crossing.objects signature.params crossing.values
  pub holds : Holds (locks_of crossing.share) signature.holds
  pub brings : Brings edge (crossed before) crossing

-- the outside returns from the newest call, with a value of the result's type and the locks that were there at the call
pub record MayReturn (edge : Edge) (before : List RunLabel) (crossing : Crossing) : Type 0 where
  pub function : NameBytes
  pub older : List Pending
  pub newest : pending before ≡ Called function (locks_of crossing.share) ∷ older
  pub signature : Signature
  pub known : signature_of edge.functions function ≡ Some signature
  pub values : AreOfTypes crossing.objects (returned signature.ret) crossing.values
  pub brings : Brings edge (crossed before) crossing

-- the outside may bring this label after these
abbrev pub MayBring : Edge → List RunLabel → RunLabel → Type 0
MayBring edge before (Enter f crossing) = MayEnter edge before f crossing
MayBring edge before (Back crossing) = MayReturn edge before crossing
MayBring edge before l = ⊥
