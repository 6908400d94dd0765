-- Labels of a run: what a unit and its outside show to each other.
use Rattle.std.specs.Prelude.{◌≡◌, ℕ, nat_eq, Bool, true, false, List, [], ◌∷◌, Option, Some, None, if◌then◌else◌}
use Rattle.cas_base.specs.declared.kind.Kind.{Kind}
use Rattle.cas_base.specs.declared.label.Label.{Label}
use Rattle.cas_base.specs.declared.label.Label.TheVariants as plain

-- each of them is so
abbrev pub Each : {A : Type 0} → (A → Type 0) → List A → Type 0
Each P [] = Unit {0}
Each P (x ∷ xs) = P x × Each P xs

-- as many of both, each so of the other in its place
abbrev pub Both : {A B : Type 0} → (A → B → Type 0) → List A → List B → Type 0
Both P [] [] = Unit {0}
Both P (x ∷ xs) (y ∷ ys) = P x y × Both P xs ys
Both P _ _ = ⊥

-- a name, by its bytes
abbrev pub NameBytes : Type 0
NameBytes = List ℕ

-- a value as it crosses: a word (null is 0), or a place in the object that crossed under this number
pub data Shown : Type 0 where
  Word : (word : ℕ) → Shown
  Place : (object place : ℕ) → Shown

-- whose activation an object belongs to
pub data Owner : Type 0 where
  Inside : Owner
  Outside : Owner

-- an object that has crossed: how many cells it has, and of which kind. It is dead where it has no contents any more. A
-- cell's content is its word, or none where it is a pointer, as no object of the source has
pub record Object : Type 0 where
  pub owner : Owner
  pub kind : Kind
  pub size : ℕ
  pub contents : Option (List (Option ℕ))

-- a lock that is held, with the values of the words that it guards, in their order
pub record Held : Type 0 where
  pub lock : ℕ
  pub words : List ℕ

-- the words that a thread has, in ascending order of their locks
abbrev pub Share : Type 0
Share = List Held

-- what crosses with a call, an entry or a return: arguments or result, the share, and the objects in the order of their
-- first crossing
pub record Crossing : Type 0 where
  pub values : List Shown
  pub share : Share
  pub objects : List Object

-- a label of a run. Lock, Enter and Back come from the outside, the others from the unit
pub data RunLabel : Type 0 where
  Lock : (lock : ℕ) (words : List ℕ) → RunLabel
  Unlock : (lock : ℕ) (words : List ℕ) → RunLabel
  Out : (word : ℕ) → RunLabel
  Done : RunLabel
  Enter : (function : NameBytes) (crossing : Crossing) → RunLabel
  Back : (crossing : Crossing) → RunLabel
  Call : (function : NameBytes) (crossing : Crossing) → RunLabel
  Leave : (crossing : Crossing) → RunLabel

-- a Call of this function, or a Leave
abbrev pub crossing_label : Option NameBytes → Crossing → RunLabel
crossing_label (Some function) crossing = Call function crossing
crossing_label None crossing = Leave crossing

-- what the label is where runs of threads are put together: the crossing labels don't occur there
abbrev pub plain_label : RunLabel → Option Label
plain_label (Lock lock words) = Some (plain.Lock lock)
plain_label (Unlock lock words) = Some (plain.Unlock lock)
plain_label (Out word) = Some (plain.Out word)
plain_label Done = Some plain.Done
plain_label _ = None

abbrev pub and_plain : Option Label → List Label → List Label
and_plain None labels = labels
and_plain (Some label) labels = label ∷ labels

-- the plain labels of a run, in its order
abbrev pub plain_labels : List RunLabel → List Label
plain_labels [] = []
plain_labels (l ∷ ls) = and_plain (plain_label l) (plain_labels ls)

-- none of them is a crossing label
abbrev pub ArePlain : List RunLabel → Type 0
ArePlain = Each (λ l. (label : Label) × (plain_label l ≡ Some label))

-- the same name
abbrev pub same_name : NameBytes → NameBytes → Bool
same_name [] [] = true
same_name (a ∷ rest) (b ∷ bs) = if nat_eq a b then same_name rest bs else false
same_name _ _ = false

-- the locks of a share, in ascending order
abbrev pub locks_of : Share → List ℕ
locks_of [] = []
locks_of (h ∷ hs) = h.lock ∷ locks_of hs
