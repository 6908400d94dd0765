-- What a unit shows with a Call or a Leave, as another unit receives it: the same values, share and objects under the
-- numbers that they have there.
use Rattle.std.specs.Prelude.{◌≡◌, ◌⊎◌, ℕ, ◌≤◌, true, List, ◌∷◌, length, Option, Some, None, slice_get}
use Rattle.cas_runs.specs.Label.{Both, NameBytes, Shown, Word, Place, Outside, Object, Crossing, RunLabel, Enter}
use Rattle.cas_runs.specs.Label.{Back, Call, Leave}
use Rattle.cas_runs.specs.Edge.{Signature, Edge, signature_of, most_live}
use Rattle.cas_runs.specs.Outside.{Pending, Called, Entered, pending, crossed, Contents, SameBut, Changes, numbered}
use Rattle.cas_runs.specs.Outside.{live_cells, Holds, MayBring}
use Rattle.cas_runs.specs.Rules.{MayCross, EmitsInKind, EmitsLocks}

-- the value with the number of its object there, if it has one
abbrev pub at_number : Option ℕ → (place : ℕ) → Option Shown
at_number None place = None
at_number (Some n) place = Some (Place n place)

abbrev pub renumbered : (number : ℕ → Option ℕ) → Shown → Option Shown
renumbered number (Word w) = Some (Word w)
renumbered number (Place object place) = at_number (number object) place

abbrev pub AreRenumbered : (number : ℕ → Option ℕ) → List Shown → List Shown → Type 0
AreRenumbered number = Both (λ v w. renumbered number v ≡ Some w)

-- one object, whoever it belongs to
abbrev pub IsSame : Object → Object → Type 0
IsSame = SameBut (λ o p. Unit {0}) (λ o old new. new ≡ old)

-- an object that was seen with these contents has those now: none of the hearing unit's own has died since, and no
-- dead one lives
abbrev pub Lasts : Object → Contents → Contents → Type 0
Lasts o (Some old) None = o.owner ≡ Outside
Lasts o None (Some new) = ⊥
Lasts o _ _ = Unit {0}

-- an object that was seen before is seen again
abbrev pub IsAgain : Object → Object → Type 0
IsAgain = SameBut (λ o p. o ≡ p) Lasts

-- the object with this number there is this one of those that are said
pub record IsEmitted (emitted : Crossing) (number : ℕ → Option ℕ) (there : ℕ) (new : Object) : Type 0 where
  pub here : ℕ
  pub object : Object
  pub shown : slice_get emitted.objects here ≡ Some object
  pub numbers : number here ≡ Some there
  pub same : IsSame object new

-- what is said is heard so by a unit that has seen these objects: with the same share, and with values and objects by
-- its own numbers, of which new objects take the next ones. Objects that it has seen before are still there; those
-- that the saying unit doesn't know, others have left as they may
pub record IsReceivedAs (emitted received : Crossing) (seen : List Object) : Type 0 where
  pub number : ℕ → Option ℕ
  pub share : received.share ≡ emitted.share
  pub values : AreRenumbered number emitted.values received.values
  pub there : (i j : ℕ) (o : Object) → slice_get emitted.objects i ≡ Some o → number i ≡ Some j →
      (new : Object) × (slice_get received.objects j ≡ Some new) × IsSame o new
  pub stays : (j : ℕ) (old new : Object) → slice_get seen j ≡ Some old → slice_get received.objects j ≡ Some new →
      Changes old new ⊎ (IsAgain old new × IsEmitted emitted number j new)
  pub comes : (j : ℕ) (new : Object) → length seen ≤ j → slice_get received.objects j ≡ Some new →
      (new.owner ≡ Outside) × IsEmitted emitted number j new
  pub numbers : numbered (length seen) received.values ≡ Some (length received.objects)

-- a function there is the one here: with the same types, and holding no more
pub record IsAsHere (here there : Signature) : Type 0 where
  pub params : there.params ≡ here.params
  pub ret : there.ret ≡ here.ret
  pub holds : Holds here.holds there.holds

-- the function is known at both edges, over the same words
pub record IsKnownAtBoth (edge other : Edge) (function : NameBytes) : Type 0 where
  pub cells : edge.cells ≡ other.cells
  pub here : Signature
  pub there : Signature
  pub known_here : signature_of edge.functions function ≡ Some here
  pub known_there : signature_of other.functions function ≡ Some there
  pub as_here : IsAsHere here there

-- Where a unit keeps the rules and says what is in kind, with the locks that are due, another unit that has the
-- called function may hear its Call as an Enter, with room for the objects.
abbrev pub CallsAreReceived : Type 0
CallsAreReceived =
    (edge other : Edge) (before earlier : List RunLabel) (function : NameBytes) (emitted received : Crossing)
    (known : IsKnownAtBoth edge other function) → known.there.inside ≡ true →
    MayCross edge before (Some function) emitted → EmitsInKind edge before (Call function emitted) →
    EmitsLocks edge before (Call function emitted) →
    IsReceivedAs emitted received (crossed earlier) → live_cells received.objects ≤ most_live →
    MayBring other earlier (Enter function received)

-- And the unit that called may hear its Leave as a Back, where what it entered with was what the caller called with.
abbrev pub ReturnsAreReceived : Type 0
ReturnsAreReceived =
    (edge other : Edge) (before earlier : List RunLabel) (function : NameBytes) (locks : List ℕ)
    (older callers : List Pending) (emitted received : Crossing) → IsKnownAtBoth edge other function →
    pending before ≡ Entered function locks ∷ older → pending earlier ≡ Called function locks ∷ callers →
    MayCross edge before None emitted → EmitsInKind edge before (Leave emitted) →
    EmitsLocks edge before (Leave emitted) →
    IsReceivedAs emitted received (crossed earlier) → live_cells received.objects ≤ most_live →
    MayBring other earlier (Back received)
