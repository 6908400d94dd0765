-- What units know of objects, however many units there are: an object that has crossed anywhere has one number in the
-- whole thread, and each unit has a number of its own for it.
use Rattle.std.specs.Prelude.{◌≡◌, ℕ, ◌<◌, ◌≤◌, List, [], length, nat_eq, Option, Some, None, slice_get, if◌then◌else◌}
use Rattle.cas_base.specs.declared.kind.Kind.TheVariants.{U32}
use Rattle.cas_runs.specs.Label.{Owner, Inside, Outside, Object, Crossing}
use Rattle.cas_runs.specs.Edge.{most_cells}
use Rattle.cas_runs.specs.Outside.{Fills, numbered}
use Rattle.cas_runs.specs.Rules.{LeavesAll, AllShowWords, AreSized}
use Rattle.cas_runs.specs.Receiving.{IsSame, AreRenumbered, IsReceivedAs}

-- the family with another member at this number
abbrev pub set : {A : Type 0} → (ℕ → A) → ℕ → A → ℕ → A
set f at v = λ n. if nat_eq n at then v else f n

pub record Known : Type 0 where
  -- the thread's number of the object that has this number in a unit, and back
  pub id : (unit number : ℕ) → Option ℕ
  pub number : (unit id : ℕ) → Option ℕ
  -- the object as it was shown last, and the unit that it belongs to
  pub object : (id : ℕ) → Object
  pub owner : (id : ℕ) → ℕ
  -- all numbers are below this one
  pub count : ℕ
  -- the units that wait, the newest first: who called, and who called that
  pub callers : List ℕ

-- at the start no object has crossed
abbrev pub nothing_known : Known
nothing_known = record {
  id = λ unit number. None;
  number = λ unit id. None;
  object = λ id. record { owner = Inside; kind = U32; size = 1; contents = None };
  owner = λ id. 0;
  count = 0;
  callers = [];
}

-- whose the object is, as a unit sees it
pub record OwnerFits (unit owner : ℕ) (o : Owner) : Type 0 where
  pub inside : unit ≡ owner → o ≡ Inside
  pub outside : (unit ≡ owner → ⊥) → o ≡ Outside

-- what the unit saw is the object as it was then: dead it stays, and one of the unit's own doesn't die while others run
pub record WasSeen (k : Known) (unit : ℕ) (o : Object) (g : ℕ) : Type 0 where
  pub kind : o.kind ≡ (k.object g).kind
  pub size : o.size ≡ (k.object g).size
  pub owner : OwnerFits unit (k.owner g) o.owner
  pub stays_dead : o.contents ≡ None → (k.object g).contents ≡ None
  pub stays_live : unit ≡ k.owner g → (k.object g).contents ≡ None → o.contents ≡ None

-- each object that the unit has seen has a number in the thread
abbrev pub AllSeen : Known → ℕ → List Object → Type 0
AllSeen k unit seen = (n : ℕ) (o : Object) → slice_get seen n ≡ Some o → (g : ℕ) × (k.id unit n ≡ Some g)
    × WasSeen k unit o g

abbrev pub OnlySeen : Known → ℕ → List Object → Type 0
OnlySeen k unit seen = (n g : ℕ) → k.id unit n ≡ Some g → (o : Object) × (slice_get seen n ≡ Some o)

-- the running unit has seen objects as they are
abbrev pub UpToDate : Known → ℕ → List Object → Type 0
UpToDate k unit seen = (n g : ℕ) (o : Object) → slice_get seen n ≡ Some o → k.id unit n ≡ Some g → IsSame (k.object g) o

-- an object of the source: words of its kind, and not too many
pub record IsObject (o : Object) : Type 0 where
  pub fills : (ws : List (Option ℕ)) → o.contents ≡ Some ws → Fills o ws
  pub least : 1 ≤ o.size
  pub most : o.size ≤ most_cells

-- numbers are each other's
pub record AreNumbers (k : Known) : Type 0 where
  pub there : (i n g : ℕ) → k.id i n ≡ Some g → k.number i g ≡ Some n
  pub back : (i n g : ℕ) → k.number i g ≡ Some n → k.id i n ≡ Some g

-- what is known fits what units have seen, where this unit runs
pub record IsKnown (k : Known) (now : ℕ) (seen : ℕ → List Object) : Type 0 where
  pub numbers : AreNumbers k
  pub all_seen : (i : ℕ) → AllSeen k i (seen i)
  pub only_seen : (i : ℕ) → OnlySeen k i (seen i)
  pub up_to_date : UpToDate k now (seen now)
  pub objects : (i n g : ℕ) → k.id i n ≡ Some g → IsObject (k.object g)
  pub owners : (i n g : ℕ) → k.id i n ≡ Some g → (m : ℕ) × (k.id (k.owner g) m ≡ Some g)
  pub below : (i n g : ℕ) → k.id i n ≡ Some g → g < k.count

abbrev pub at_unit : Known → (unit : ℕ) → Option ℕ → Option ℕ
at_unit k unit None = None
at_unit k unit (Some g) = k.number unit g

-- the other unit's number of an object
abbrev pub renumber : Known → (unit other : ℕ) → ℕ → Option ℕ
renumber k unit other n = at_unit k other (k.id unit n)

-- what one unit emits, and what the other receives for it
pub record Exchange : Type 0 where
  pub from : ℕ
  pub to : ℕ
  pub emitted : Crossing
  pub received : Crossing

-- numbers that were stay, and only these two units get new ones
pub record Grows (k : Known) (x : Exchange) (k' : Known) : Type 0 where
  pub numbers : AreNumbers k'
  pub below : (i n g : ℕ) → k'.id i n ≡ Some g → g < k'.count
  pub keeps : (i n g : ℕ) → k.id i n ≡ Some g → k'.id i n ≡ Some g
  pub same_owner : (i n g : ℕ) → k.id i n ≡ Some g → k'.owner g ≡ k.owner g
  pub others : (i n : ℕ) → (i ≡ x.from → ⊥) → (i ≡ x.to → ⊥) → k'.id i n ≡ k.id i n

-- each object that is emitted has its number, and the new ones are the unit's own, which nobody knew
pub record EmitsKnown (k : Known) (x : Exchange) (k' : Known) : Type 0 where
  pub known : (n : ℕ) (o : Object) → slice_get x.emitted.objects n ≡ Some o →
      (g : ℕ) × (k'.id x.from n ≡ Some g) × IsSame o (k'.object g)
  pub only : (n g : ℕ) → k'.id x.from n ≡ Some g → (o : Object) × (slice_get x.emitted.objects n ≡ Some o)
  pub news : (n g : ℕ) → k.id x.from n ≡ None → k'.id x.from n ≡ Some g →
      (k'.owner g ≡ x.from) × ((i : ℕ) → k.number i g ≡ None)
  -- what isn't emitted is as it was
  pub unsaid : (i n g : ℕ) → k.id i n ≡ Some g → k'.number x.from g ≡ None → k'.object g ≡ k.object g

-- the other unit receives all objects that it knows as they are, and of the others those that the values show
pub record ReceivesKnown (k : Known) (x : Exchange) (k' : Known) : Type 0 where
  pub known : (n : ℕ) (o : Object) → slice_get x.received.objects n ≡ Some o →
      (g : ℕ) × (k'.id x.to n ≡ Some g) × IsSame (k'.object g) o × OwnerFits x.to (k'.owner g) o.owner
  pub only : (n g : ℕ) → k'.id x.to n ≡ Some g → (o : Object) × (slice_get x.received.objects n ≡ Some o)
  pub news : (n g : ℕ) → k.id x.to n ≡ None → k'.id x.to n ≡ Some g → (m : ℕ) × (k'.id x.from m ≡ Some g)

-- the running unit emits, and another receives it so
pub record Exchanged (k : Known) (seen : ℕ → List Object) (x : Exchange) (k' : Known) : Type 0 where
  pub another : x.to ≡ x.from → ⊥
  pub grows : Grows k x k'
  pub emits : EmitsKnown k x k'
  pub receives : ReceivesKnown k x k'
  pub share : x.received.share ≡ x.emitted.share
  pub values : AreRenumbered (renumber k' x.from x.to) x.emitted.values x.received.values
  pub counted : numbered (length (seen x.to)) x.received.values ≡ Some (length x.received.objects)

-- Whatever a unit emits within the rules, each other unit may receive: there is a crossing for it.
abbrev pub ReceivedExists : Type 0
ReceivedExists =
    (k : Known) (seen : ℕ → List Object) (from to : ℕ) (emitted : Crossing) (callers : List ℕ) → IsKnown k from seen →
    LeavesAll (seen from) emitted.objects →
    numbered (length (seen from)) emitted.values ≡ Some (length emitted.objects) → (to ≡ from → ⊥) →
    (received : Crossing) × (k' : Known) ×
    Exchanged k seen (record { from = from; to = to; emitted = emitted; received = received }) k' ×
    (k'.callers ≡ callers)

-- what a unit emits within the rules, with as many words as the objects say
pub record EmitsBy (seen : List Object) (emitted : Crossing) : Type 0 where
  pub leaves : LeavesAll seen emitted.objects
  pub words : AllShowWords emitted.objects
  pub sizes : AreSized emitted.objects

-- Such a crossing is received as it was emitted, which is what the rules ask of Enter and Back.
abbrev pub ExchangedIsReceived : Type 0
ExchangedIsReceived =
    (k k' : Known) (seen : ℕ → List Object) (x : Exchange) → IsKnown k x.from seen → EmitsBy (seen x.from) x.emitted →
    Exchanged k seen x k' → IsReceivedAs x.emitted x.received (seen x.to)

-- And what units know stays right, where the other runs now.
abbrev pub KnownStays : Type 0
KnownStays =
    (k k' : Known) (seen : ℕ → List Object) (x : Exchange) → IsKnown k x.from seen → EmitsBy (seen x.from) x.emitted →
    Exchanged k seen x k' → IsKnown k' x.to (set (set seen x.from x.emitted.objects) x.to x.received.objects)

-- No two objects of a unit have one number in another.
abbrev pub NumberedOnce : Type 0
NumberedOnce =
    (k : Known) → AreNumbers k → (unit other n m place : ℕ) → renumber k unit other n ≡ Some place →
    renumber k unit other m ≡ Some place → n ≡ m
