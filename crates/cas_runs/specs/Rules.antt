-- The rules that each language's machine keeps, whatever the unit does: what would break them is Bad, or has no next
-- step.
use Rattle.std.specs.Prelude.{◌≡◌, ℕ, ◌+◌, ◌<◌, ◌≤◌, nat_eq, nat_lt, false, List, [], ◌∷◌, length, Option, Some, None}
use Rattle.std.specs.Prelude.{slice_get, ◌⊎◌, if◌then◌else◌}
use Rattle.cas_base.specs.declared.kind.Kind.{Kind}
use Rattle.cas_base.specs.declared.kind.Kind.TheVariants.{U32}
use Rattle.cas_base.specs.declared.kind.Ty.{Ty}
use Rattle.cas_runs.specs.Label.{Each, Both, NameBytes, Shown, Word, Place, Inside, Object, Share, Crossing, RunLabel}
use Rattle.cas_runs.specs.Label.{Lock, Unlock, Out, Done, Enter, Back, Call, Leave, locks_of}
use Rattle.cas_runs.specs.Edge.{LockWord, SharedWord, Signature, Edge, AreOfTypes, returned, signature_of, IsOfKind}
use Rattle.cas_runs.specs.Edge.{AreOfKinds, guarded, AreUnder, IsOrdered, IsShare, HasContents, IsLive, most_cells}
use Rattle.cas_runs.specs.Outside.{Pending, Entered, Contents, AreWordsOf, SameBut, Extend, IsAmong, Holds, pending}
use Rattle.cas_runs.specs.Outside.{crossed, numbered}
use Rattle.cas_runs.specs.Machine.{Act, Quiet, Emits, Crosses, Locks, Receives, Stops, Halt, Ended, Taken, Full}
use Rattle.cas_runs.specs.Machine.{Names, Opened, Open, Between, Machine, label_of, StepsTo, IsBad}
use Rattle.cas_runs.specs.Machine.{Always}

-- the lock and these, in ascending order
abbrev pub and_lock : ℕ → List ℕ → List ℕ
and_lock lock [] = lock ∷ []
and_lock lock (l ∷ ls) = if nat_lt lock l then lock ∷ l ∷ ls else l ∷ and_lock lock ls

abbrev pub except_lock : ℕ → List ℕ → List ℕ
except_lock lock [] = []
except_lock lock (l ∷ ls) = if nat_eq lock l then ls else l ∷ except_lock lock ls

-- the locks of the share after these labels, in ascending order. A thread begins with none
abbrev pub locks_after : List RunLabel → List ℕ
locks_after [] = []
locks_after (Lock l words ∷ ls) = and_lock l (locks_after ls)
locks_after (Unlock l words ∷ ls) = except_lock l (locks_after ls)
locks_after (Enter f crossing ∷ ls) = locks_of crossing.share
locks_after (Back crossing ∷ ls) = locks_of crossing.share
locks_after (Call f crossing ∷ ls) = locks_of crossing.share
locks_after (Leave crossing ∷ ls) = locks_of crossing.share
locks_after (l ∷ ls) = locks_after ls

-- the word is in the share: it is guarded by one of these locks
pub record IsShared (edge : Edge) (locks : List ℕ) (word : ℕ) : Type 0 where
  pub kind : Kind
  pub guard : ℕ
  pub initial : ℕ
  pub there : slice_get edge.cells word ≡ Some (SharedWord kind (Some guard) initial)
  pub held : IsAmong guard locks

-- What crosses.

-- what the unit may make of an object's contents: one of its own may die, those of the outside stay, and a dead one
-- stays dead
abbrev pub LeavesContents : Object → Contents → Contents → Type 0
LeavesContents o (Some old) (Some new) = length new ≡ o.size
LeavesContents o (Some old) None = o.owner ≡ Inside
LeavesContents o None None = Unit {0}
LeavesContents o None (Some new) = ⊥

abbrev pub Leaves : Object → Object → Type 0
Leaves = SameBut (λ o p. o ≡ p) LeavesContents

-- what an object of the unit's own shows at first: it may be dead
abbrev pub OwnContents : Object → Contents → Type 0
OwnContents o None = Unit {0}
OwnContents o (Some new) = length new ≡ o.size

-- an object of the unit's own
pub record IsOwn (o : Object) : Type 0 where
  pub owner : o.owner ≡ Inside
  pub contents : OwnContents o o.contents

-- the objects that crossed before are still there, and the others are the unit's own
abbrev pub LeavesAll : List Object → List Object → Type 0
LeavesAll = Extend Leaves IsOwn

-- what the unit shows with a call or a return: the objects that its values show for the first time take the next
-- numbers
pub record Carries (edge : Edge) (before : List RunLabel) (crossing : Crossing) : Type 0 where
  pub share : IsOrdered edge crossing.share
  pub same_locks : locks_of crossing.share ≡ locks_after before
  pub objects : LeavesAll (crossed before) crossing.objects
  pub numbers : numbered (length (crossed before)) crossing.values ≡ Some (length crossing.objects)

-- the unit returns from the newest entry
pub record IsReturn (before : List RunLabel) : Type 0 where
  pub function : NameBytes
  pub locks : List ℕ
  pub older : List Pending
  pub newest : pending before ≡ Entered function locks ∷ older

-- the cell shows this word
abbrev pub HasWord : Contents → (cell word : ℕ) → Type 0
HasWord None cell word = ⊥
HasWord (Some contents) cell word = slice_get contents cell ≡ Some (Some word)

-- counted from a place of each, cells that both show have the same word
abbrev pub AgreeFrom : (place place' : ℕ) → Contents → Contents → Type 0
AgreeFrom place place' c d =
    (i j v w : ℕ) → i + place' ≡ j + place → HasWord c i v → HasWord d j w → v ≡ w

-- a place of an object, with its number
pub record PlaceIn : Type 0 where
  pub number : ℕ
  pub object : Object
  pub place : ℕ

-- the first object ends where the other begins
abbrev pub IsEndBefore : PlaceIn → PlaceIn → Type 0
IsEndBefore x y = (x.place ≡ x.object.size) × (y.place ≡ 0)

-- two places with one address, where so many objects are known. In an object that is known it is one place. A known
-- object that is live shares addresses with no other live one, but for the end of one, where the other may begin. And
-- what has an address has one content, also in objects that are new
pub record AreOnePlace (known : ℕ) (x y : PlaceIn) : Type 0 where
  pub in_one : x.number < known → x.number ≡ y.number → x.place ≡ y.place
  pub in_two : (x.number < known) ⊎ (y.number < known) → (x.number ≡ y.number → ⊥) → IsLive x.object →
      IsLive y.object → IsEndBefore x y ⊎ IsEndBefore y x
  pub words : AgreeFrom x.place y.place x.object.contents y.object.contents

-- two values that are shown of one, with the objects of each: null is no place
abbrev pub AreOneValue : (known : ℕ) → List Object → List Object → Shown → Shown → Type 0
AreOneValue known os ps (Word v) (Word w) = v ≡ w
AreOneValue known os ps (Word v) (Place n p) = v ≡ 0 → ⊥
AreOneValue known os ps (Place n p) (Word w) = w ≡ 0 → ⊥
AreOneValue known os ps (Place n p) (Place m q) =
    (o o' : Object) → slice_get os n ≡ Some o → slice_get ps m ≡ Some o' →
    AreOnePlace known (record { number = n; object = o; place = p }) (record { number = m; object = o'; place = q })

-- both are live, or neither is, and what they show agrees
abbrev pub AgreeAlive : Contents → Contents → Type 0
AgreeAlive c d = (HasContents c → HasContents d) × (HasContents d → HasContents c) × AgreeFrom 0 0 c d

-- two ways to name what crosses, where so many objects are known, differ in places alone: the same address can be the
-- end of one object and the beginning of another
pub record NameOne (known : ℕ) (n m : Names) : Type 0 where
  pub values : Both (AreOneValue known n.objects m.objects) n.values m.values
  pub olds : (i : ℕ) → i < known → (o p : Object) → slice_get n.objects i ≡ Some o → slice_get m.objects i ≡ Some p →
      AgreeAlive o.contents p.contents

abbrev pub IsReturnFor : Option NameBytes → List RunLabel → Type 0
IsReturnFor (Some function) before = Unit {0}
IsReturnFor None before = IsReturn before

-- what may cross after these labels: a Call, or a Leave from the newest entry
pub record MayCross (edge : Edge) (before : List RunLabel) (function : Option NameBytes)
    (crossing : Crossing) : Type 0 where
  pub returns : IsReturnFor function before
  pub carries : Carries edge before crossing

-- there is a way to name what crosses; each way shows what may cross; and any two name the same
pub record MayCrossBy {S : Type 0} (edge : Edge) (before : List RunLabel) (function : Option NameBytes) (share : Share)
    (next : Names → Option S) : Type 0 where
  pub names : Names
  pub to : S
  pub has_names : next names ≡ Some to
  pub each : (n : Names) (y : S) → next n ≡ Some y →
      MayCross edge before function (record { values = n.values; share = share; objects = n.objects })
  pub alike : (n m : Names) (y z : S) → next n ≡ Some y → next m ≡ Some z → NameOne (length (crossed before)) n m

-- What a machine may do.

-- an Unlock is of a lock in the share, and carries as many words as that guards
abbrev pub MayEmit : Edge → List RunLabel → RunLabel → Type 0
MayEmit edge before (Unlock l words) = IsAmong l (locks_after before) × AreUnder edge l words
MayEmit edge before l = Unit {0}

-- the newest label is Done
abbrev pub HasEnded : List RunLabel → Type 0
HasEnded (Done ∷ before) = Unit {0}
HasEnded _ = ⊥

-- the machine may have no next step, after these labels, for this reason
abbrev pub MayHalt : List RunLabel → Halt → Type 0
MayHalt before Ended = HasEnded before
MayHalt before (Taken lock) = IsAmong lock (locks_after before)
MayHalt before Full = Unit {0}

-- the newest label is a Call or a Leave
abbrev pub HasCrossed : List RunLabel → Type 0
HasCrossed (Call f crossing ∷ before) = Unit {0}
HasCrossed (Leave crossing ∷ before) = Unit {0}
HasCrossed _ = ⊥

-- the outside may run: no label has come yet, or the newest is a Call or a Leave
abbrev pub MayReceive : List RunLabel → Type 0
MayReceive [] = Unit {0}
MayReceive ls = HasCrossed ls

-- the act is one that the machine may have after these labels. A Lock is of a lock that isn't in the share
abbrev pub MayAct : {S : Type 0} → Edge → List RunLabel → Act S → Type 0
MayAct edge ls (Emits event y) = MayEmit edge ls (label_of event)
MayAct edge ls (Crosses function share next) = MayCrossBy edge ls function share next
MayAct edge ls (Locks lock next) = (slice_get edge.cells lock ≡ Some LockWord) × (IsAmong lock (locks_after ls) → ⊥)
MayAct edge ls (Receives next) = MayReceive ls
MayAct edge ls (Stops why) = MayHalt ls why
MayAct edge ls _ = Unit {0}

-- an Enter or a Back is next
abbrev pub IsReceiving : {S : Type 0} → Act S → Type 0
IsReceiving (Receives next) = Unit {0}
IsReceiving _ = ⊥

-- How open functions change.

-- the newest activation is gone, or none is
abbrev pub AtMostOneLess : List Opened → List Opened → Type 0
AtMostOneLess before after = (after ≡ before) ⊎ ((f : NameBytes) × (before ≡ Open f ∷ after))

-- by a quiet step: the called function is the newest, over its caller or, by a tail call, in its place; else they stay,
-- or the newest returns to the activation below it
abbrev pub OpensQuietly : (called : Option NameBytes) → List Opened → List Opened → Type 0
OpensQuietly (Some f) before after = (rest : List Opened) × (after ≡ Open f ∷ rest) × AtMostOneLess before rest
OpensQuietly None before after =
    (after ≡ before) ⊎ ((f g : NameBytes) × (rest : List Opened) × (before ≡ Open f ∷ after) × (after ≡ Open g ∷ rest))

-- by a label: an Enter opens its function over a mark, a Leave closes both, and Done the last
abbrev pub OpensBy : RunLabel → (called : Option NameBytes) → List Opened → List Opened → Type 0
OpensBy (Call f crossing) called before after = (called ≡ Some f) × AtMostOneLess before after
OpensBy (Leave crossing) called before after = (called ≡ None) × AtMostOneLess before (Between ∷ after)
OpensBy (Enter f crossing) called before after = after ≡ Open f ∷ Between ∷ before
OpensBy Done called before after = (called ≡ None) × (after ≡ []) × AtMostOneLess before after
OpensBy l called before after = (called ≡ None) × (after ≡ before)

-- a run begins with no activation, or with that of a thread's entry
abbrev pub OpensFirst : List Opened → Type 0
OpensFirst opened = AtMostOneLess opened []

-- the open functions change by calls, entries and returns alone, but where the next step is Bad
pub record Opens {S : Type 0} (edge : Edge) (m : Machine S) : Type 0 where
  pub first : IsBad (m.act m.start) ⊎ OpensFirst (m.activations m.start)
  pub quietly : Always edge m (λ ls x. (y : S) → m.act x ≡ Quiet y →
      IsBad (m.act y) ⊎ OpensQuietly (m.called x) (m.activations x) (m.activations y))
  pub by_label : Always edge m (λ ls x. (l : RunLabel) (y : S) → StepsTo edge ls (m.act x) l y →
      IsBad (m.act y) ⊎ OpensBy l (m.called x) (m.activations x) (m.activations y))

-- The rules.

-- no step is free, and what crosses can be named
pub record Proceeds {S : Type 0} (m : Machine S) : Type 0 where
  pub costs : (x : S) → 1 ≤ m.price x
  pub named : (x : S) (function : Option NameBytes) (share : Share) (next : Names → Option S) →
      m.act x ≡ Crosses function share next → (n : Names) × (y : S) × (next n ≡ Some y)

-- the machine keeps the rules: it touches shared words of its share alone; its acts are such as it may have; after a
-- Call or a Leave it waits for the outside; and its open functions change as they may
pub record KeepsRules {S : Type 0} (edge : Edge) (m : Machine S) : Type 0 where
  pub proceeds : Proceeds m
  pub reads : Always edge m (λ ls x. (w : ℕ) → IsAmong w (m.footprint x).reads → IsShared edge (locks_after ls) w)
  pub writes : Always edge m (λ ls x. (w : ℕ) → IsAmong w (m.footprint x).writes → IsShared edge (locks_after ls) w)
  pub acts : Always edge m (λ ls x. MayAct edge ls (m.act x))
  pub listens : Always edge m (λ ls x. HasCrossed ls → IsReceiving (m.act x))
  pub opens : Opens edge m

-- what calls over the edge is no function inside. So it is of a unit; a function alone calls itself over its edge
abbrev pub CallsOut : {S : Type 0} → Edge → Machine S → Type 0
CallsOut {S = S} edge m = Always edge m (λ ls x. (function : NameBytes) (share : Share) (next : Names → Option S) →
    m.act x ≡ Crosses (Some function) share next → (f : Signature) → signature_of edge.functions function ≡ Some f →
    f.inside ≡ false)

-- What the source keeps besides.

-- what is shown of the objects are words of their kinds
abbrev pub ShowsWords : Object → Contents → Type 0
ShowsWords o None = Unit {0}
ShowsWords o (Some new) = AreWordsOf o.kind new

abbrev pub AllShowWords : List Object → Type 0
AllShowWords = Each (λ o. ShowsWords o o.contents)

-- each object has cells, and no more than an object can have
abbrev pub AreSized : List Object → Type 0
AreSized = Each (λ (o : Object). (1 ≤ o.size) × (o.size ≤ most_cells))

-- the values are of these types, the words of the share and of the objects are of their kinds, and the objects are as
-- large as objects can be
pub record CrossInKind (edge : Edge) (types : List Ty) (crossing : Crossing) : Type 0 where
  pub values : AreOfTypes crossing.objects types crossing.values
  pub share : IsShare edge crossing.share
  pub objects : AllShowWords crossing.objects
  pub sizes : AreSized crossing.objects

-- what the label carries is in kind: arguments are of the parameters' types, and a result is of the type of the
-- function that was entered
abbrev pub EmitsInKind : Edge → List RunLabel → RunLabel → Type 0
EmitsInKind edge before (Unlock l words) = AreOfKinds words (guarded l edge.cells)
EmitsInKind edge before (Out w) = IsOfKind w U32
EmitsInKind edge before (Call f crossing) = (s : Signature) → signature_of edge.functions f ≡ Some s →
    CrossInKind edge s.params crossing
EmitsInKind edge before (Leave crossing) =
    (g : NameBytes) (locks : List ℕ) (older : List Pending) (s : Signature) → pending before ≡ Entered g locks ∷ older →
    signature_of edge.functions g ≡ Some s → CrossInKind edge (returned s.ret) crossing
EmitsInKind edge before l = Unit {0}

-- at a Call the share has the locks that the called function holds, and at a Leave those that it had at its Enter
abbrev pub EmitsLocks : Edge → List RunLabel → RunLabel → Type 0
EmitsLocks edge before (Call f crossing) = (s : Signature) → signature_of edge.functions f ≡ Some s →
    Holds (locks_of crossing.share) s.holds
EmitsLocks edge before (Leave crossing) = (g : NameBytes) (locks : List ℕ) (older : List Pending) →
    pending before ≡ Entered g locks ∷ older → locks_of crossing.share ≡ locks
EmitsLocks edge before l = Unit {0}

-- each label of the machine's own is such
abbrev pub KeepsLabels : {S : Type 0} → (Edge → List RunLabel → RunLabel → Type 0) → Edge → Machine S → Type 0
KeepsLabels {S = S} IsSuch edge m =
    Always edge m (λ ls x. (l : RunLabel) (y : S) → StepsTo edge ls (m.act x) l y → IsSuch edge ls l)

-- the source says and shows what is in kind, since it is typed and converts what it writes. A language between may keep
-- any words in a cell, and says what its source says
abbrev pub KeepsKinds : {S : Type 0} → Edge → Machine S → Type 0
KeepsKinds = KeepsLabels EmitsInKind

-- and it has the locks that are due, since its ownership is checked: a language between goes over its edge where its
-- source does
abbrev pub KeepsLocks : {S : Type 0} → Edge → Machine S → Type 0
KeepsLocks = KeepsLabels EmitsLocks
