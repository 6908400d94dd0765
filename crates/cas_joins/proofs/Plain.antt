-- Labels that don't cross, and acts that wait.
use Rattle.std.proofs.Common.{◌≡◌, ℕ, List, [], ◌∷◌, ◌++◌, ◌⊎◌, Option, Some, None, slice_get, inl, inr, refl, sym, subst}
use Rattle.cas_runs.specs.Label.{NameBytes, Share, RunLabel, Lock, Unlock, Out, Done, Enter, Back, Call, Leave}
use Rattle.cas_runs.specs.Edge.{Edge, Cell, LockWord, AreGuarded, AreOfKinds, guarded}
use Rattle.cas_runs.specs.Outside.{MayBring}
use Rattle.cas_runs.specs.Machine.{Act, Quiet, Emits, Crosses, Locks, Receives, Bad, Stops, Event, Unlocks, Prints, Ends, Names, label_of, crossing_by, StepsTo, IsBad, Machine, Block, Run}
use Rattle.cas_runs.specs.Refines.{HasRun, BadBefore}
use Rattle.cas_runs.specs.Rules.{IsReceiving}
use Rattle.cas_runs.specs.Walking.{Star, stays, goes}
use Rattle.cas_runs.proofs.Composing.{IsCrossing}

-- words that a lock can guard at one edge it can at another over the same words
pub guarded_too : (e f : Edge) → e.cells ≡ f.cells → (lock : ℕ) (words : List ℕ) → AreGuarded e lock words →
    AreGuarded f lock words
guarded_too e f same lock words g = record {
  is_lock = subst (λ (c : List Cell). slice_get c lock ≡ Some LockWord) same g.is_lock;
  kinds = subst (λ (c : List Cell). AreOfKinds words (guarded lock c)) same g.kinds;
}

-- it is emitted, or a Lock's
abbrev pub IsPlain : RunLabel → Type 0
IsPlain (Lock l ws) = Unit {0}
IsPlain (Unlock l ws) = Unit {0}
IsPlain (Out w) = Unit {0}
IsPlain Done = Unit {0}
IsPlain (Enter f c) = ⊥
IsPlain (Back c) = ⊥
IsPlain (Call f c) = ⊥
IsPlain (Leave c) = ⊥

pub plain_emitted : (e : Event) → IsPlain (label_of e)
plain_emitted (Unlocks l ws) = tt
plain_emitted (Prints w) = tt
plain_emitted Ends = tt

crossing_not_plain : (function : Option NameBytes) (share : Share) (n : Names) →
    IsPlain (crossing_by function share n) → ⊥
crossing_not_plain None share n h = h
crossing_not_plain (Some f) share n h = h

pub plain_not_crossing : (function : Option NameBytes) (share : Share) (n : Names) (l : RunLabel) → IsPlain l →
    crossing_by function share n ≡ l → ⊥
plain_not_crossing function share n l plain e = crossing_not_plain function share n (subst IsPlain (sym e) plain)

pub plain_not_brought : (edge : Edge) (ls : List RunLabel) (l : RunLabel) → IsPlain l → MayBring edge ls l → ⊥
plain_not_brought edge ls (Enter f c) p k = p
plain_not_brought edge ls (Back c) p k = p
plain_not_brought edge ls (Lock l ws) p k = k
plain_not_brought edge ls (Unlock l ws) p k = k
plain_not_brought edge ls (Out w) p k = k
plain_not_brought edge ls Done p k = k
plain_not_brought edge ls (Call f c) p k = k
plain_not_brought edge ls (Leave c) p k = k

pub plain_steps : {S : Type 0} (edge : Edge) (ls : List RunLabel) (a : Act S) (l : RunLabel) (y : S) → IsPlain l →
    StepsTo edge ls a l y → IsCrossing a → ⊥
plain_steps edge ls (Crosses f share next) l y p h c = plain_not_crossing f share h.0 l p h.1
plain_steps edge ls (Quiet n) l y p h c = c
plain_steps edge ls (Emits k n) l y p h c = c
plain_steps edge ls (Locks k n) l y p h c = c
plain_steps edge ls (Receives n) l y p h c = c
plain_steps edge ls Bad l y p h c = c
plain_steps edge ls (Stops w) l y p h c = c

pub receiving_not_quiet : {S : Type 0} (a : Act S) (y : S) → IsReceiving a → a ≡ Quiet y → ⊥
receiving_not_quiet a y h e = subst IsReceiving e h

pub receiving_not_bad : {S : Type 0} (a : Act S) → IsReceiving a → IsBad a → ⊥
receiving_not_bad (Receives n) b q = q
receiving_not_bad (Quiet n) b q = b
receiving_not_bad (Emits l n) b q = b
receiving_not_bad (Crosses f s n) b q = b
receiving_not_bad (Locks l n) b q = b
receiving_not_bad Bad b q = b
receiving_not_bad (Stops w) b q = b

-- what waits for the outside where a block begins stays there
pub still : {S : Type 0} (m : Machine S) {b : Block} {x : S} {c : Block} {y : S} → IsReceiving (m.act x) →
    Star m b x c y → y ≡ x
still m h stays = refl
still m {x = x} h (goes z e w) = absurd (receiving_not_quiet (m.act x) z h e)

-- Bad before a label more is Bad before it, or the label is there
pub bad_or_has : {S : Type 0} (edge : Edge) (m : Machine S) (l : RunLabel) (ls : List RunLabel) →
    BadBefore edge m (l ∷ ls) → BadBefore edge m ls ⊎ HasRun edge m (l ∷ ls)
bad_or_has {S} edge m l ls b = by b.since b.prefix
  where
    by : (since : List RunLabel) → l ∷ ls ≡ since ++ b.before → BadBefore edge m ls ⊎ HasRun edge m (l ∷ ls)
    by [] e = inr (record {
      to = b.bad.to;
      run = subst (λ q. Run edge m q b.bad.to.blocks b.bad.to.block b.bad.to.at) (sym e) b.bad.run;
      there = tt;
    })
    by (k ∷ since) e = inl (record { since = since; before = b.before; prefix = cc e; bad = b.bad })
