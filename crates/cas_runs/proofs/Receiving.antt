-- What a unit says with a Call or a Leave another unit may hear.
use Rattle.std.proofs.Common.{◌≡◌, ⊎_elim, ℕ, zero, suc, ◌+◌, ◌≤◌, Bool, true, false, if◌then◌else◌, nat_eq, nat_lt, List, [], ◌∷◌, length, Option, Some, None, slice_get, refl, sym, ap, ◌∙◌, subst, arith}
use Rattle.cas_base.specs.declared.kind.Kind.{Kind}
use Rattle.cas_base.specs.declared.kind.Ty.{Ty}
use Rattle.cas_base.specs.declared.kind.Ty.TheVariants.{Void, Int, Ptr, Array}
use Rattle.cas_runs.specs.Label.{Each, Shown, Word, Place, Object, Share, Crossing, RunLabel, locks_of}
use Rattle.cas_runs.specs.Edge.{Cell, LockWord, Edge, guarded, AreOfKinds, IsShare, HasContents, IsPlace, IsOfType, AreOfTypes, returned, most_cells, most_live}
use Rattle.cas_runs.specs.Outside.{Called, pending, crossed, AreWordsOf, Fills, ChangesTo, Changes, NewContents, IsNew, Continues, numbered, live_cells, Brings, IsAmong, first, later, Holds}
use Rattle.cas_runs.specs.Rules.{LeavesContents, OwnContents, IsOwn, LeavesAll, Carries, ShowsWords, AllShowWords, AreSized, CrossInKind}
use Rattle.cas_runs.specs.Receiving.{at_number, renumbered, AreRenumbered, Lasts, IsAgain, IsEmitted, IsReceivedAs, CallsAreReceived, ReturnsAreReceived}

-- locks

among_held : {l : ℕ} {locks : List ℕ} (held : List ℕ) → IsAmong l locks → Holds held locks → IsAmong l held
among_held held first h = h.0
among_held held (later m) h = among_held held m h.1

holds_all : (held locks others : List ℕ) → Holds held locks → Holds locks others → Holds held others
holds_all held locks [] h k = tt
holds_all held locks (o ∷ os) h k = (among_held held k.0 h, holds_all held locks os h k.1)

-- a share is one at another edge with the same words
share_too : (edge other : Edge) → edge.cells ≡ other.cells → (share : Share) → IsShare edge share → IsShare other share
share_too edge other same [] h = tt
share_too edge other same (k ∷ ks) h = (
  record {
    is_lock = subst (λ (cs : List Cell). slice_get cs k.lock ≡ Some LockWord) same h.0.is_lock;
    kinds = subst (λ (cs : List Cell). AreOfKinds k.words (guarded k.lock cs)) same h.0.kinds;
  },
  h.1,
  share_too edge other same ks h.2,
)

-- what is known of the objects that are said: live ones show as many words as they have cells, each of its kind

leaves_length : (o : Object) (c d : Option (List (Option ℕ))) (ws : List (Option ℕ)) → LeavesContents o c d →
    d ≡ Some ws → length ws ≡ o.size
leaves_length o (Some c) (Some d) ws h e = let same : d ≡ ws =
    cc e in subst (λ (v : List (Option ℕ)). length v ≡ o.size) same h
leaves_length o None (Some d) ws h e = absurd h
leaves_length o (Some c) None ws h e = absurd (cc e)
leaves_length o None None ws h e = absurd (cc e)

own_length : (o : Object) (d : Option (List (Option ℕ))) (ws : List (Option ℕ)) → OwnContents o d → d ≡ Some ws →
    length ws ≡ o.size
own_length o (Some d) ws h e = let same : d ≡ ws = cc e in subst (λ (v : List (Option ℕ)). length v ≡ o.size) same h
own_length o None ws h e = absurd (cc e)

shown_words : (o : Object) (d : Option (List (Option ℕ))) (ws : List (Option ℕ)) → ShowsWords o d → d ≡ Some ws →
    AreWordsOf o.kind ws
shown_words o (Some d) ws h e = let same : d ≡ ws = cc e in subst (AreWordsOf o.kind) same h
shown_words o None ws h e = absurd (cc e)

-- a live object shows as many words as it has cells
abbrev ShowsAll : Object → Type 0
ShowsAll o = (ws : List (Option ℕ)) → o.contents ≡ Some ws → length ws ≡ o.size

all_own : (news : List Object) → Each IsOwn news → (i : ℕ) (o : Object) → slice_get news i ≡ Some o → ShowsAll o
all_own [] h i o at = absurd (cc at)
all_own (n ∷ ns) h zero o at = let same : n ≡ o = cc at in
    subst ShowsAll same (λ ws e. own_length n n.contents ws h.0.contents e)
all_own (n ∷ ns) h (suc i) o at = all_own ns h.1 i o at

all_show : (olds news : List Object) → LeavesAll olds news → (i : ℕ) (o : Object) → slice_get news i ≡ Some o →
    ShowsAll o
all_show [] news h i o at = all_own news h i o at
all_show (p ∷ ps) [] h i o at = absurd h
all_show (p ∷ ps) (n ∷ ns) h zero o at = let same : n ≡ o =
    cc at in subst ShowsAll same (λ ws e. leaves_length p p.contents n.contents ws h.0.contents e ∙ sym h.0.size)
all_show (p ∷ ps) (n ∷ ns) h (suc i) o at = all_show ps ns h.1 i o at

-- and each of its kind
abbrev ShowsKind : Object → Type 0
ShowsKind o = (ws : List (Option ℕ)) → o.contents ≡ Some ws → AreWordsOf o.kind ws

all_kinds : (os : List Object) → AllShowWords os → (i : ℕ) (o : Object) → slice_get os i ≡ Some o → ShowsKind o
all_kinds [] h i o at = absurd (cc at)
all_kinds (p ∷ ps) h zero o at = let same : p ≡ o = cc at in
    subst ShowsKind same (λ ws e. shown_words p p.contents ws h.0 e)
all_kinds (p ∷ ps) h (suc i) o at = all_kinds ps h.1 i o at

abbrev HasSize : Object → Type 0
HasSize o = (1 ≤ o.size) × (o.size ≤ most_cells)

all_sized : (os : List Object) → AreSized os → (i : ℕ) (o : Object) → slice_get os i ≡ Some o → HasSize o
all_sized [] h i o at = absurd (cc at)
all_sized (p ∷ ps) h zero o at = let same : p ≡ o = cc at in subst HasSize same h.0
all_sized (p ∷ ps) h (suc i) o at = all_sized ps h.1 i o at

-- what is heard of them

changes_to : (old : Object) (c d : Option (List (Option ℕ))) → Lasts old c d →
    ((ws : List (Option ℕ)) → d ≡ Some ws → Fills old ws) → ChangesTo old c d
changes_to old (Some c) (Some d) lasts fills = fills d refl
changes_to old (Some c) None lasts fills = lasts
changes_to old None (Some d) lasts fills = absurd lasts
changes_to old None None lasts fills = tt

new_contents : (o : Object) (d : Option (List (Option ℕ))) → ((ws : List (Option ℕ)) → d ≡ Some ws → Fills o ws) →
    NewContents o d
new_contents o None fills = tt
new_contents o (Some d) fills = fills d refl

-- objects that go on from others, one by one
continues_at : (os ns : List Object) → length os ≤ length ns →
    ((j : ℕ) (o n : Object) → slice_get os j ≡ Some o → slice_get ns j ≡ Some n → Changes o n) →
    ((j : ℕ) (n : Object) → length os ≤ j → slice_get ns j ≡ Some n → IsNew n) → Continues os ns
continues_at [] [] fewer changes news = tt
continues_at [] (n ∷ ns) fewer changes news = (
  news 0 n (omega arith) refl,
  continues_at [] ns (omega arith) (λ j o m at. absurd (cc at))
      (λ j m less at. news (suc j) m (omega arith) at),
)
continues_at (o ∷ os) [] fewer changes news = absurd (omega (arith, fewer))
continues_at (o ∷ os) (n ∷ ns) fewer changes news = (
  changes 0 o n refl refl,
  continues_at os ns (omega (arith, fewer)) (λ j. changes (suc j))
      (λ j m less at. news (suc j) m (omega (arith, less)) at),
)

-- numbers grow
grows_by : (n m : ℕ) (known next : Bool) (vs : List Shown) → ((k : ℕ) → numbered k vs ≡ Some m → k ≤ m) →
    (if known then numbered n vs else if next then numbered (n + 1) vs else None) ≡ Some m → n ≤ m
grows_by n m true next vs rest e = rest n e
grows_by n m false true vs rest e = omega (arith, rest (n + 1) e)
grows_by n m false false vs rest e = absurd (cc e)

grows : (vs : List Shown) (n m : ℕ) → numbered n vs ≡ Some m → n ≤ m
grows [] n m e = let same : n ≡ m = cc e in omega (arith, same)
grows (Word w ∷ vs) n m e = grows vs n m e
grows (Place object place ∷ vs) n m e = grows_by n m (nat_lt object n) (nat_eq object n) vs (λ k. grows vs k m) e

module _ (emitted received : Crossing) (seen : List Object) (is : IsReceivedAs emitted received seen) where
  -- values

  place_too : (kind : Kind) (object place : ℕ) (n : Option ℕ) (w : Shown) → is.number object ≡ n →
      at_number n place ≡ Some w → IsPlace emitted.objects kind object place → IsOfType received.objects (Ptr kind) w
  place_too kind object place None w numbers e h = absurd (cc e)
  place_too kind object place (Some j) w numbers e h =
      let there = is.there object j h.it h.there numbers in
      let same : Place j place ≡ w = cc e in
      subst (IsOfType received.objects (Ptr kind)) same (record {
        it = there.0;
        there = there.1;
        same_kind = λ live. there.2.kind ∙ h.same_kind (subst HasContents there.2.contents live);
        in_reach = subst (λ (n : ℕ). place ≤ n) (sym there.2.size) h.in_reach;
      })

  value_too : (ty : Ty) (v w : Shown) → renumbered is.number v ≡ Some w → IsOfType emitted.objects ty v →
      IsOfType received.objects ty w
  value_too (Int kind) (Word n) w e h = let same : Word n ≡ w =
      cc e in subst (IsOfType received.objects (Int kind)) same h
  value_too (Int kind) (Place object place) w e h = absurd h
  value_too (Ptr kind) (Word n) w e h = let same : Word n ≡ w =
      cc e in subst (IsOfType received.objects (Ptr kind)) same h
  value_too (Ptr kind) (Place object place) w e h = place_too kind object place (is.number object) w refl e h
  value_too Void v w e h = absurd h
  value_too (Array kind size) v w e h = absurd h

  values_too : (tys : List Ty) (vs ws : List Shown) → AreRenumbered is.number vs ws →
      AreOfTypes emitted.objects tys vs → AreOfTypes received.objects tys ws
  values_too [] [] [] e h = tt
  values_too [] [] (w ∷ ws) e h = absurd e
  values_too [] (v ∷ vs) ws e h = absurd h
  values_too (ty ∷ tys) [] ws e h = absurd h
  values_too (ty ∷ tys) (v ∷ vs) [] e h = absurd e
  values_too (ty ∷ tys) (v ∷ vs) (w ∷ ws) e h = (value_too ty v w e.0 h.0, values_too tys vs ws e.1 h.1)

  module _ (edge other : Edge) (cells : edge.cells ≡ other.cells) (before : List RunLabel)
      (carries : Carries edge before emitted) (types : List Ty) (in_kind : CrossInKind edge types emitted) where
    -- an object of this kind and size is filled by what is said of it
    fills : (new p : Object) (j : ℕ) → IsEmitted emitted is.number j new → new.kind ≡ p.kind → new.size ≡ p.size →
        (ws : List (Option ℕ)) → new.contents ≡ Some ws → Fills p ws
    fills new p j s kind size ws e =
        let shows : s.object.contents ≡ Some ws = sym s.same.contents ∙ e in
        record {
          size = all_show (crossed before) emitted.objects carries.objects s.here s.object s.shown ws shows
              ∙ sym s.same.size ∙ size;
          kinds = subst (λ (k : Kind). AreWordsOf k ws) (sym s.same.kind ∙ kind)
              (all_kinds emitted.objects in_kind.objects s.here s.object s.shown ws shows);
        }

    changed : (j : ℕ) (old new : Object) → slice_get seen j ≡ Some old → slice_get received.objects j ≡ Some new →
        Changes old new
    changed j old new before_at at = ⊎_elim (λ h. h) again (is.stays j old new before_at at)
      where
        again : IsAgain old new × IsEmitted emitted is.number j new → Changes old new
        again (a, s) =
            record {
              owner = a.owner;
              kind = a.kind;
              size = a.size;
              contents =
                  changes_to old old.contents new.contents a.contents (fills new old j s a.kind a.size);
            }

    is_new : (j : ℕ) (new : Object) → length seen ≤ j → slice_get received.objects j ≡ Some new → IsNew new
    is_new j new past at =
        let (owner, s) = is.comes j new past at in
        let sized = all_sized emitted.objects in_kind.sizes s.here s.object s.shown in
        record {
          owner = owner;
          least = subst (λ (n : ℕ). 1 ≤ n) (sym s.same.size) sized.0;
          most = subst (λ (n : ℕ). n ≤ most_cells) (sym s.same.size) sized.1;
          contents = new_contents new new.contents (fills new new j s refl refl);
        }

    pub brings : live_cells received.objects ≤ most_live → Brings other seen received
    brings room = record {
      share = subst (IsShare other) (sym is.share) (share_too edge other cells emitted.share in_kind.share);
      objects =
          continues_at seen received.objects (grows received.values (length seen) (length received.objects) is.numbers)
          changed is_new;
      room = room;
      numbers = is.numbers;
    }

    pub typed : AreOfTypes received.objects types received.values
    typed = values_too types emitted.values received.values is.values in_kind.values

pub calls_are_received : CallsAreReceived
calls_are_received edge other before earlier function emitted received known inside crosses kinds locks is room =
    let in_kind = kinds known.here known.known_here in
    record {
      signature = known.there;
      known = known.known_there;
      inside = inside;
      values = subst (λ (tys : List Ty). AreOfTypes received.objects tys received.values) (sym known.as_here.params)
          (typed emitted received (crossed earlier) is edge other known.cells before crosses.carries known.here.params
          in_kind);
      holds = subst (λ (share : Share). Holds (locks_of share) known.there.holds) (sym is.share)
          (holds_all (locks_of emitted.share) known.here.holds known.there.holds (locks known.here known.known_here)
          known.as_here.holds);
      brings = brings emitted received (crossed earlier) is edge other known.cells before crosses.carries
          known.here.params in_kind room;
    }

pub returns_are_received : ReturnsAreReceived
returns_are_received edge other before earlier function held older callers emitted received known entered called crosses
    kinds locks is room =
    let in_kind = kinds function held older known.here entered known.known_here in
    record {
      function = function;
      older = callers;
      newest = subst (λ (ls : List ℕ). pending earlier ≡ Called function ls ∷ callers)
          (sym (ap locks_of is.share ∙ locks function held older entered)) called;
      signature = known.there;
      known = known.known_there;
      values = subst (λ (ty : Ty). AreOfTypes received.objects (returned ty) received.values) (sym known.as_here.ret)
          (typed emitted received (crossed earlier) is edge other known.cells before crosses.carries
          (returned known.here.ret) in_kind);
      brings = brings emitted received (crossed earlier) is edge other known.cells before crosses.carries
          (returned known.here.ret) in_kind room;
    }
