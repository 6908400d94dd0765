-- Two ways to name what crosses, in the layer of calls, name the same.
use Rattle.std.proofs.Common.{◌≡◌, ℕ, zero, suc, ◌+◌, ◌<◌, ◌≤◌, List, [], ◌∷◌, ◌++◌, length, Bool, true, false, ◌&&◌, if◌then◌else◌, nat_eq, nat_lt, nat_le, slice_get, Option, Some, None, ◌⊎◌, inl, inr, ⊎_elim, refl, sym, ap, ◌∙◌, subst, arith, eqb-true, leb-true}
use Rattle.cas_runs.specs.Label.{Both, NameBytes, Shown, Word, Place, Object}
use Rattle.cas_runs.specs.Edge.{HasContents, IsLive}
use Rattle.cas_runs.specs.Outside.{Contents}
use Rattle.cas_runs.specs.Naming.{Home, Own, Theirs, Value, Number, Pointer, Hidden, Part, Layout, ArePlaced, parts_at, Named, Naming, Memory, same_home, same_part, is_it, number_of, one_later, is_place, part_by, again, if_new, first_time, named_by, and_then, all_named_by, cells, content, contents, contents_in, object_of, objects_of, theirs, with_block, left_in, new_block, brought}
use Rattle.cas_runs.specs.Machine.{Names, Opened, Open, Between}
use Rattle.cas_runs.specs.Rules.{HasWord, AreOnePlace, AreOneValue, AgreeAlive, NameOne, OpensQuietly}
use Rattle.cas_runs.specs.Access.{Holding}
use Rattle.cas_runs.specs.Calls.{Past, named_as}
use Rattle.cas_runs.proofs.Tests.{and_both, both_true, eq_self, same_home_from, same_home_self}
use Rattle.cas_runs.proofs.Showing.{Grows, same, own, grows, named_so}
use Rattle.cas_runs.proofs.Objects.{part_in, SoundMemory, SoundNamed, SoundNaming, all_grown}

-- a naming that goes on has what was there
abbrev pub GoesOn : Naming → Naming → Type 0
GoesOn base ns = (k : ℕ) (n : Named) → slice_get base k ≡ Some n → slice_get ns k ≡ Some n

still_there : (ns : Naming) (m : Named) (k : ℕ) (n : Named) → slice_get ns k ≡ Some n →
    slice_get (ns ++ m ∷ []) k ≡ Some n
still_there [] m k n e = absurd (cc e)
still_there (x ∷ ns) m zero n e = e
still_there (x ∷ ns) m (suc k) n e = still_there ns m k n e

goes_same : (base : Naming) → GoesOn base base
goes_same base k n e = e

goes_get : (base ns : Naming) → GoesOn base ns → (k : ℕ) (n : Named) → slice_get base k ≡ Some n →
    slice_get ns k ≡ Some n
goes_get base ns g k n e = g k n e

goes_grown : (base ns : Naming) {ms : Naming} → Grows ns ms → GoesOn base ns → GoesOn base ms
goes_grown base ns same g k n e = g k n e
goes_grown base ns (own function activation block part new) g k n e =
    still_there ns (record { home = Own function activation block; part = part }) k n (g k n e)

get_there : (ns : Naming) (k : ℕ) → k < length ns → (n : Named) × (slice_get ns k ≡ Some n)
get_there [] k less = absurd (omega (arith, less))
get_there (n ∷ ns) zero less = (n, refl)
get_there (n ∷ ns) (suc k) less = get_there ns k (omega (arith, less))

all_goes : (parts : Home → List Part) (base : Naming) (vs : List Value) (ns : Naming) → GoesOn base ns →
    (xs : List Shown) (a : Naming) → all_named_by parts ns vs xs ≡ Some a → GoesOn base a
all_goes parts base [] ns g [] a e = let same' : ns ≡ a = cc e in subst (λ v. GoesOn base v) same' g
all_goes parts base [] ns g (x ∷ xs) a e = absurd (cc e)
all_goes parts base (v ∷ vs) ns g [] a e = absurd (cc e)
all_goes parts base (v ∷ vs) ns g (x ∷ xs) a e = by (λ ns' g' h. all_goes parts base vs ns' g' xs a h)
    (named_by parts ns v x) refl e
  where
    by : ((ns' : Naming) → GoesOn base ns' → all_named_by parts ns' vs xs ≡ Some a → GoesOn base a) →
        (s : Option Naming) → named_by parts ns v x ≡ s → and_then s (λ ks. all_named_by parts ks vs xs) ≡ Some a →
        GoesOn base a
    by more None i h = absurd (cc h)
    by more (Some ns') i h = more ns' (goes_grown base ns (grows parts ns v x ns' i) g) h

object_there : (memory : Memory) (ns : Naming) (k : ℕ) (n : Named) → slice_get ns k ≡ Some n →
    slice_get (objects_of memory ns) k ≡ Some (object_of memory n)
object_there memory [] k n e = absurd (cc e)
object_there memory (x ∷ ns) zero n e = let same' : x ≡ n = cc e in ap (λ v. Some (object_of memory v)) same'
object_there memory (x ∷ ns) (suc k) n e = object_there memory ns k n e

-- No object has two numbers.

-- an object of the unit's own has one number
abbrev pub Once : Naming → Type 0
Once ns = (i j : ℕ) (f : NameBytes) (a b : ℕ) (part : Part) →
    slice_get ns i ≡ Some (record { home = Own f a b; part = part }) →
    slice_get ns j ≡ Some (record { home = Own f a b; part = part }) → i ≡ j

part_self : (p : Part) → same_part p p ≡ true
part_self p = both_true _ _ (both_true _ _ (eq_self p.from) (eq_self p.size)) (eq_self _)

it_self : (f : NameBytes) (a b : ℕ) (part : Part) →
    is_it (Own f a b) part (record { home = Own f a b; part = part }) ≡ true
it_self f a b part = both_true _ _ (same_home_self (Own f a b)) (part_self part)

-- what has no number isn't there
not_there : (ns : Naming) (f : NameBytes) (a b : ℕ) (part : Part) → number_of ns (Own f a b) part ≡ None → (i : ℕ) →
    slice_get ns i ≡ Some (record { home = Own f a b; part = part }) → ⊥
not_there [] f a b part e i g = cc g
not_there (n ∷ ns) f a b part e zero g =
    let same : n ≡ record { home = Own f a b; part = part } = cc g in
    let there : number_of (n ∷ ns) (Own f a b) part ≡ Some 0 =
    ap (λ (t : Bool). if t then Some 0 else one_later (number_of ns (Own f a b) part))
    (ap (is_it (Own f a b) part) same ∙ it_self f a b part) in
    cc (e, there)
not_there (n ∷ ns) f a b part e (suc i) g = by (λ h. not_there ns f a b part h i g) (is_it (Own f a b) part n) e
  where
    none : (o : Option ℕ) → one_later o ≡ None → o ≡ None
    none None h = refl
    none (Some k) h = absurd (cc h)

    by : (number_of ns (Own f a b) part ≡ None → ⊥) → (t : Bool) →
        (if t then Some 0 else one_later (number_of ns (Own f a b) part)) ≡ None → ⊥
    by more true h = cc h
    by more false h = more (none (number_of ns (Own f a b) part) h)

-- the last of a list, or one before
last_or_before : (ns : Naming) (n : Named) (i : ℕ) (x : Named) → slice_get (ns ++ n ∷ []) i ≡ Some x →
    (slice_get ns i ≡ Some x) ⊎ ((i ≡ length ns) × (n ≡ x))
last_or_before [] n zero x e = inr (refl, cc e)
last_or_before [] n (suc i) x e = absurd (cc e)
last_or_before (m ∷ ns) n zero x e = inl e
last_or_before (m ∷ ns) n (suc i) x e =
    ⊎_elim inl (λ h. inr (ap suc h.0, h.1)) (last_or_before ns n i x e)

once_grown : (ns : Naming) → Once ns → {ms : Naming} → Grows ns ms → Once ms
once_grown ns once same = once
once_grown ns once (own f a b part new) = λ i j g c d p e k.
    let x : Named = record { home = Own f a b; part = part } in
    let y : Named = record { home = Own g c d; part = p } in
    ⊎_elim
    (λ h. ⊎_elim (λ l. once i j g c d p h l)
    (λ l. absurd (not_there ns f a b part new i (subst (λ v. slice_get ns i ≡ Some v) (sym l.1) h)))
    (last_or_before ns x j y k))
    (λ h. ⊎_elim (λ l. absurd (not_there ns f a b part new j (subst (λ v. slice_get ns j ≡ Some v) (sym h.1) l)))
    (λ l. h.0 ∙ sym l.0)
    (last_or_before ns x j y k))
    (last_or_before ns x i y e)

pub all_once : (parts : Home → List Part) (vs : List Value) (xs : List Shown) (ns : Naming) → Once ns → (ms : Naming) →
    all_named_by parts ns vs xs ≡ Some ms → Once ms
all_once parts [] [] ns once ms e = let same' : ns ≡ ms = cc e in subst (λ v. Once v) same' once
all_once parts [] (x ∷ xs) ns once ms e = absurd (cc e)
all_once parts (v ∷ vs) [] ns once ms e = absurd (cc e)
all_once parts (v ∷ vs) (x ∷ xs) ns once ms e = by (λ ks t g. all_once parts vs xs ks t ms g)
    (named_by parts ns v x) refl e
  where
    by : ((ks : Naming) → Once ks → all_named_by parts ks vs xs ≡ Some ms → Once ms) → (o : Option Naming) →
        named_by parts ns v x ≡ o → and_then o (λ ks. all_named_by parts ks vs xs) ≡ Some ms → Once ms
    by more None i g = absurd (cc g)
    by more (Some ks) i g = more ks (once_grown ns once (grows parts ns v x ks i)) g

-- what the outside leaves are the same objects, and some of its own
brought_there : (m : Memory) (ns : Naming) (k : ℕ) (os : List Object) (i : ℕ) (f : NameBytes) (a b : ℕ)
    (part : Part) → slice_get (brought m ns k os).naming i ≡ Some (record { home = Own f a b; part = part }) →
    slice_get ns i ≡ Some (record { home = Own f a b; part = part })
brought_there m ns k [] i f a b part e = e
brought_there m [] k (o ∷ os) zero f a b part e =
    let same' : theirs k o ≡ record { home = Own f a b; part = part } = cc e in
    let homes : Theirs k ≡ Own f a b = ap (λ (n : Named). n.home) same' in
    absurd (cc homes)
brought_there m [] k (o ∷ os) (suc i) f a b part e =
    absurd (cc (brought_there (with_block m (Theirs k) (new_block o.size o.contents)) [] (k + 1) os i f a b part e))
brought_there m (n ∷ ns) k (o ∷ os) zero f a b part e = e
brought_there m (n ∷ ns) k (o ∷ os) (suc i) f a b part e =
    brought_there (with_block m n.home (left_in n (m n.home) o.contents)) ns (k + 1) os i f a b part e

pub brought_once : (m : Memory) (ns : Naming) (k : ℕ) (os : List Object) → Once ns → Once (brought m ns k os).naming
brought_once m ns k os once = λ i j f a b part e g.
    once i j f a b part (brought_there m ns k os i f a b part e) (brought_there m ns k os j f a b part g)

-- Two parts of a block.

-- a part is found by a place that it has
found_place : (ps : List Part) (at place : ℕ) (p : Part) → part_by ps at place ≡ Some p → is_place p at place ≡ true
found_place [] at place p e = absurd (cc e)
found_place (q ∷ ps) at place p e = by (λ h. found_place ps at place p h) (is_place q at place) refl e
  where
    by : (part_by ps at place ≡ Some p → is_place p at place ≡ true) → (t : Bool) → is_place q at place ≡ t →
        (if t then Some q else part_by ps at place) ≡ Some p → is_place p at place ≡ true
    by more true h k = let same : q ≡ p = cc k in subst (λ v. is_place v at place ≡ true) same h
    by more false h k = more k

-- they are one, or apart
abbrev OneOrApart : Part → Part → Type 0
OneOrApart p q = (p ≡ q) ⊎ (p.from + p.size ≤ q.from) ⊎ (q.from + q.size ≤ p.from)

one_or_apart : (a m : ℕ) (ps : List Part) → ArePlaced a m ps → (at pl : ℕ) (p : Part) → part_by ps at pl ≡ Some p →
    (at' pl' : ℕ) (q : Part) → part_by ps at' pl' ≡ Some q → OneOrApart p q
one_or_apart a m [] h at pl p e at' pl' q g = absurd (cc e)
one_or_apart a m (x ∷ ps) h at pl p e at' pl' q g =
    by (is_place x at pl) (is_place x at' pl')
    (λ c d. one_or_apart (x.from + x.size) m ps h.3 at pl p c at' pl' q d) e g
  where
    by : (t u : Bool) → (part_by ps at pl ≡ Some p → part_by ps at' pl' ≡ Some q → OneOrApart p q) →
        (if t then Some x else part_by ps at pl) ≡ Some p → (if u then Some x else part_by ps at' pl') ≡ Some q →
        OneOrApart p q
    by true true more c d = let one : x ≡ p = cc c in let two : x ≡ q = cc d in inl (sym one ∙ two)
    by true false more c d =
        let one : x ≡ p = cc c in
        let w = part_in (x.from + x.size) m ps h.3 at' pl' q d in
        inr (inl (subst (λ (v : Part). v.from + v.size ≤ q.from) one w.from))
    by false true more c d =
        let two : x ≡ q = cc d in
        let w = part_in (x.from + x.size) m ps h.3 at pl p c in
        inr (inr (subst (λ (v : Part). v.from + v.size ≤ p.from) two w.from))
    by false false more c d = more c d

-- Which place of the naming a value is.

record PointsAt (ns : Naming) (home : Home) (at number place : ℕ) : Type 0 where
  it : Named
  there : slice_get ns number ≡ Some it
  home_is : it.home ≡ home
  at_is : at ≡ it.part.from + place
  within : place ≤ it.part.size

abbrev IsAt : Naming → Value → Shown → Type 0
IsAt ns (Number v) (Word w) = v ≡ w
IsAt ns (Pointer home at) (Place n p) = PointsAt ns home at n p
IsAt ns _ _ = ⊥

at_place : (ns : Naming) (x : Named) (n : ℕ) → slice_get ns n ≡ Some x → (home : Home) (at p : ℕ) → x.home ≡ home →
    is_place x.part at p ≡ true → PointsAt ns home at n p
at_place ns x n there home at p h e =
    let both = and_both (nat_eq at (x.part.from + p)) (nat_le p x.part.size) e in
    record {
      it = x;
      there = there;
      home_is = h;
      at_is = eqb-true at (x.part.from + p) both.0;
      within = leb-true p x.part.size both.1;
    }

at_end : (ns : Naming) (x : Named) → slice_get (ns ++ x ∷ []) (length ns) ≡ Some x
at_end [] x = refl
at_end (n ∷ ns) x = at_end ns x

named_at : (parts : Home → List Part) (ns ms : Naming) (v : Value) (x : Shown) → named_by parts ns v x ≡ Some ms →
    IsAt ms v x
named_at parts ns ms (Number v) (Word w) e = by (nat_eq v w) refl e
  where
    by : (t : Bool) → nat_eq v w ≡ t → (if t then Some ns else None) ≡ Some ms → v ≡ w
    by true i h = eqb-true v w i
    by false i h = absurd (cc h)
named_at parts ns ms (Number v) (Place n p) e = absurd (cc e)
named_at parts ns ms (Hidden what) (Word w) e = absurd (cc e)
named_at parts ns ms (Hidden what) (Place n p) e = absurd (cc e)
named_at parts ns ms (Pointer home at) (Word w) e = absurd (cc e)
named_at parts ns ms (Pointer home at) (Place n p) e = by (nat_lt n (length ns)) (nat_eq n (length ns)) refl e
  where
    known : (o : Option Named) → slice_get ns n ≡ o → again o ns home at p ≡ Some ms → PointsAt ms home at n p
    known None i g = absurd (cc g)
    known (Some x) i g = is (same_home x.home home && is_place x.part at p) refl g
      where
        is : (t : Bool) → (same_home x.home home && is_place x.part at p) ≡ t →
            (if t then Some ns else None) ≡ Some ms →
            PointsAt ms home at n p
        is true k h =
            let both = and_both (same_home x.home home) (is_place x.part at p) k in
            let same' : ns ≡ ms = cc h in
            subst (λ v. PointsAt v home at n p) same'
            (at_place ns x n i home at p (same_home_from x.home home both.0) both.1)
        is false k h = absurd (cc h)

    new : (k : Home) (o : Option Part) → part_by (parts k) at p ≡ o → n ≡ length ns → first_time o ns k ≡ Some ms →
        PointsAt ms k at n p
    new k None i l g = absurd (cc g)
    new (Theirs j) (Some part) i l g = absurd (cc g)
    new (Own f a b) (Some part) i l g = added (number_of ns (Own f a b) part) g
      where
        x : Named
        x = record { home = Own f a b; part = part }

        added : (o : Option ℕ) → if_new o ns (record { home = Own f a b; part = part }) ≡ Some ms →
            PointsAt ms (Own f a b) at n p
        added (Some j) h = absurd (cc h)
        added None h =
            let same' : ns ++ record { home = Own f a b; part = part } ∷ [] ≡ ms = cc h in
            subst (λ v. PointsAt v (Own f a b) at n p) same'
            (at_place (ns ++ record { home = Own f a b; part = part } ∷ []) (record { home = Own f a b; part = part }) n
            (subst (λ i. slice_get (ns ++ record { home = Own f a b; part = part } ∷ []) i ≡ Some
            (record { home = Own f a b; part = part })) (sym l) (at_end ns (record { home = Own f a b; part = part })))
            (Own f a b) at p refl (found_place (parts (Own f a b)) at p part i))

    by : (t u : Bool) → nat_eq n (length ns) ≡ u →
        (if t then again (slice_get ns n) ns home at p else
        (if u then first_time (part_by (parts home) at p) ns home else None)) ≡ Some ms → PointsAt ms home at n p
    by true u i g = known (slice_get ns n) refl g
    by false true i g = new home (part_by (parts home) at p) refl (eqb-true n (length ns) i) g
    by false false i g = absurd (cc g)

at_later : (ns ms : Naming) → GoesOn ns ms → (v : Value) (x : Shown) → IsAt ns v x → IsAt ms v x
at_later ns ms g (Number v) (Word w) h = h
at_later ns ms g (Number v) (Place n p) h = h
at_later ns ms g (Hidden what) (Word w) h = h
at_later ns ms g (Hidden what) (Place n p) h = h
at_later ns ms g (Pointer home at) (Word w) h = h
at_later ns ms g (Pointer home at) (Place n p) h =
    record { it = h.it; there = g n h.it h.there; home_is = h.home_is; at_is = h.at_is; within = h.within }

all_at : (parts : Home → List Part) (vs : List Value) (ns ms : Naming) (xs : List Shown) →
    all_named_by parts ns vs xs ≡ Some ms → Both (IsAt ms) vs xs
all_at parts [] ns ms [] e = tt
all_at parts [] ns ms (x ∷ xs) e = absurd (cc e)
all_at parts (v ∷ vs) ns ms [] e = absurd (cc e)
all_at parts (v ∷ vs) ns ms (x ∷ xs) e = by (λ ks g. all_at parts vs ks ms xs g) (named_by parts ns v x) refl e
  where
    by : ((ks : Naming) → all_named_by parts ks vs xs ≡ Some ms → Both (IsAt ms) vs xs) → (o : Option Naming) →
        named_by parts ns v x ≡ o → and_then o (λ ks. all_named_by parts ks vs xs) ≡ Some ms →
        Both (IsAt ms) (v ∷ vs) (x ∷ xs)
    by more None i h = absurd (cc h)
    by more (Some ks) i h =
        (at_later ks ms (all_goes parts ks vs ks (goes_same ks) xs ms h) v x (named_at parts ns ks v x i), more ks h)

-- What has an address has one content.

cell_of : (vs : List Value) (from size i j w : ℕ) → j ≡ from + i →
    slice_get (contents (cells vs from size)) i ≡ Some (Some w) →
    (v : Value) × (slice_get vs j ≡ Some v) × (content v ≡ Some w)
cell_of [] from size i j w g e = absurd (cc e)
cell_of (v ∷ vs) from zero i j w g e = absurd (cc e)
cell_of (v ∷ vs) zero (suc n) zero zero w g e = (v, refl, let c : content v ≡ Some w = cc e in c)
cell_of (v ∷ vs) zero (suc n) zero (suc j) w g e = absurd (omega (arith, g))
cell_of (v ∷ vs) zero (suc n) (suc i) zero w g e = absurd (omega (arith, g))
cell_of (v ∷ vs) zero (suc n) (suc i) (suc j) w g e = cell_of vs zero n i j w (omega (arith, g)) e
cell_of (v ∷ vs) (suc from) (suc n) i zero w g e = absurd (omega (arith, g))
cell_of (v ∷ vs) (suc from) (suc n) i (suc j) w g e = cell_of vs from (suc n) i j w (omega (arith, g)) e

one_word : (block : Option (List Value)) (p q : Part) (i j v w : ℕ) → p.from + i ≡ q.from + j →
    HasWord (contents_in block p) i v → HasWord (contents_in block q) j w → v ≡ w
one_word None p q i j v w e h k = absurd h
one_word (Some vs) p q i j v w e h k =
    let x = cell_of vs p.from p.size i (p.from + i) v refl h in
    let y = cell_of vs q.from q.size j (q.from + j) w refl k in
    let there : slice_get vs (q.from + j) ≡ Some x.0 = subst (λ n. slice_get vs n ≡ Some x.0) e x.1 in
    let one : x.0 ≡ y.0 = let other = y.1 in cc (there, other) in
    let words : Some v ≡ Some w = sym x.2 ∙ ap content one ∙ y.2 in
    cc words

agree_alive : (c : Contents) → AgreeAlive c c
agree_alive None = (λ h. h, λ h. h, λ i j v w e h k. absurd h)
agree_alive (Some ws) = (λ h. h, λ h. h, λ i j v w e h k. by i j v w e h k)
  where
    by : (i j v w : ℕ) → i + 0 ≡ j + 0 → slice_get ws i ≡ Some (Some v) → slice_get ws j ≡ Some (Some w) → v ≡ w
    by i j v w e h k =
        let one : i ≡ j = omega (arith, e) in
        let there : slice_get ws j ≡ Some (Some v) = subst (λ n. slice_get ws n ≡ Some (Some v)) one h in
        cc (there, k)

live_block : (block : Option (List Value)) (p : Part) → HasContents (contents_in block p) →
    (ws : List Value) × (block ≡ Some ws)
live_block None p h = absurd h
live_block (Some ws) p h = (ws, refl)

sound_named : (layout : Layout) (n : ℕ) (m : Memory) (i : ℕ) (ns : Naming) → SoundNaming layout n m i ns → (k : ℕ)
    (x : Named) → slice_get ns k ≡ Some x → SoundNamed layout n m (i + k) x.home x.part
sound_named layout n m i [] s k x e = absurd (cc e)
sound_named layout n m i (y ∷ ns) s zero x e =
    let same' : y ≡ x = cc e in
    let here : i ≡ i + 0 = omega arith in
    subst (λ (v : Named). SoundNamed layout n m (i + 0) v.home v.part) same'
    (subst (λ j. SoundNamed layout n m j y.home y.part) here s.0)
sound_named layout n m i (y ∷ ns) s (suc k) x e =
    let here : i + 1 + k ≡ i + suc k = omega arith in
    subst (λ j. SoundNamed layout n m j x.home x.part) here (sound_named layout n m (i + 1) ns s.1 k x e)

-- two ways to go on from the objects that have crossed
module _ (layout : Layout) (begun : ℕ) (memory : Memory) (is_sound : SoundMemory layout begun memory) (base : Naming)
  where
    record Further (ns : Naming) : Type 0 where
      goes_on : GoesOn base ns
      sound : SoundNaming layout begun memory 0 ns
      once : Once ns

    -- the same object of the unit's own, at one number of those that are known
    known_once : (ns ms : Naming) → Further ns → Further ms → (f : NameBytes) (a b : ℕ) (part : Part) (n m : ℕ) →
        slice_get ns n ≡ Some (record { home = Own f a b; part = part }) →
        slice_get ms m ≡ Some (record { home = Own f a b; part = part }) → n < length base → n ≡ m
    known_once ns ms x y f a b part n m e g less =
        let k = get_there base n less in
        let here = x.goes_on n k.0 k.1 in
        let is : k.0 ≡ record { home = Own f a b; part = part } = cc (here, e) in
        let there : slice_get ms n ≡ Some (record { home = Own f a b; part = part }) =
        subst (λ v. slice_get ms n ≡ Some v) is (y.goes_on n k.0 k.1) in
        y.once n m f a b part there g

    ends_there : (p q : Part) (at i j : ℕ) → at ≡ p.from + i → at ≡ q.from + j → i ≤ p.size → j ≤ q.size →
        (p.from + p.size ≤ q.from) ⊎ (q.from + q.size ≤ p.from) → ((i ≡ p.size) × (j ≡ 0)) ⊎ ((j ≡ q.size) × (i ≡ 0))
    ends_there p q at i j e g l k h = ⊎_elim
        (λ u. inl (omega (arith, e, g, l, k, u), omega (arith, e, g, l, k, u)))
        (λ u. inr (omega (arith, e, g, l, k, u), omega (arith, e, g, l, k, u))) h

    apart_of : (ns ms : Naming) → Further ns → Further ms → (home : Home) (at n p m q : ℕ)
        (x : PointsAt ns home at n p) (y : PointsAt ms home at m q) → (n < length base) ⊎ (m < length base) →
        (n ≡ m → ⊥) → (ws : List Value) → memory home ≡ Some ws →
        ((p ≡ x.it.part.size) × (q ≡ 0)) ⊎ ((q ≡ y.it.part.size) × (p ≡ 0))
    apart_of ns ms u v (Own f a b) at n p m q x y less differ ws live =
        let fits = is_sound f a b ws live in
        let here = x.there in
        let there = y.there in
        let first : x.it ≡ record { home = Own f a b; part = x.it.part } =
        ap (λ h. record { home = h; part = x.it.part }) x.home_is in
        let second : y.it ≡ record { home = Own f a b; part = y.it.part } =
        ap (λ h. record { home = h; part = y.it.part }) y.home_is in
        let one : slice_get ns n ≡ Some (record { home = Own f a b; part = x.it.part }) =
        subst (λ w. slice_get ns n ≡ Some w) first here in
        let two : slice_get ms m ≡ Some (record { home = Own f a b; part = y.it.part }) =
        subst (λ w. slice_get ms m ≡ Some w) second there in
        let s = sound_named layout begun memory 0 ns u.sound n _ one in
        let t = sound_named layout begun memory 0 ms v.sound m _ two in
        ⊎_elim
        (λ (same_part' : x.it.part ≡ y.it.part).
        let two' : slice_get ms m ≡ Some (record { home = Own f a b; part = x.it.part }) =
        subst (λ w. slice_get ms m ≡ Some (record { home = Own f a b; part = w })) (sym same_part') two in
        absurd (⊎_elim (λ l. differ (known_once ns ms u v f a b x.it.part n m one two' l))
        (λ l. differ (sym (known_once ms ns v u f a b x.it.part m n two' one l))) less))
        (λ h. ends_there x.it.part y.it.part at p q x.at_is y.at_is x.within y.within h)
        (one_or_apart 0 (length ws) (layout f b) fits.1 s.1 s.2 x.it.part s.3 t.1 t.2 y.it.part t.3)
    apart_of ns ms u v (Theirs j) at n p m q x y less differ ws live =
        let s = sound_named layout begun memory 0 ns u.sound n x.it x.there in
        let t = sound_named layout begun memory 0 ms v.sound m y.it y.there in
        let s' : SoundNamed layout begun memory (0 + n) (Theirs j) x.it.part =
        subst (λ h. SoundNamed layout begun memory (0 + n) h x.it.part) x.home_is s in
        let t' : SoundNamed layout begun memory (0 + m) (Theirs j) y.it.part =
        subst (λ h. SoundNamed layout begun memory (0 + m) h y.it.part) y.home_is t in
        let one = s'.0 in
        let two = t'.0 in
        absurd (differ (omega (arith, one, two)))

    one_place : (ns ms : Naming) → Further ns → Further ms → (home : Home) (at n p m q : ℕ) → PointsAt ns home at n p →
        PointsAt ms home at m q → (o o' : Object) → slice_get (objects_of memory ns) n ≡ Some o →
        slice_get (objects_of memory ms) m ≡ Some o' →
        AreOnePlace (length base) (record { number = n; object = o; place = p })
        (record { number = m; object = o'; place = q })
    one_place ns ms u v home at n p m q x y o o' e g =
        let here = object_there memory ns n x.it x.there in
        let there = object_there memory ms m y.it y.there in
        let o_is : object_of memory x.it ≡ o = cc (here, e) in
        let o'_is : object_of memory y.it ≡ o' = cc (there, g) in
        subst (λ (k : Object). AreOnePlace (length base) (record { number = n; object = k; place = p })
        (record { number = m; object = o'; place = q })) o_is
        (subst (λ (k : Object). AreOnePlace (length base)
        (record { number = n; object = object_of memory x.it; place = p })
        (record { number = m; object = k; place = q })) o'_is
        (record {
          in_one = λ less one. in_same less one;
          in_two = λ less differ live live'.
              let block = live_block (memory x.it.home) x.it.part live in
              apart_of ns ms u v home at n p m q x y less differ block.0
              (subst (λ h. memory h ≡ Some block.0) x.home_is block.1);
          words = λ i j c d k h l.
              let a = x.at_is in
              let b = y.at_is in
              one_word (memory home) x.it.part y.it.part i j c d (omega (arith, a, b, k))
              (subst (λ z. HasWord (contents_in (memory z) x.it.part) i c) x.home_is h)
              (subst (λ z. HasWord (contents_in (memory z) y.it.part) j d) y.home_is l);
        }))
      where
        in_same : n < length base → n ≡ m → p ≡ q
        in_same less one =
            let k = get_there base n less in
            let here = u.goes_on n k.0 k.1 in
            let there = v.goes_on n k.0 k.1 in
            let first = x.there in
            let second = subst (λ i. slice_get ms i ≡ Some y.it) (sym one) y.there in
            let it_is : x.it ≡ k.0 = cc (here, first) in
            let it'_is : y.it ≡ k.0 = cc (there, second) in
            let one_part : x.it.part.from ≡ y.it.part.from = ap (λ (z : Named). z.part.from) (it_is ∙ sym it'_is) in
            let a = x.at_is in
            let b = y.at_is in
            omega (arith, a, b, one_part)

    one_value : (ns ms : Naming) → Further ns → Further ms → (v : Value) (x y : Shown) → IsAt ns v x → IsAt ms v y →
        AreOneValue (length base) (objects_of memory ns) (objects_of memory ms) x y
    one_value ns ms u w (Number v) (Word a) (Word b) e g = sym e ∙ g
    one_value ns ms u w (Number v) (Word a) (Place m q) e g = absurd g
    one_value ns ms u w (Number v) (Place n p) y e g = absurd e
    one_value ns ms u w (Hidden what) (Word a) y e g = absurd e
    one_value ns ms u w (Hidden what) (Place n p) y e g = absurd e
    one_value ns ms u w (Pointer home at) (Word a) y e g = absurd e
    one_value ns ms u w (Pointer home at) (Place n p) (Word b) e g = absurd g
    one_value ns ms u w (Pointer home at) (Place n p) (Place m q) e g = λ o o' i j.
        one_place ns ms u w home at n p m q e g o o' i j

    all_one : (ns ms : Naming) → Further ns → Further ms → (vs : List Value) (xs ys : List Shown) →
        Both (IsAt ns) vs xs → Both (IsAt ms) vs ys →
        Both (AreOneValue (length base) (objects_of memory ns) (objects_of memory ms)) xs ys
    all_one ns ms u w [] [] [] e g = tt
    all_one ns ms u w [] [] (y ∷ ys) e g = absurd g
    all_one ns ms u w [] (x ∷ xs) ys e g = absurd e
    all_one ns ms u w (v ∷ vs) [] ys e g = absurd e
    all_one ns ms u w (v ∷ vs) (x ∷ xs) [] e g = absurd g
    all_one ns ms u w (v ∷ vs) (x ∷ xs) (y ∷ ys) e g =
        (one_value ns ms u w v x y e.0 g.0, all_one ns ms u w vs xs ys e.1 g.1)

    further : SoundNaming layout begun memory 0 base → Once base → (vs : List Value) (xs : List Shown) (ns : Naming) →
        all_named_by (parts_at layout begun) base vs xs ≡ Some ns → Further ns
    further s once vs xs ns e =
        let grown = all_grown layout begun memory vs xs base s ns e in
        record {
          goes_on = all_goes (parts_at layout begun) base vs base (goes_same base) xs ns e;
          sound = grown.sound;
          once = all_once (parts_at layout begun) vs xs base once ns e;
        }

pub names_agree : (layout : Layout) (values : List Value) (past : Past) (h : Holding) →
    SoundMemory layout past.begun h.memory → SoundNaming layout past.begun h.memory 0 past.naming →
    Once past.naming → (n m : Names) (ns ms : Naming) → named_as layout values past h n ≡ Some ns →
    named_as layout values past h m ≡ Some ms → NameOne (length past.naming) n m
names_agree layout values past h memory sound once n m ns ms e f =
    let s = named_so layout values past h n ns e in
    let t = named_so layout values past h m ms f in
    let parts = parts_at layout past.begun in
    let base = past.naming in
    let u = further layout past.begun h.memory memory base sound once values n.values ns s.values_named in
    let w = further layout past.begun h.memory memory base sound once values m.values ms t.values_named in
    record {
      values =
          subst (λ os. Both (AreOneValue (length base) os m.objects) n.values m.values) s.objects
          (subst (λ os. Both (AreOneValue (length base) (objects_of h.memory ns) os) n.values m.values) t.objects
          (all_one layout past.begun h.memory memory base ns ms u w values n.values m.values
          (all_at parts values base ns n.values s.values_named) (all_at parts values base ms m.values t.values_named)));
      olds = λ i less o p a b.
          let k = get_there base i less in
          let here = object_there h.memory ns i k.0 (u.goes_on i k.0 k.1) in
          let there = object_there h.memory ms i k.0 (w.goes_on i k.0 k.1) in
          let one : slice_get n.objects i ≡ Some (object_of h.memory k.0) =
          subst (λ os. slice_get os i ≡ Some (object_of h.memory k.0)) s.objects here in
          let two : slice_get m.objects i ≡ Some (object_of h.memory k.0) =
          subst (λ os. slice_get os i ≡ Some (object_of h.memory k.0)) t.objects there in
          let first_is : o ≡ p = cc (one, two, a, b) in
          subst (λ (v : Object). AgreeAlive o.contents v.contents) first_is (agree_alive o.contents);
    }

-- What the rules refuse.

pub null_beside_place : (known n p : ℕ) (os ps : List Object) → AreOneValue known os ps (Word 0) (Place n p) → ⊥
null_beside_place known n p os ps h = h refl

pub middle_beside_other : (known n m p q : ℕ) (os ps : List Object) (o o' : Object) → slice_get os n ≡ Some o →
    slice_get ps m ≡ Some o' → IsLive o → IsLive o' → n < known → n < m → 0 < p → p < o.size →
    AreOneValue known os ps (Place n p) (Place m q) → ⊥
middle_beside_other known n m p q os ps o o' e g live live' less differ least most h =
    let one = h o o' e g in
    ⊎_elim (λ u. let end = u.0 in omega (arith, end, most)) (λ u. let end = u.1 in omega (arith, end, least))
    (one.in_two (inl less) (λ same'. omega (arith, differ, same')) live live')

pub quiet_leave : (f : NameBytes) (older : List Opened) → OpensQuietly None (Open f ∷ Between ∷ older)
    (Between ∷ older) → ⊥
quiet_leave f older (inl e) =
    let head : Between ≡ Open f = cc e in cc head
quiet_leave f older (inr h) =
    let below = h.4 in
    let head : Between ≡ Open h.1 = cc below in cc head
