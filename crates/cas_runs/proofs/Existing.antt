-- Whatever a unit says, another may hear: there is a label for it, under the next numbers.
use Rattle.std.proofs.Common.{◌≡◌, ℕ, zero, suc, ◌+◌, ◌-◌, ◌<◌, ◌≤◌, nat_eq, nat_lt, Bool, true, false, if◌then◌else◌, List, [], ◌∷◌, ◌++◌, length, ◌⊎◌, Option, Some, None, slice_get, inl, inr, refl, sym, ap, ◌∙◌, subst, ⊎_elim, arith, eqb-true, ltb-true, ltb-false, lt-ltb}
use Rattle.std.proofs.lemmas.Bool.{eq-eqb}
use Rattle.cas_base.specs.declared.kind.Kind.TheVariants.{I32}
use Rattle.cas_runs.specs.Label.{Inside, Outside, Object, Crossing, Shown, Word, Place}
use Rattle.cas_runs.specs.Outside.{numbered}
use Rattle.cas_runs.specs.Rules.{LeavesAll}
use Rattle.cas_runs.specs.Receiving.{IsSame, AreRenumbered, at_number}
use Rattle.cas_runs.proofs.Cells.{get_inside}
use Rattle.cas_runs.specs.Known.{set, Known, OwnerFits, IsKnown, at_unit, renumber, Exchanged}
use Rattle.cas_runs.proofs.Families.{set_all, set_here, set_there}
use Rattle.cas_runs.proofs.Knowing.{not_none, some_or_none, got_short}

abbrev or_else : Option ℕ → Option ℕ → Option ℕ
or_else None o = o
or_else (Some n) o = Some n

abbrev one_more : Option ℕ → Option ℕ
one_more None = None
one_more (Some n) = Some (suc n)

-- at which place the number stands
abbrev position : ℕ → List ℕ → Option ℕ
position g [] = None
position g (x ∷ xs) = if nat_eq x g then Some 0 else one_more (position g xs)

abbrev from_on : ℕ → Option ℕ → Option ℕ
from_on b None = None
from_on b (Some n) = Some (b + n)

position_gets : (g : ℕ) (xs : List ℕ) (q : ℕ) → position g xs ≡ Some q → slice_get xs q ≡ Some g
position_gets g [] q e = absurd (cc e)
position_gets g (x ∷ xs) q e = by (nat_eq x g) refl (position g xs) (λ r f. position_gets g xs r f) e
  where
    by : (t : Bool) → nat_eq x g ≡ t → (o : Option ℕ) → ((r : ℕ) → o ≡ Some r → slice_get xs r ≡ Some g) →
        (if t then Some 0 else one_more o) ≡ Some q → slice_get (x ∷ xs) q ≡ Some g
    by true h o rest f = let zero_is : 0 ≡ q = cc f in subst (λ n. slice_get (x ∷ xs) n ≡ Some g) zero_is
        (ap Some (eqb-true x g h))
    by false h None rest f = absurd (cc f)
    by false h (Some r) rest f = let is : suc r ≡ q = cc f in
        subst (λ n. slice_get (x ∷ xs) n ≡ Some g) is (rest r refl)

position_there : (g : ℕ) (xs : List ℕ) (q : ℕ) → slice_get xs q ≡ Some g → (r : ℕ) × (position g xs ≡ Some r)
position_there g [] q e = absurd (cc e)
position_there g (x ∷ xs) zero e = let same : x ≡ g = cc e in
    (0, ap (λ (t : Bool). if t then Some 0 else one_more (position g xs)) (eq-eqb x g same))
position_there g (x ∷ xs) (suc q) e = by (nat_eq x g) (position_there g xs q e)
  where
    by : (t : Bool) → (r : ℕ) × (position g xs ≡ Some r) → (r : ℕ)
        × ((if t then Some 0 else one_more (position g xs)) ≡ Some r)
    by true h = (0, refl)
    by false h = (suc h.0, ap one_more h.1)

get_front : (xs : List ℕ) (g n m : ℕ) → slice_get xs n ≡ Some m → slice_get (xs ++ g ∷ []) n ≡ Some m
get_front [] g n m e = absurd (cc e)
get_front (x ∷ xs) g zero m e = e
get_front (x ∷ xs) g (suc n) m e = get_front xs g n m e

get_last : (xs : List ℕ) (g : ℕ) → slice_get (xs ++ g ∷ []) (length xs) ≡ Some g
get_last [] g = refl
get_last (x ∷ xs) g = get_last xs g

get_either : (xs : List ℕ) (g n m : ℕ) → slice_get (xs ++ g ∷ []) n ≡ Some m → (slice_get xs n ≡ Some m)
    ⊎ ((n ≡ length xs) × (m ≡ g))
get_either [] g zero m e = inr (refl, cc e)
get_either [] g (suc n) m e = absurd (cc e)
get_either (x ∷ xs) g zero m e = inl e
get_either (x ∷ xs) g (suc n) m e = ⊎_elim inl (λ h. inr (ap suc h.0, h.1)) (get_either xs g n m e)

longer : (xs : List ℕ) (g : ℕ) → length (xs ++ g ∷ []) ≡ length xs + 1
longer [] g = refl
longer (x ∷ xs) g = let r = longer xs g in omega (arith, r)

numbers_grow : (xs : List Shown) (m t : ℕ) → numbered m xs ≡ Some t → m ≤ t
numbers_grow [] m t e = let same : m ≡ t = cc e in omega (arith, same)
numbers_grow (Word v ∷ xs) m t e = numbers_grow xs m t e
numbers_grow (Place n p ∷ xs) m t e = by (nat_lt n m) (nat_eq n m) (λ q. numbers_grow xs q t) e
  where
    by : (a b : Bool) → ((q : ℕ) → numbered q xs ≡ Some t → q ≤ t) →
        (if a then numbered m xs else if b then numbered (m + 1) xs else None) ≡ Some t → m ≤ t
    by true b rest f = rest m f
    by false true rest f = let r = rest (m + 1) f in omega (arith, r)
    by false false rest f = absurd (cc f)

leaves_longer : (os news : List Object) → LeavesAll os news → length os ≤ length news
leaves_longer [] news h = omega arith
leaves_longer (o ∷ os) [] h = absurd h
leaves_longer (o ∷ os) (n ∷ news) h = let r = leaves_longer os news h.1 in omega (arith, r)

none_past : {X : Type 0} (xs : List X) (n : ℕ) → slice_get xs n ≡ None → length xs ≤ n
none_past [] n e = omega arith
none_past (x ∷ xs) zero e = absurd (cc e)
none_past (x ∷ xs) (suc n) e = omega (arith, none_past xs n e)

module _ (k : Known) (now : ℕ) (seen : ℕ → List Object) (sound : IsKnown k now seen) (emitted : Crossing)
    (leaves : LeavesAll (seen now) emitted.objects) (count : numbered (length (seen now)) emitted.values ≡ Some
    (length emitted.objects)) (j : ℕ) (away : j ≡ now → ⊥) (callers : List ℕ) where
  abbrev a : ℕ
  a = length (seen now)

  abbrev b : ℕ
  b = length (seen j)

  abbrev total : ℕ
  total = length emitted.objects

  -- the running unit's numbers: a new object has the next number of the thread's that nobody has
  abbrev fresh_id : ℕ → Option ℕ
  fresh_id n = if nat_lt n total then Some (k.count + n) else None

  abbrev c_id : ℕ → Option ℕ
  c_id n = or_else (k.id now n) (fresh_id n)

  abbrev fresh_number : ℕ → Option ℕ
  fresh_number g =
      if nat_lt g k.count then None else (if nat_lt (g - k.count) a then None else
      (if nat_lt (g - k.count) total then Some (g - k.count) else None))

  abbrev c_number : ℕ → Option ℕ
  c_number g = or_else (k.number now g) (fresh_number g)

  less_false : (m n : ℕ) → n ≤ m → nat_lt m n ≡ false
  less_false m n h = by (nat_lt m n) refl
    where
      by : (t : Bool) → nat_lt m n ≡ t → nat_lt m n ≡ false
      by true e = let less = ltb-true m n e in absurd (omega (arith, less, h))
      by false e = e

  record IsFresh (n g : ℕ) : Type 0 where
    past : a ≤ n
    within : n < total
    is : g ≡ k.count + n

  id_cases : (n g : ℕ) → c_id n ≡ Some g → (k.id now n ≡ Some g) ⊎ ((k.id now n ≡ None) × IsFresh n g)
  id_cases n g e = by (k.id now n) refl e
    where
      fresh_one : (t : Bool) → nat_lt n total ≡ t → k.id now n ≡ None →
          (if t then Some (k.count + n) else None) ≡ Some g → IsFresh n g
      fresh_one true h none f = let is : k.count + n ≡ g =
          cc f in record {
            past = ⊎_elim (λ o. let s = sound.all_seen now n o.0 o.1 in absurd (not_none s.1 none))
                (λ q. none_past (seen now) n q) (some_or_none (slice_get (seen now) n));
            within = ltb-true n total h;
            is =
                sym is;
          }
      fresh_one false h none f = absurd (cc f)

      by : (o : Option ℕ) → k.id now n ≡ o → or_else o (fresh_id n) ≡ Some g → (k.id now n ≡ Some g)
          ⊎ ((k.id now n ≡ None) × IsFresh n g)
      by (Some q) h f = inl (h ∙ f)
      by None h f = inr (h, fresh_one (nat_lt n total) refl h f)

  number_of_fresh : (n g : ℕ) → IsFresh n g → c_number g ≡ Some n
  number_of_fresh n g f =
      let past = f.past in
      let within = f.within in
      let is = f.is in
      let back : g - k.count ≡ n = omega (arith, is) in
      by (k.number now g) refl
    where
      place : g - k.count ≡ n
      place = let is = f.is in omega (arith, is)

      by : (o : Option ℕ) → k.number now g ≡ o → or_else o (fresh_number g) ≡ Some n
      by (Some q) h = let less = sound.below now q g (sound.numbers.back now q g h) in let is =
          f.is in absurd (omega (arith, less, is))
      by None h =
          let past = f.past in
          let within = f.within in
          let is = f.is in
          ap (λ (t : Bool). if t then None else (if nat_lt (g - k.count) a then None else
          (if nat_lt (g - k.count) total then Some (g - k.count) else None)))
          (less_false g k.count (omega (arith, is)))
          ∙ ap (λ m. if nat_lt m a then None else (if nat_lt m total then Some m else None)) place
          ∙ ap (λ (t : Bool). if t then None else (if nat_lt n total then Some n else None)) (less_false n a past)
          ∙ ap (λ (t : Bool). if t then Some n else None) (lt-ltb n total within)

  number_cases : (n g : ℕ) → c_number g ≡ Some n → (k.number now g ≡ Some n) ⊎ IsFresh n g
  number_cases n g e = by (k.number now g) refl e
    where
      third : (t : Bool) → nat_lt (g - k.count) total ≡ t → a ≤ g - k.count → k.count ≤ g →
          (if t then Some (g - k.count) else None) ≡ Some n → IsFresh n g
      third true h past above f = let is : g - k.count ≡ n = cc f in let within =
          ltb-true (g - k.count) total h in
          record { past = omega (arith, past, is); within = omega (arith, within, is); is = omega (arith, is, above) }
      third false h past above f = absurd (cc f)

      second : (t : Bool) → nat_lt (g - k.count) a ≡ t → k.count ≤ g →
          (if t then None else (if nat_lt (g - k.count) total then Some (g - k.count) else None)) ≡ Some n → IsFresh n g
      second true h above f = absurd (cc f)
      second false h above f = third (nat_lt (g - k.count) total) refl (ltb-false (g - k.count) a h) above f

      first_test : (t : Bool) → nat_lt g k.count ≡ t →
          (if t then None else (if nat_lt (g - k.count) a then None else
          (if nat_lt (g - k.count) total then Some (g - k.count) else None))) ≡ Some n → IsFresh n g
      first_test true h f = absurd (cc f)
      first_test false h f = second (nat_lt (g - k.count) a) refl (ltb-false g k.count h) f

      by : (o : Option ℕ) → k.number now g ≡ o → or_else o (fresh_number g) ≡ Some n → (k.number now g ≡ Some n)
          ⊎ IsFresh n g
      by (Some q) h f = inl (h ∙ f)
      by None h f = inr (first_test (nat_lt g k.count) refl f)

  id_of_fresh : (n g : ℕ) → IsFresh n g → c_id n ≡ Some g
  id_of_fresh n g f = by (k.id now n) refl
    where
      by : (o : Option ℕ) → k.id now n ≡ o → or_else o (fresh_id n) ≡ Some g
      by (Some q) h = let o = sound.only_seen now n q h in let short = got_short (seen now) n o.0 o.1 in let past =
          f.past in absurd (omega (arith, short, past))
      by None h = ap (λ (t : Bool). if t then Some (k.count + n) else None) (lt-ltb n total f.within)
          ∙ ap Some (sym f.is)

  old_id : (n g : ℕ) → k.id now n ≡ Some g → c_id n ≡ Some g
  old_id n g e = ap (λ o. or_else o (fresh_id n)) e

  c_there : (n g : ℕ) → c_id n ≡ Some g → c_number g ≡ Some n
  c_there n g e = ⊎_elim (λ h. ap (λ o. or_else o (fresh_number g)) (sound.numbers.there now n g h))
      (λ h. number_of_fresh n g h.1) (id_cases n g e)

  c_back : (n g : ℕ) → c_number g ≡ Some n → c_id n ≡ Some g
  c_back n g e = ⊎_elim (λ h. old_id n g (sound.numbers.back now n g h)) (λ f. id_of_fresh n g f) (number_cases n g e)

  c_some : (n : ℕ) → n < total → (g : ℕ) × (c_id n ≡ Some g)
  c_some n less = ⊎_elim (λ h. (h.0, old_id n h.0 h.1))
      (λ h. (
        k.count + n,
        ap (λ o. or_else o (fresh_id n)) h
            ∙ ap (λ (t : Bool). if t then Some (k.count + n) else None) (lt-ltb n total less),
      )) (some_or_none (k.id now n))

  -- the hearing unit's numbers, with these new ones
  abbrev j_id : List ℕ → ℕ → Option ℕ
  j_id news n = or_else (k.id j n) (slice_get news (n - b))

  abbrev j_number : List ℕ → ℕ → Option ℕ
  j_number news g = or_else (k.number j g) (from_on b (position g news))

  record AreNews (news : List ℕ) : Type 0 where
    one : (p q g : ℕ) → slice_get news p ≡ Some g → slice_get news q ≡ Some g → p ≡ q
    unknown : (p g : ℕ) → slice_get news p ≡ Some g → k.number j g ≡ None
    emitted_so : (p g : ℕ) → slice_get news p ≡ Some g → (n : ℕ) × (c_id n ≡ Some g)

  abbrev on_in : List ℕ → Option ℕ → Option ℕ
  on_in news None = None
  on_in news (Some g) = j_number news g

  abbrev number_in : List ℕ → ℕ → Option ℕ
  number_in news n = on_in news (c_id n)

  abbrev More : List ℕ → List ℕ → Type 0
  More xs ys = (n g : ℕ) → slice_get xs n ≡ Some g → slice_get ys n ≡ Some g

  more_last : (news : List ℕ) (g : ℕ) → More news (news ++ g ∷ [])
  more_last news g n m e = get_front news g n m e

  new_news : (news : List ℕ) → AreNews news → (g n : ℕ) → c_id n ≡ Some g → k.number j g ≡ None →
      position g news ≡ None → AreNews (news ++ g ∷ [])
  new_news news h g n e none absent = record {
    one = λ p q m f t. by p q m (get_either news g p m f) (get_either news g q m t);
    unknown = λ p m f. ⊎_elim (λ o. h.unknown p m o) (λ o. subst (λ v. k.number j v ≡ None) (sym o.1) none)
        (get_either news g p m f);
    emitted_so = λ p m f. ⊎_elim (λ o. h.emitted_so p m o) (λ o. (n, subst (λ v. c_id n ≡ Some v) (sym o.1) e))
        (get_either news g p m f);
  }
    where
      clash : (p m : ℕ) → slice_get news p ≡ Some m → m ≡ g → ⊥
      clash p m f s = let there = position_there g news p (subst (λ v. slice_get news p ≡ Some v) s f) in
          not_none there.1 absent

      by : (p q m : ℕ) → ((slice_get news p ≡ Some m) ⊎ ((p ≡ length news) × (m ≡ g))) →
          ((slice_get news q ≡ Some m) ⊎ ((q ≡ length news) × (m ≡ g))) → p ≡ q
      by p q m (inl f) (inl t) = h.one p q m f t
      by p q m (inl f) (inr t) = absurd (clash p m f t.1)
      by p q m (inr f) (inl t) = absurd (clash q m t f.1)
      by p q m (inr f) (inr t) = f.0 ∙ sym t.0

  -- the values as they are heard
  record ReceivedSo (xs : List Shown) (news : List ℕ) : Type 0 where
    ys : List Shown
    after : List ℕ
    more : More news after
    are : AreNews after
    counted : numbered (b + length news) ys ≡ Some (b + length after)
    same : (last : List ℕ) → AreNews last → More after last → AreRenumbered (number_in last) xs ys

  number_last : (last : List ℕ) → AreNews last → (g q : ℕ) → k.number j g ≡ None → slice_get last q ≡ Some g →
      j_number last g ≡ Some (b + q)
  number_last last h g q none e =
      let p = position_there g last q e in
      let same = h.one p.0 q g (position_gets g last p.0 p.1) e in
      ap (λ o. or_else o (from_on b (position g last))) none ∙ ap (λ o. from_on b o) p.1 ∙ ap (λ n. Some (b + n)) same

  known_short : (m g : ℕ) → k.id j m ≡ Some g → m < b
  known_short m g e = let o = sound.only_seen j m g e in got_short (seen j) m o.0 o.1

  receive_values : (xs : List Shown) (at : ℕ) → numbered at xs ≡ Some total → (news : List ℕ) → AreNews news →
      ReceivedSo xs news
  receive_values [] at e news h =
      record { ys = []; after = news; more = λ n g q. q; are = h; counted = refl; same = λ last l m. tt }
  receive_values (Word v ∷ xs) at e news h =
      let r = receive_values xs at e news h in
      record {
        ys = Word v ∷ r.ys;
        after = r.after;
        more = r.more;
        are = r.are;
        counted = r.counted;
        same = λ last l m.
            (refl, r.same last l m);
      }
  receive_values (Place n p ∷ xs) at e news h = by_place (nat_lt n at) refl (nat_eq n at) refl e
      (λ q f m g. receive_values xs q f m g)
    where
      with_id : n < total → (next : ℕ) → ((m : List ℕ) → AreNews m → ReceivedSo xs m) → ReceivedSo (Place n p ∷ xs) news
      with_id less next rest = by_number (k.number j g.0) refl (position g.0 news) refl
        where
          g : (g : ℕ) × (c_id n ≡ Some g)
          g = c_some n less

          place_known : (m : ℕ) → k.number j g.0 ≡ Some m → ReceivedSo (Place n p ∷ xs) news
          place_known m f =
              let r = rest news h in
              let short = known_short m g.0 (sound.numbers.back j m g.0 f) in
              record {
                ys = Place m p ∷ r.ys;
                after = r.after;
                more = r.more;
                are = r.are;
                counted =
                    ap (λ (t : Bool). if t then numbered (b + length news) r.ys else
                    (if nat_eq m (b + length news) then numbered ((b + length news) + 1) r.ys else None))
                    (lt-ltb m (b + length news) (omega (arith, short))) ∙ r.counted;
                same = λ last l q. (
                  ap (λ o. at_number (on_in last o) p) g.1
                      ∙ ap (λ o. at_number (or_else o (from_on b (position g.0 last))) p) f,
                  r.same last l q,
                );
              }

          place_new : (q : ℕ) → k.number j g.0 ≡ None → position g.0 news ≡ Some q → ReceivedSo (Place n p ∷ xs) news
          place_new q f i =
              let r = rest news h in
              let there = position_gets g.0 news q i in
              let short = got_short news q g.0 there in
              record {
                ys = Place (b + q) p ∷ r.ys;
                after = r.after;
                more = r.more;
                are = r.are;
                counted =
                    ap (λ (t : Bool). if t then numbered (b + length news) r.ys else
                    (if nat_eq (b + q) (b + length news) then numbered ((b + length news) + 1) r.ys else None))
                    (lt-ltb (b + q) (b + length news) (omega (arith, short))) ∙ r.counted;
                same = λ last l m. (
                  ap (λ o. at_number (on_in last o) p) g.1
                      ∙ ap (λ o. at_number o p) (number_last last l g.0 q f (m q g.0 (r.more q g.0 there))),
                  r.same last l
                      m,
                );
              }

          place_first : k.number j g.0 ≡ None → position g.0 news ≡ None → ReceivedSo (Place n p ∷ xs) news
          place_first f i =
              let r = rest (news ++ g.0 ∷ []) (new_news news h g.0 n g.1 f i) in
              let l1 = longer news g.0 in
              let count1 : (b + length news) + 1 ≡ b + length (news ++ g.0 ∷ []) = omega (arith, l1) in
              record {
                ys = Place (b + length news) p ∷ r.ys;
                after = r.after;
                more = λ q m s. r.more q m (get_front news g.0 q m s);
                are = r.are;
                counted =
                    ap (λ (t : Bool). if t then numbered (b + length news) r.ys else
                    (if nat_eq (b + length news) (b + length news) then numbered ((b + length news) + 1)
                    r.ys else None)) (less_false (b + length news) (b + length news) (omega arith))
                    ∙ ap (λ (t : Bool). if t then numbered ((b + length news) + 1) r.ys else None)
                    (eq-eqb (b + length news) (b + length news) refl)
                    ∙ ap (λ m. numbered m r.ys) count1 ∙ r.counted;
                same = λ last l m. (
                  ap (λ o. at_number (on_in last o) p) g.1
                      ∙ ap (λ o. at_number o p) (number_last last l g.0 (length news) f
                      (m (length news) g.0 (r.more (length news) g.0 (get_last news g.0)))),
                  r.same last l m,
                );
              }

          by_number : (o : Option ℕ) → k.number j g.0 ≡ o → (s : Option ℕ) → position g.0 news ≡ s →
              ReceivedSo (Place n p ∷ xs) news
          by_number (Some m) f s i = place_known m f
          by_number None f (Some q) i = place_new q f i
          by_number None f None i = place_first f i

      by_place : (s : Bool) → nat_lt n at ≡ s → (t : Bool) → nat_eq n at ≡ t →
          (if s then numbered at xs else if t then numbered (at + 1) xs else None) ≡ Some total →
          ((q : ℕ) → numbered q xs ≡ Some total → (m : List ℕ) → AreNews m → ReceivedSo xs m) →
          ReceivedSo (Place n p ∷ xs) news
      by_place true f t i c rest = let less = ltb-true n at f in let grow =
          numbers_grow xs at total c in with_id (omega (arith, less, grow)) at (rest at c)
      by_place false f true i c rest = let same = eqb-true n at i in let grow =
          numbers_grow xs (at + 1) total c in with_id (omega (arith, same, grow)) (at + 1) (rest (at + 1) c)
      by_place false f false i c rest = absurd (cc c)

  start_news : AreNews []
  start_news =
      record { one = λ p q g e f. absurd (cc e); unknown = λ p g e. absurd (cc e); emitted_so = λ p g e. absurd (cc e) }

  so : ReceivedSo emitted.values []
  so = receive_values emitted.values a count [] start_news

  abbrev E : List ℕ
  E = so.after

  -- Objects.

  abbrev taken_object : Option Object → Object → Object
  taken_object None o = o
  taken_object (Some p) o = p

  abbrev object_by : Option ℕ → Object → Object
  object_by None o = o
  object_by (Some n) o = taken_object (slice_get emitted.objects n) o

  abbrev obj : ℕ → Object
  obj g = object_by (c_number g) (k.object g)

  abbrev owned : ℕ → ℕ
  owned g = if nat_lt g k.count then k.owner g else now

  abbrev received_object : Option ℕ → Object
  received_object None = record { owner = Outside; kind = I32; size = 1; contents = None }
  received_object (Some g) =
      record {
        owner = if nat_eq j (owned g) then Inside else Outside;
        kind = (obj g).kind;
        size =
            (obj g).size;
        contents = (obj g).contents;
      }

  abbrev table : ℕ → ℕ → List Object
  table zero at = []
  table (suc n) at = received_object (j_id E at) ∷ table n (at + 1)

  table_gets : (n at m : ℕ) (o : Object) → slice_get (table n at) m ≡ Some o → (m < n)
      × (o ≡ received_object (j_id E (at + m)))
  table_gets zero at m o e = absurd (cc e)
  table_gets (suc n) at zero o e = let same : received_object (j_id E at) ≡ o = cc e in let here : at ≡ at + 0 =
      omega arith in (omega arith, sym same ∙ ap (λ q. received_object (j_id E q)) here)
  table_gets (suc n) at (suc m) o e = let r = table_gets n (at + 1) m o e in let less =
      r.0 in let here : (at + 1) + m ≡ at + suc m = omega arith in
      (omega (arith, less), r.1 ∙ ap (λ q. received_object (j_id E q)) here)

  table_length : (n at : ℕ) → length (table n at) ≡ n
  table_length zero at = refl
  table_length (suc n) at = ap suc (table_length n (at + 1))

  abbrev size : ℕ
  size = b + length E

  abbrev received : Crossing
  received = record { values = so.ys; share = emitted.share; objects = table size 0 }

  abbrev k' : Known
  k' = record {
    id = set (set k.id now c_id) j (j_id E);
    number = set (set k.number now c_number) j
        (j_number E);
    object = obj;
    owner = owned;
    count = k.count + total;
    callers = callers;
  }

  id_now : (n : ℕ) → k'.id now n ≡ c_id n
  id_now n = ap (λ (q : ℕ → Option ℕ). q n) (set_there (set k.id now c_id) j (j_id E) now (λ e. away (sym e))
      ∙ set_here k.id now c_id)

  id_j : (n : ℕ) → k'.id j n ≡ j_id E n
  id_j n = ap (λ (q : ℕ → Option ℕ). q n) (set_here (set k.id now c_id) j (j_id E))

  number_now : (g : ℕ) → k'.number now g ≡ c_number g
  number_now g =
      ap (λ (q : ℕ → Option ℕ). q g) (set_there (set k.number now c_number) j (j_number E) now (λ e. away (sym e))
      ∙ set_here k.number now c_number)

  number_j : (g : ℕ) → k'.number j g ≡ j_number E g
  number_j g = ap (λ (q : ℕ → Option ℕ). q g) (set_here (set k.number now c_number) j (j_number E))

  j_cases : (n g : ℕ) → j_id E n ≡ Some g → (k.id j n ≡ Some g)
      ⊎ ((k.id j n ≡ None) × (slice_get E (n - b) ≡ Some g) × (b ≤ n))
  j_cases n g e = by (k.id j n) refl e
    where
      by : (o : Option ℕ) → k.id j n ≡ o → or_else o (slice_get E (n - b)) ≡ Some g → (k.id j n ≡ Some g)
          ⊎ ((k.id j n ≡ None) × (slice_get E (n - b) ≡ Some g) × (b ≤ n))
      by (Some q) h f = inl (h ∙ f)
      by None h f =
          inr (
            h,
            f,
            ⊎_elim (λ o. let s = sound.all_seen j n o.0 o.1 in absurd (not_none s.1 h))
                (λ q. none_past (seen j) n q) (some_or_none (slice_get (seen j) n)),
          )

  j_there : (n g : ℕ) → j_id E n ≡ Some g → j_number E g ≡ Some n
  j_there n g e = ⊎_elim
      (λ h. ap (λ o. or_else o (from_on b (position g E))) (sound.numbers.there j n g h))
      (λ h. let past = h.2 in let back : b + (n - b) ≡ n = omega (arith, past) in
      number_last E so.are g (n - b) (so.are.unknown (n - b) g h.1) h.1 ∙ ap Some back)
      (j_cases n g e)

  j_back : (n g : ℕ) → j_number E g ≡ Some n → j_id E n ≡ Some g
  j_back n g e = by (k.number j g) refl e
    where
      new_one : (o : Option ℕ) → position g E ≡ o → from_on b o ≡ Some n → j_id E n ≡ Some g
      new_one None h f = absurd (cc f)
      new_one (Some q) h f =
          let is : b + q ≡ n = cc f in
          let place : n - b ≡ q = omega (arith, is) in
          by_id (k.id j n) refl
        where
          by_id : (o : Option ℕ) → k.id j n ≡ o → or_else o (slice_get E (n - b)) ≡ Some g
          by_id (Some r) i = let short = known_short n r i in let is : b + q ≡ n =
              cc f in absurd (omega (arith, short, is))
          by_id None i = let is : b + q ≡ n = cc f in let place : n - b ≡ q =
              omega (arith, is) in ap (λ m. slice_get E m) place ∙ position_gets g E q h

      by : (o : Option ℕ) → k.number j g ≡ o → or_else o (from_on b (position g E)) ≡ Some n → j_id E n ≡ Some g
      by (Some q) h f = let same : k.number j g ≡ Some n =
          h ∙ f in ap (λ o. or_else o (slice_get E (n - b))) (sound.numbers.back j n g same)
      by None h f = new_one (position g E) refl f

  j_some : (n : ℕ) → n < size → (g : ℕ) × (j_id E n ≡ Some g)
  j_some n less = ⊎_elim
      (λ h. (h.0, ap (λ o. or_else o (slice_get E (n - b))) h.1))
      (λ h.
      let past : b ≤ n = ⊎_elim (λ o. let s = sound.all_seen j n o.0 o.1 in absurd (not_none s.1 h))
      (λ q. none_past (seen j) n q) (some_or_none (slice_get (seen j) n)) in
      let x = get_inside E (n - b) (omega (arith, less, past)) in
      (x.0, ap (λ o. or_else o (slice_get E (n - b))) h ∙ x.1))
      (some_or_none (k.id j n))

  j_short : (n g : ℕ) → j_id E n ≡ Some g → n < size
  j_short n g e = ⊎_elim (λ h. let s = known_short n g h in omega (arith, s))
      (λ h. let s = got_short_of E (n - b) g h.1 in let past = h.2 in omega (arith, s, past)) (j_cases n g e)
    where
      got_short_of : (xs : List ℕ) (n g : ℕ) → slice_get xs n ≡ Some g → n < length xs
      got_short_of xs n g e = got_short xs n g e

  owner_old : (g : ℕ) → g < k.count → owned g ≡ k.owner g
  owner_old g less = ap (λ (t : Bool). if t then k.owner g else now) (lt-ltb g k.count less)

  owner_new : (g : ℕ) → k.count ≤ g → owned g ≡ now
  owner_new g more = ap (λ (t : Bool). if t then k.owner g else now) (less_false g k.count more)

  fits : (g : ℕ) → OwnerFits j (owned g) (received_object (Some g)).owner
  fits g = record {
    inside = λ e. ap (λ (t : Bool). if t then Inside else Outside) (eq-eqb j (owned g) e);
    outside =
        λ d. ap (λ (t : Bool). if t then Inside else Outside) (not_eq j (owned g) d);
  }
    where
      not_eq : (m n : ℕ) → (m ≡ n → ⊥) → nat_eq m n ≡ false
      not_eq m n d = by (nat_eq m n) refl
        where
          by : (t : Bool) → nat_eq m n ≡ t → nat_eq m n ≡ false
          by true e = absurd (d (eqb-true m n e))
          by false e = e

  renumbered_same : (f h : ℕ → Option ℕ) → ((n : ℕ) → h n ≡ f n) → (xs ys : List Shown) → AreRenumbered f xs ys →
      AreRenumbered h xs ys
  renumbered_same f h e [] [] r = tt
  renumbered_same f h e [] (y ∷ ys) r = absurd r
  renumbered_same f h e (x ∷ xs) [] r = absurd r
  renumbered_same f h e (Word v ∷ xs) (y ∷ ys) r = (r.0, renumbered_same f h e xs ys r.1)
  renumbered_same f h e (Place n p ∷ xs) (y ∷ ys) r =
      (ap (λ o. at_number o p) (e n) ∙ r.0, renumbered_same f h e xs ys r.1)

  number_is : (n : ℕ) → renumber k' now j n ≡ number_in E n
  number_is n = ap (λ o. at_unit k' j o) (id_now n) ∙ by (c_id n)
    where
      by : (o : Option ℕ) → at_unit k' j o ≡ on_in E o
      by None = refl
      by (Some g) = number_j g

  obj_emitted : (g n : ℕ) (o : Object) → c_number g ≡ Some n → slice_get emitted.objects n ≡ Some o → obj g ≡ o
  obj_emitted g n o e f = ap (λ q. object_by q (k.object g)) e ∙ ap (λ q. taken_object q (k.object g)) f

  same_itself : (o p : Object) → p ≡ o → IsSame o p
  same_itself o p e =
      record {
        owner = tt;
        kind = ap (λ (q : Object). q.kind) e;
        size = ap (λ (q : Object). q.size) e;
        contents = ap
            (λ (q : Object). q.contents) e;
      }

  exchanged_so : Exchanged k seen (record { from = now; to = j; emitted = emitted; received = received }) k'
  exchanged_so = record {
    another = away;
    grows = record {
      numbers = record {
        there = set_all (λ i (f h : ℕ → Option ℕ). (n g : ℕ) → f n ≡ Some g → h g ≡ Some n) (set k.id now c_id)
            (set k.number now c_number) j (j_id E) (j_number E)
            (λ i d. set_all (λ i (f h : ℕ → Option ℕ). (n g : ℕ) → f n ≡ Some g → h g ≡ Some n)
            k.id k.number now c_id c_number (λ i d n g e. sound.numbers.there i n g e) c_there i) j_there;
        back = set_all (λ i (f h : ℕ → Option ℕ). (n g : ℕ) → h g ≡ Some n → f n ≡ Some g) (set k.id now c_id)
            (set k.number now c_number) j (j_id E) (j_number E)
            (λ i d. set_all (λ i (f h : ℕ → Option ℕ). (n g : ℕ) → h g ≡ Some n → f n ≡ Some g)
            k.id k.number now c_id c_number (λ i d n g e. sound.numbers.back i n g e) c_back i) j_back;
      };
      below = set_all (λ i (q : ℕ) (f : ℕ → Option ℕ). (n g : ℕ) → f n ≡ Some g → g < k.count + total) (λ i. i)
          (set k.id now c_id) j j (j_id E)
          (λ i d. set_all (λ i (q : ℕ) (f : ℕ → Option ℕ). (n g : ℕ) → f n ≡ Some g → g < k.count + total)
          (λ i. i) k.id now now c_id (λ i d n g e. let s = sound.below i n g e in omega (arith, s))
          (λ n g e. c_below n g e) i) (λ n g e. j_below n g e);
      keeps = set_all (λ i (f h : ℕ → Option ℕ). (n g : ℕ) → k.id i n ≡ Some g → h n ≡ Some g) k.id (set k.id now c_id)
          j (j_id E) (j_id E)
          (λ i d. set_all (λ i (q : ℕ) (h : ℕ → Option ℕ). (n g : ℕ) → k.id i n ≡ Some g → h n ≡ Some g)
          (λ i. i) k.id now now c_id (λ i d n g e. e) old_id i) (λ n g e. ap (λ o. or_else o (slice_get E (n - b))) e);
      same_owner = λ i n g e. owner_old g (sound.below i n g e);
      others = λ i n d far. ap (λ (q : ℕ → Option ℕ). q n)
          (set_there (set k.id now c_id) j (j_id E) i far ∙ set_there k.id now c_id i d);
    };
    emits = record {
      known = λ n o e.
          let g = c_some n (got_short emitted.objects n o e) in
          (g.0, id_now n ∙ g.1, same_itself o (obj g.0) (obj_emitted g.0 n o (c_there n g.0 g.1) e));
      only = λ n g e. get_inside emitted.objects n (c_short n g (sym (id_now n) ∙ e));
      news = λ n g none e. ⊎_elim
          (λ h. absurd (not_none h none))
          (λ h. let is = h.1.is in (owner_new g (omega (arith, is)), λ i. nobody i g (omega (arith, is))))
          (id_cases n g (sym (id_now n) ∙ e));
      unsaid = λ i n g e none. ap (λ q. object_by q (k.object g)) (sym (number_now g) ∙ none);
    };
    receives = record {
      known = λ n o e.
          let r = table_gets size 0 n o e in
          let g = j_some n r.0 in
          let zero_is : 0 + n ≡ n = omega arith in
          let is : o ≡ received_object (Some g.0) = r.1 ∙ ap (λ q. received_object (j_id E q)) zero_is
          ∙ ap received_object g.1 in (
            g.0,
            id_j n
                ∙ g.1,
            record {
              owner = tt;
              kind = ap (λ (q : Object). q.kind) is;
              size = ap (λ (q : Object). q.size)
                  is;
              contents = ap (λ (q : Object). q.contents) is;
            },
            subst
                (λ (q : Object). OwnerFits j (owned g.0) q.owner) (sym is) (fits g.0),
          );
      only = λ n g e. let less = j_short n g (sym (id_j n) ∙ e) in let l =
          table_length size 0 in get_inside (table size 0) n (omega (arith, less, l));
      news = λ n g none e. ⊎_elim (λ h. absurd (not_none h none))
          (λ h. let m = so.are.emitted_so (n - b) g h.1 in (m.0, id_now m.0 ∙ m.1)) (j_cases n g (sym (id_j n) ∙ e));
    };
    share = refl;
    values = renumbered_same (number_in E) (renumber k' now j) number_is emitted.values so.ys
        (so.same E so.are (λ n g e. e));
    counted = let zero_more : b ≡ b + 0 = omega arith in ap (λ m. numbered m so.ys) zero_more ∙ so.counted
        ∙ ap Some (sym (table_length size 0));
  }
    where
      c_short : (n g : ℕ) → c_id n ≡ Some g → n < total
      c_short n g e = ⊎_elim (λ h. let o = sound.only_seen now n g h in let s = got_short (seen now) n o.0 o.1 in
          let l = leaves_longer (seen now) emitted.objects leaves in omega (arith, s, l)) (λ h. h.1.within)
          (id_cases n g e)

      c_below : (n g : ℕ) → c_id n ≡ Some g → g < k.count + total
      c_below n g e = ⊎_elim (λ h. let s = sound.below now n g h in omega (arith, s))
          (λ h. let w = h.1.within in let is = h.1.is in omega (arith, w, is)) (id_cases n g e)

      j_below : (n g : ℕ) → j_id E n ≡ Some g → g < k.count + total
      j_below n g e = ⊎_elim (λ h. let s = sound.below j n g h in omega (arith, s))
          (λ h. let m = so.are.emitted_so (n - b) g h.1 in c_below m.0 g m.1) (j_cases n g e)

      nobody : (i g : ℕ) → k.count ≤ g → k.number i g ≡ None
      nobody i g more =
          ⊎_elim (λ h. let s = sound.below i h.0 g (sound.numbers.back i h.0 g h.1) in absurd (omega (arith, s, more)))
          (λ h. h) (some_or_none (k.number i g))

  pub received_exists : (received : Crossing) × (k' : Known)
      × Exchanged k seen (record { from = now; to = j; emitted = emitted; received = received }) k'
      × (k'.callers ≡ callers)
  received_exists = (received, k', exchanged_so, refl)
