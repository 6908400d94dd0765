-- What can be shown has a label, and what has a label can be shown.
use Rattle.std.proofs.Common.{◌≡◌, ℕ, zero, suc, ◌+◌, ◌-◌, ◌≤◌, List, [], ◌∷◌, ◌++◌, length, Bool, true, false, ◌&&◌, if◌then◌else◌, nat_eq, nat_lt, nat_le, slice_get, Option, Some, None, refl, sym, ap, ◌∙◌, subst, arith, eqb-true, leb-true, le-leb, lt-ltb}
use Rattle.std.proofs.lemmas.Bool.Decides.{nat_tests}
use Rattle.std.proofs.lemmas.Option.{slice_get_within}
use Rattle.cas_runs.specs.Label.{NameBytes, Shown, Word, Place}
use Rattle.cas_runs.specs.Machine.{Names}
use Rattle.cas_runs.specs.Naming.{Home, Own, Theirs, Value, Number, Pointer, Hidden, Part, Layout, parts_at, Named, Naming, same_home, same_part, is_it, one_later, number_of, is_place, part_by, again, if_new, first_time, named_by, and_then, all_named_by, reaches, some_reaches, reached_in, can_show, can_show_all, objects_of, same_objects}
use Rattle.cas_runs.specs.Access.{Holding}
use Rattle.cas_runs.specs.Calls.{Past, if_shown, can_cross, named_as}
use Rattle.cas_runs.proofs.Tests.{and_both, both_true, eq_self, objects_from, same_objects_self}

-- The part that a place is of.

place_reaches : (p : Part) (at place : ℕ) → is_place p at place ≡ true → reaches p at ≡ true
place_reaches p at place e =
    let h = and_both (nat_eq at (p.from + place)) (nat_le place p.size) e in
    let there = eqb-true at (p.from + place) h.0 in
    let within = leb-true place p.size h.1 in
    both_true _ _ (le-leb p.from at (omega (arith, there))) (le-leb at (p.from + p.size) (omega (arith, there, within)))

reached_place : (p : Part) (at : ℕ) → reaches p at ≡ true → is_place p at (at - p.from) ≡ true
reached_place p at e =
    let h = and_both (nat_le p.from at) (nat_le at (p.from + p.size)) e in
    let from = leb-true p.from at h.0 in
    let upto = leb-true at (p.from + p.size) h.1 in
    let there : at ≡ p.from + (at - p.from) = omega (arith, from) in
    let within : at - p.from ≤ p.size = omega (arith, from, upto) in
    both_true _ _ (subst (λ n. nat_eq at n ≡ true) there (eq_self at)) (le-leb (at - p.from) p.size within)

pub record PartAt (ps : List Part) (at : ℕ) : Type 0 where
  pub place : ℕ
  pub part : Part
  pub found : part_by ps at place ≡ Some part
  pub is : is_place part at place ≡ true

part_first : (p : Part) (ps : List Part) (at place : ℕ) → is_place p at place ≡ true →
    part_by (p ∷ ps) at place ≡ Some p
part_first p ps at place e = ap (λ (t : Bool). if t then Some p else part_by ps at place) e

part_later : (p : Part) (ps : List Part) (at place : ℕ) (q : Part) → part_by ps at place ≡ Some q →
    is_place q at place ≡ true → (t : Bool) → is_place p at place ≡ t → PartAt (p ∷ ps) at
part_later p ps at place q e f true h = record { place = place; part = p; found = part_first p ps at place h; is = h }
part_later p ps at place q e f false h =
    record {
      place = place;
      part = q;
      found = ap (λ (t : Bool). if t then Some p else part_by ps at place) h
          ∙ e;
      is = f;
    }

pub part_reached : (ps : List Part) (at : ℕ) → some_reaches ps at ≡ true → PartAt ps at
part_reached [] at e = absurd (cc e)
part_reached (p ∷ ps) at e = by (λ h. part_reached ps at h) (reaches p at) refl e
  where
    by : (some_reaches ps at ≡ true → PartAt ps at) → (t : Bool) → reaches p at ≡ t →
        (if t then true else some_reaches ps at) ≡ true → PartAt (p ∷ ps) at
    by rest true h k =
        record {
          place = at - p.from;
          part = p;
          found = part_first p ps at (at - p.from) (reached_place p at h);
          is =
              reached_place p at h;
        }
    by rest false h k = let q = rest k in part_later p ps at q.place q.part q.found q.is (is_place p at q.place) refl

pub reached_by : (ps : List Part) (at place : ℕ) (q : Part) → part_by ps at place ≡ Some q → some_reaches ps at ≡ true
reached_by [] at place q e = absurd (cc e)
reached_by (p ∷ ps) at place q e = by (λ h. reached_by ps at place q h) (is_place p at place) refl e
  where
    either : (t : Bool) → some_reaches ps at ≡ true → (if t then true else some_reaches ps at) ≡ true
    either true r = refl
    either false r = r

    by : (part_by ps at place ≡ Some q → some_reaches ps at ≡ true) → (t : Bool) → is_place p at place ≡ t →
        (if t then Some p else part_by ps at place) ≡ Some q →
        (if reaches p at then true else some_reaches ps at) ≡ true
    by rest true h k = ap (λ (t : Bool). if t then true else some_reaches ps at) (place_reaches p at place h)
    by rest false h k = either (reaches p at) (rest k)

-- The number of a part.

record Numbered (ns : Naming) (home : Home) (part : Part) (k : ℕ) : Type 0 where
  it : Named
  there : slice_get ns k ≡ Some it
  is : is_it home part it ≡ true

numbered : (ns : Naming) (home : Home) (part : Part) (k : ℕ) → number_of ns home part ≡ Some k → Numbered ns home part k
numbered [] home part k e = absurd (cc e)
numbered (n ∷ ns) home part k e = by (λ j h. numbered ns home part j h) (is_it home part n) refl e
  where
    later : ((j : ℕ) → number_of ns home part ≡ Some j → Numbered ns home part j) → (o : Option ℕ) →
        number_of ns home part ≡ o → one_later o ≡ Some k → Numbered (n ∷ ns) home part k
    later more None f g = absurd (cc g)
    later more (Some j) f g =
        let rest = more j f in
        let next : j + 1 ≡ k = cc g in
        let same : suc j ≡ k = omega (arith, next) in
        record { it = rest.it; there = subst (λ i. slice_get (n ∷ ns) i ≡ Some rest.it) same rest.there; is = rest.is }

    by : ((j : ℕ) → number_of ns home part ≡ Some j → Numbered ns home part j) → (t : Bool) → is_it home part n ≡ t →
        (if t then Some 0 else one_later (number_of ns home part)) ≡ Some k → Numbered (n ∷ ns) home part k
    by more true h g =
        let same : 0 ≡ k = cc g in
        record { it = n; there = subst (λ i. slice_get (n ∷ ns) i ≡ Some n) same refl; is = h }
    by more false h g = later more (number_of ns home part) refl g

-- the part under a number has the places that the part has
same_place : (p q : Part) (at place : ℕ) → same_part p q ≡ true → is_place q at place ≡ true →
    is_place p at place ≡ true
same_place p q at place e f =
    let front = and_both (nat_eq p.from q.from && nat_eq p.size q.size) _ e in
    let both = and_both (nat_eq p.from q.from) (nat_eq p.size q.size) front.0 in
    let from : p.from ≡ q.from = eqb-true p.from q.from both.0 in
    let size : p.size ≡ q.size = eqb-true p.size q.size both.1 in
    subst (λ n. (nat_eq at (n + place) && nat_le place p.size) ≡ true) (sym from)
    (subst (λ n. (nat_eq at (q.from + place) && nat_le place n) ≡ true) (sym size) f)

-- A pointer that can be shown.

record ShownAs (parts : Home → List Part) (ns : Naming) (v : Value) : Type 0 where
  shown : Shown
  naming : Naming
  named : named_by parts ns v shown ≡ Some naming

shown_again : (parts : Home → List Part) (ns : Naming) (home : Home) (at place k : ℕ) (n : Named) →
    slice_get ns k ≡ Some n → same_home n.home home ≡ true → is_place n.part at place ≡ true →
    named_by parts ns (Pointer home at) (Place k place) ≡ Some ns
shown_again parts ns home at place k n e f g =
    let within = slice_get_within ns k n e in
    ap (λ (t : Bool). if t then again (slice_get ns k) ns home at place else
    (if nat_eq k (length ns) then first_time (part_by (parts home) at place) ns home else None))
    (lt-ltb k (length ns) within)
    ∙ ap (λ (o : Option Named). again o ns home at place) e
    ∙ ap (λ (t : Bool). if t then Some ns else None) (both_true _ _ f g)

shown_first : (parts : Home → List Part) (ns : Naming) (f : NameBytes) (a b : ℕ) (at place : ℕ) (p : Part) →
    part_by (parts (Own f a b)) at place ≡ Some p → number_of ns (Own f a b) p ≡ None →
    named_by parts ns (Pointer (Own f a b) at) (Place (length ns) place) ≡ Some
    (ns ++ record { home = Own f a b; part = p } ∷ [])
shown_first parts ns f a b at place p e i =
    let not_less : nat_lt (length ns) (length ns) ≡ false = grind (arith, nat_tests) in
    ap (λ (t : Bool). if t then again (slice_get ns (length ns)) ns (Own f a b) at place else
    (if nat_eq (length ns) (length ns) then first_time (part_by (parts (Own f a b)) at place) ns
    (Own f a b) else None)) not_less
    ∙ ap (λ (t : Bool). if t then first_time (part_by (parts (Own f a b)) at place) ns (Own f a b) else None)
    (eq_self (length ns))
    ∙ ap (λ (o : Option Part). first_time o ns (Own f a b)) e
    ∙ ap (λ (o : Option ℕ). if_new o ns (record { home = Own f a b; part = p })) i

shown_part : (parts : Home → List Part) (ns : Naming) (f : NameBytes) (a b : ℕ) (at place : ℕ) (p : Part) →
    part_by (parts (Own f a b)) at place ≡ Some p → is_place p at place ≡ true → (o : Option ℕ) →
    number_of ns (Own f a b) p ≡ o → ShownAs parts ns (Pointer (Own f a b) at)
shown_part parts ns f a b at place p e i None g = record {
  shown = Place (length ns) place;
  naming = ns ++ record { home = Own f a b; part = p } ∷ [];
  named =
      shown_first parts ns f a b at place p e g;
}
shown_part parts ns f a b at place p e i (Some k) g =
    let n = numbered ns (Own f a b) p k g in
    let is = and_both (same_home n.it.home (Own f a b)) (same_part n.it.part p) n.is in
    record {
      shown = Place k place;
      naming = ns;
      named = shown_again parts ns (Own f a b) at place k n.it n.there is.0
          (same_place n.it.part p at place is.1 i);
    }

shown_theirs : (parts : Home → List Part) (ns : Naming) (k at : ℕ) (o : Option Named) → slice_get ns k ≡ o →
    reached_in o (Theirs k) at ≡ true → ShownAs parts ns (Pointer (Theirs k) at)
shown_theirs parts ns k at None e f = absurd (cc f)
shown_theirs parts ns k at (Some n) e f =
    let is = and_both (same_home n.home (Theirs k)) (reaches n.part at) f in
    record {
      shown = Place k (at - n.part.from);
      naming = ns;
      named = shown_again parts ns (Theirs k) at
          (at - n.part.from) k n e is.0 (reached_place n.part at is.1);
    }

shown_as : (parts : Home → List Part) (ns : Naming) (v : Value) → can_show parts ns v ≡ true → ShownAs parts ns v
shown_as parts ns (Number w) e =
    record { shown = Word w; naming = ns; named = ap (λ (t : Bool). if t then Some ns else None) (eq_self w) }
shown_as parts ns (Hidden what) e = absurd (cc e)
shown_as parts ns (Pointer (Own f a b) at) e = let p =
    part_reached (parts (Own f a b)) at e in shown_part parts ns f a b at p.place p.part p.found p.is
    (number_of ns (Own f a b) p.part) refl
shown_as parts ns (Pointer (Theirs k) at) e = shown_theirs parts ns k at (slice_get ns k) refl e

-- What a naming grows by is the unit's own.

pub data Grows (ns : Naming) : Naming → Type 0 where
  same : Grows ns ns
  own : (function : NameBytes) (activation block : ℕ) (part : Part) →
      number_of ns (Own function activation block) part ≡ None →
      Grows ns (ns ++ record { home = Own function activation block; part = part } ∷ [])

grown : (ns ms ks : Naming) → Grows ns ms → ms ≡ ks → Grows ns ks
grown ns ms ks h e = subst (λ v. Grows ns v) e h

grows_again : (o : Option Named) (ns : Naming) (home : Home) (at place : ℕ) (ms : Naming) →
    again o ns home at place ≡ Some ms → Grows ns ms
grows_again None ns home at place ms e = absurd (cc e)
grows_again (Some n) ns home at place ms e = by (same_home n.home home && is_place n.part at place) e
  where
    by : (t : Bool) → (if t then Some ns else None) ≡ Some ms → Grows ns ms
    by true f = grown ns ns ms same (cc f)
    by false f = absurd (cc f)

grows_first : (parts : Home → List Part) (ns : Naming) (home : Home) (at place : ℕ) (ms : Naming) →
    first_time (part_by (parts home) at place) ns home ≡ Some ms → Grows ns ms
grows_first parts ns (Theirs k) at place ms e = none (part_by (parts (Theirs k)) at place) e
  where
    none : (o : Option Part) → first_time o ns (Theirs k) ≡ Some ms → Grows ns ms
    none None g = absurd (cc g)
    none (Some p) g = absurd (cc g)
grows_first parts ns (Own f a b) at place ms e = by (part_by (parts (Own f a b)) at place) e
  where
    new : (p : Part) (o : Option ℕ) → number_of ns (Own f a b) p ≡ o →
        if_new o ns (record { home = Own f a b; part = p }) ≡ Some ms → Grows ns ms
    new p None i g = grown ns _ ms (own f a b p i) (cc g)
    new p (Some k) i g = absurd (cc g)

    by : (o : Option Part) → first_time o ns (Own f a b) ≡ Some ms → Grows ns ms
    by None g = absurd (cc g)
    by (Some p) g = new p (number_of ns (Own f a b) p) refl g

pub grows : (parts : Home → List Part) (ns : Naming) (v : Value) (x : Shown) (ms : Naming) →
    named_by parts ns v x ≡ Some ms → Grows ns ms
grows parts ns (Number v) (Word w) ms e = by (nat_eq v w) e
  where
    by : (t : Bool) → (if t then Some ns else None) ≡ Some ms → Grows ns ms
    by true f = grown ns ns ms same (cc f)
    by false f = absurd (cc f)
grows parts ns (Number v) (Place k place) ms e = absurd (cc e)
grows parts ns (Pointer home at) (Word w) ms e = absurd (cc e)
grows parts ns (Hidden what) (Word w) ms e = absurd (cc e)
grows parts ns (Hidden what) (Place k place) ms e = absurd (cc e)
grows parts ns (Pointer home at) (Place k place) ms e = by (nat_lt k (length ns)) (nat_eq k (length ns)) e
  where
    by : (t u : Bool) →
        (if t then again (slice_get ns k) ns home at place else
        (if u then first_time (part_by (parts home) at place) ns home else None)) ≡ Some ms → Grows ns ms
    by true u f = grows_again (slice_get ns k) ns home at place ms f
    by false true f = grows_first parts ns home at place ms f
    by false false f = absurd (cc f)

reached_longer : (ns : Naming) (f : NameBytes) (a b : ℕ) (part : Part) (i k at : ℕ) →
    reached_in (slice_get (ns ++ record { home = Own f a b; part = part } ∷ []) i) (Theirs k) at ≡ reached_in
    (slice_get ns i) (Theirs k) at
reached_longer [] f a b part zero k at = refl
reached_longer [] f a b part (suc i) k at = refl
reached_longer (n ∷ ns) f a b part zero k at = refl
reached_longer (n ∷ ns) f a b part (suc i) k at = reached_longer ns f a b part i k at

shows_longer : (parts : Home → List Part) (ns : Naming) (w : Value) {ms : Naming} → Grows ns ms →
    can_show parts ms w ≡ can_show parts ns w
shows_longer parts ns (Number w) g = refl
shows_longer parts ns (Hidden what) g = refl
shows_longer parts ns (Pointer (Own f a b) at) g = refl
shows_longer parts ns (Pointer (Theirs k) at) same = refl
shows_longer parts ns (Pointer (Theirs k) at) (own f a b part new) = reached_longer ns f a b part k k at

show_all_longer : (parts : Home → List Part) (ns ms : Naming) → Grows ns ms → (ws : List Value) →
    can_show_all parts ms ws ≡ can_show_all parts ns ws
show_all_longer parts ns ms g [] = refl
show_all_longer parts ns ms g (w ∷ ws) =
    ap (λ (t : Bool). if t then can_show_all parts ms ws else false) (shows_longer parts ns w g)
    ∙ ap (λ (t : Bool). if can_show parts ns w then t else false) (show_all_longer parts ns ms g ws)

record AllShownAs (parts : Home → List Part) (ns : Naming) (vs : List Value) : Type 0 where
  shown : List Shown
  naming : Naming
  named : all_named_by parts ns vs shown ≡ Some naming

all_shown : (parts : Home → List Part) (ns : Naming) (vs : List Value) → can_show_all parts ns vs ≡ true →
    AllShownAs parts ns vs
all_shown parts ns [] e = record { shown = []; naming = ns; named = refl }
all_shown parts ns (v ∷ vs) e = by (λ ms h. all_shown parts ms vs h) (can_show parts ns v) refl e
  where
    by : ((ms : Naming) → can_show_all parts ms vs ≡ true → AllShownAs parts ms vs) → (t : Bool) →
        can_show parts ns v ≡ t → (if t then can_show_all parts ns vs else false) ≡ true → AllShownAs parts ns (v ∷ vs)
    by more true f g =
        let x = shown_as parts ns v f in
        let rest = more x.naming (show_all_longer parts ns x.naming (grows parts ns v x.shown x.naming x.named) vs ∙ g)
        in
        record {
          shown = x.shown ∷ rest.shown;
          naming = rest.naming;
          named = ap
              (λ (o : Option Naming). and_then o (λ ms. all_named_by parts ms vs rest.shown)) x.named ∙ rest.named;
        }
    by more false f g = absurd (cc g)

-- what can be shown has names
pub record SomeNames (layout : Layout) (values : List Value) (past : Past) (h : Holding) : Type 0 where
  pub names : Names
  pub naming : Naming
  pub named : named_as layout values past h names ≡ Some naming

pub some_names : (layout : Layout) (values : List Value) (past : Past) (h : Holding) →
    can_cross layout past values ≡ true → SomeNames layout values past h
some_names layout values past h e =
    let x = all_shown (parts_at layout past.begun) past.naming values e in
    let names : Names = record { values = x.shown; objects = objects_of h.memory x.naming } in
    record {
      names = names;
      naming = x.naming;
      named = ap
          (λ (o : Option Naming). and_then o (λ ns. if_shown (same_objects (objects_of h.memory ns) names.objects) ns))
          x.named
          ∙ ap (λ (t : Bool). if_shown t x.naming) (same_objects_self names.objects);
    }

-- what values and objects are named so
pub record NamedSo (layout : Layout) (values : List Value) (past : Past) (h : Holding) (names : Names)
    (ns : Naming) : Type 0 where
  pub values_named : all_named_by (parts_at layout past.begun) past.naming values names.values ≡ Some ns
  pub objects : objects_of h.memory ns ≡ names.objects

pub named_so : (layout : Layout) (values : List Value) (past : Past) (h : Holding) (names : Names) (ns : Naming) →
    named_as layout values past h names ≡ Some ns → NamedSo layout values past h names ns
named_so layout values past h names ns e =
    named (all_named_by (parts_at layout past.begun) past.naming values names.values) refl e
  where
    shown : (ms : Naming) → all_named_by (parts_at layout past.begun) past.naming values names.values ≡ Some ms →
        (t : Bool) → same_objects (objects_of h.memory ms) names.objects ≡ t → if_shown t ms ≡ Some ns →
        NamedSo layout values past h names ns
    shown ms i true is f =
        let same : ms ≡ ns = cc f in
        subst (λ v. NamedSo layout values past h names v) same
        (record { values_named = i; objects = objects_from (objects_of h.memory ms) names.objects is })
    shown ms i false is f = absurd (cc f)

    named : (o : Option Naming) → all_named_by (parts_at layout past.begun) past.naming values names.values ≡ o →
        and_then o (λ v. if_shown (same_objects (objects_of h.memory v) names.objects) v) ≡ Some ns →
        NamedSo layout values past h names ns
    named None i f = absurd (cc f)
    named (Some ms) i f = shown ms i (same_objects (objects_of h.memory ms) names.objects) refl f

-- and so they are named
pub so_named : (layout : Layout) (values : List Value) (past : Past) (h : Holding) (names : Names) (ns : Naming) →
    NamedSo layout values past h names ns → named_as layout values past h names ≡ Some ns
so_named layout values past h names ns s =
    ap (λ (o : Option Naming). and_then o (λ v. if_shown (same_objects (objects_of h.memory v) names.objects) v))
    s.values_named
    ∙ ap (λ os. if_shown (same_objects os names.objects) ns) s.objects
    ∙ ap (λ (t : Bool). if_shown t ns) (same_objects_self names.objects)
