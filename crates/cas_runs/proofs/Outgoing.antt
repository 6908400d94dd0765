-- What goes out: the objects that cross for the first time take the next numbers, and a unit calls over its edge only
-- what isn't inside.
use Rattle.std.proofs.Common.{◌≡◌, ℕ, ◌+◌, List, [], ◌∷◌, ◌++◌, Option, Some, None, Bool, true, false, ◌&&◌, if◌then◌else◌, length, nat_eq, nat_lt, slice_get, refl, sym, ap, ◌∙◌, subst, arith}
use Rattle.cas_runs.specs.Label.{NameBytes, same_name, Shown, Word, Place, Object}
use Rattle.cas_runs.specs.Edge.{Signature, signature_of}
use Rattle.cas_runs.specs.Outside.{numbered}
use Rattle.cas_runs.specs.Naming.{Home, Own, Theirs, Value, Number, Pointer, Hidden, Part, Layout, Named, Naming, Memory, number_of, is_place, part_by, again, if_new, first_time, named_by, and_then, all_named_by, same_home, objects_of}
use Rattle.cas_runs.specs.Machine.{Act, Crosses, Machine}
use Rattle.cas_runs.specs.Rules.{CallsOut}
use Rattle.cas_runs.specs.Access.{Holding, words_in, with_lock, without_lock}
use Rattle.cas_runs.specs.Unit.{Setting, guard_of, has_function, OnlyInside}
use Rattle.cas_runs.specs.Calls.{Last, Goes, Takes, Gives, Puts, Calls, Tails, Returns, Activations, Frame, Waits, Outer, Past, Thread, Away, Runs, Leaves, Over, Wrong, can_cross, named_as, to_outside, crosses_if, kept_results, leaves_with, goes_back, returns, with_share, takes_lock, takes, gives_lock, gives, find, without_own, calls_in, step_at, calls, acts, machine, of_unit, outside_first, language}
use Rattle.cas_runs.specs.Edge.{results_of}
use Rattle.cas_runs.proofs.Tests.{same_name_from}
use Rattle.cas_runs.proofs.Objects.{ShowsAll}

-- The numbers.

one_longer : (ns : Naming) (n : Named) → length (ns ++ n ∷ []) ≡ length ns + 1
one_longer [] n = refl
one_longer (x ∷ ns) n = let rest = one_longer ns n in omega (arith, rest)

again_same : (o : Option Named) (ns : Naming) (home : Home) (at pl : ℕ) (ms : Naming) →
    again o ns home at pl ≡ Some ms → ns ≡ ms
again_same None ns home at pl ms e = absurd (cc e)
again_same (Some n) ns home at pl ms e = by (same_home n.home home && is_place n.part at pl) e
  where
    by : (t : Bool) → (if t then Some ns else None) ≡ Some ms → ns ≡ ms
    by true g = cc g
    by false g = absurd (cc g)

new_longer : (o : Option ℕ) (ns : Naming) (n : Named) (ms : Naming) → if_new o ns n ≡ Some ms →
    length ms ≡ length ns + 1
new_longer None ns n ms e = let same : ns ++ n ∷ [] ≡ ms = cc e in ap (λ (v : Naming). length v) (sym same)
    ∙ one_longer ns n
new_longer (Some k) ns n ms e = absurd (cc e)

first_longer : (o : Option Part) (ns : Naming) (home : Home) (ms : Naming) → first_time o ns home ≡ Some ms →
    length ms ≡ length ns + 1
first_longer None ns home ms e = absurd (cc e)
first_longer (Some part) ns (Theirs k) ms e = absurd (cc e)
first_longer (Some part) ns (Own f a b) ms e = new_longer (number_of ns (Own f a b) part) ns
    (record { home = Own f a b; part = part }) ms e

one_count : (parts : Home → List Part) (ns : Naming) (v : Value) (x : Shown) (ms : Naming) (xs : List Shown) →
    named_by parts ns v x ≡ Some ms → numbered (length ns) (x ∷ xs) ≡ numbered (length ms) xs
one_count parts ns (Number v) (Word w) ms xs e = by (nat_eq v w) e
  where
    by : (t : Bool) → (if t then Some ns else None) ≡ Some ms → numbered (length ns) xs ≡ numbered (length ms) xs
    by true g = let same : ns ≡ ms = cc g in ap (λ (m : Naming). numbered (length m) xs) same
    by false g = absurd (cc g)
one_count parts ns (Number v) (Place k pl) ms xs e = absurd (cc e)
one_count parts ns (Pointer home at) (Word w) ms xs e = absurd (cc e)
one_count parts ns (Hidden what) (Word w) ms xs e = absurd (cc e)
one_count parts ns (Hidden what) (Place k pl) ms xs e = absurd (cc e)
one_count parts ns (Pointer home at) (Place k pl) ms xs e = by (nat_lt k (length ns)) (nat_eq k (length ns)) e
  where
    by : (s t : Bool) →
        (if s then again (slice_get ns k) ns home at pl else if t then first_time (part_by (parts home) at pl)
        ns home else None) ≡ Some ms →
        (if s then numbered (length ns) xs else if t then numbered (length ns + 1) xs else None) ≡ numbered
        (length ms) xs
    by true t g = ap (λ (m : Naming). numbered (length m) xs) (again_same (slice_get ns k) ns home at pl ms g)
    by false true g = ap (λ n. numbered n xs) (sym (first_longer (part_by (parts home) at pl) ns home ms g))
    by false false g = absurd (cc g)

pub all_count : (parts : Home → List Part) (vs : List Value) (xs : List Shown) (ns ms : Naming) →
    all_named_by parts ns vs xs ≡ Some ms → numbered (length ns) xs ≡ Some (length ms)
all_count parts [] [] ns ms e = let same : ns ≡ ms = cc e in ap (λ (m : Naming). Some (length m)) same
all_count parts [] (x ∷ xs) ns ms e = absurd (cc e)
all_count parts (v ∷ vs) [] ns ms e = absurd (cc e)
all_count parts (v ∷ vs) (x ∷ xs) ns ms e = by (named_by parts ns v x) refl (λ ks g. all_count parts vs xs ks ms g) e
  where
    by : (o : Option Naming) → named_by parts ns v x ≡ o →
        ((ks : Naming) → all_named_by parts ks vs xs ≡ Some ms → numbered (length ks) xs ≡ Some (length ms)) →
        and_then o (λ ks. all_named_by parts ks vs xs) ≡ Some ms → numbered (length ns) (x ∷ xs) ≡ Some (length ms)
    by None i more g = absurd (cc g)
    by (Some ks) i more g = one_count parts ns v x ks xs i ∙ more ks g

pub objects_count : (memory : Memory) (ns : Naming) → length (objects_of memory ns) ≡ length ns
objects_count memory [] = refl
objects_count memory (n ∷ ns) = let rest = objects_count memory ns in omega (arith, rest)

pub shown_count : (layout : Layout) (os : List Object) (memory : Memory) (ns : Naming) → ShowsAll layout os memory ns →
    length os ≡ length ns
shown_count layout [] memory [] h = refl
shown_count layout [] memory (n ∷ ns) h = absurd h
shown_count layout (o ∷ os) memory [] h = absurd h
shown_count layout (o ∷ os) memory (n ∷ ns) h = let rest = shown_count layout os memory ns h.1 in omega (arith, rest)

-- The calls.

module _ {F A : Type 0} (l : Activations F A) (setting : Setting) (fs : List F) where
  abbrev M : Machine (Thread F A)
  M = machine l setting (of_unit fs) outside_first

  -- a Call is of a function that the unit doesn't have
  abbrev Out : Act (Thread F A) → Type 0
  Out (Crosses (Some function) share next) = has_function (language l) fs function ≡ false
  Out _ = Unit {0}

  not_there : (gs : List F) (name : NameBytes) → find l gs name ≡ None → has_function (language l) gs name ≡ false
  not_there [] name e = refl
  not_there (g ∷ gs) name e = by (same_name (l.name g) name) (λ h. not_there gs name h) e
    where
      by : (t : Bool) → (find l gs name ≡ None → has_function (language l) gs name ≡ false) →
          (if t then Some g else find l gs name) ≡ None →
          (if t then true else has_function (language l) gs name) ≡ false
      by true more h = absurd (cc h)
      by false more h = more h

  leaves_out : (values : List Value) (stack : List (Frame F A)) (p : Past) (h : Holding) (t : Bool) →
      Out (crosses_if t None h.share (λ names. to_outside stack p h (named_as setting.layout values p h names)))
  leaves_out values stack p h true = tt
  leaves_out values stack p h false = tt

  back_out : (f : F) (n : ℕ) (o : Option A) (stack : List (Frame F A)) (p : Past) (h : Holding) →
      Out (goes_back f n o stack p h)
  back_out f n None stack p h = tt
  back_out f n (Some a) stack p h = tt

  returns_out : (values : List Value) (stack : List (Frame F A)) (p : Past) (h : Holding) →
      Out (returns setting.layout values stack p h)
  returns_out values [] p h = tt
  returns_out values (Outer results ∷ stack) p h = by (kept_results results values)
    where
      by : (o : Option (List Value)) → Out (leaves_with setting.layout o stack p h)
      by None = tt
      by (Some kept) = leaves_out kept stack p h (can_cross setting.layout p kept)
  returns_out values (Waits f n results next ∷ stack) p h =
      back_out f n (and_then (kept_results results values) next) stack p h

  calls_out_of : (function : NameBytes) (values : List Value) (stack : List (Frame F A)) (p : Past) (h : Holding)
      (o : Option F) → find l fs function ≡ o → Out (calls l setting (of_unit fs) o function values stack p h)
  calls_out_of function values stack p h (Some f) e = by (l.enter f p.begun values)
    where
      by : (o : Option A) → Out (calls_in l f o stack p h)
      by None = tt
      by (Some a) = tt
  calls_out_of function values stack p h None e = by (can_cross setting.layout p values)
    where
      by : (t : Bool) →
          Out (crosses_if t (Some function) h.share
          (λ names. to_outside stack p h (named_as setting.layout values p h names)))
      by true = not_there fs function e
      by false = tt

  takes_out : (o : Option ℕ) (a : A) (f : F) (n : ℕ) (stack : List (Frame F A)) (p : Past) (h : Holding) →
      Out (takes o h (Runs f n a 0 stack p))
  takes_out None a f n stack p h = tt
  takes_out (Some k) a f n stack p h = by (words_in h.share k)
    where
      by : (o : Option (List ℕ)) →
          Out (takes_lock k o (λ ws. Runs f n a 0 stack p (with_share h (with_lock h.share k ws))))
      by None = tt
      by (Some ws) = tt

  gives_out : (o : Option ℕ) (a : A) (f : F) (n : ℕ) (stack : List (Frame F A)) (p : Past) (h : Holding) →
      Out (gives o h (Runs f n a 0 stack p))
  gives_out None a f n stack p h = tt
  gives_out (Some k) a f n stack p h = by (words_in h.share k)
    where
      by : (o : Option (List ℕ)) → Out (gives_lock k o (Runs f n a 0 stack p (with_share h (without_lock h.share k))))
      by None = tt
      by (Some ws) = tt

  acts_out : (o : Option (Last A)) (f : F) (n : ℕ) (stack : List (Frame F A)) (p : Past) (h : Holding) →
      Out (acts l setting (of_unit fs) o f n stack p h)
  acts_out None f n stack p h = tt
  acts_out (Some (Goes next)) f n stack p h = tt
  acts_out (Some (Takes lock next)) f n stack p h = takes_out (guard_of setting.edge lock) next f n stack p h
  acts_out (Some (Gives lock next)) f n stack p h = gives_out (guard_of setting.edge lock) next f n stack p h
  acts_out (Some (Puts word next)) f n stack p h = tt
  acts_out (Some (Calls function values next)) f n stack p h =
      calls_out_of function values (Waits f n (results_of setting.edge function) next ∷ stack) p h (find l fs function)
      refl
  acts_out (Some (Tails function values)) f n stack p h =
      calls_out_of function values stack p (without_own l f n h) (find l fs function) refl
  acts_out (Some (Returns values)) f n stack p h = returns_out values stack p (without_own l f n h)

  act_out : (x : Thread F A) → Out (M.act x)
  act_out (Away stack p h) = tt
  act_out (Runs f n a e stack p h) = acts_out (step_at l setting a h).last f n stack p (step_at l setting a h).holding
  act_out (Leaves values stack p h) = leaves_out values stack p h (can_cross setting.layout p values)
  act_out Over = tt
  act_out Wrong = tt

  -- what the edge says of the function
  inside_as : (test : NameBytes → Bool) (gs : List Signature) → OnlyInside test gs →
      (name : NameBytes) (f : Signature) → signature_of gs name ≡ Some f → f.inside ≡ test name
  inside_as test [] only name f e = absurd (cc e)
  inside_as test (g ∷ gs) only name f e = by (same_name g.name name) refl (λ h. inside_as test gs only.1 name f h) e
    where
      by : (t : Bool) → same_name g.name name ≡ t → (signature_of gs name ≡ Some f → f.inside ≡ test name) →
          (if t then Some g else signature_of gs name) ≡ Some f → f.inside ≡ test name
      by true i more h =
          let same : g ≡ f = cc h in
          ap (λ (v : Signature). v.inside) (sym same) ∙ only.0 ∙ ap test (same_name_from g.name name i)
      by false i more h = more h

  pub unit_calls_out : OnlyInside (has_function (language l) fs) setting.edge.functions → CallsOut setting.edge M
  unit_calls_out only ls bs b x r function share next e f known =
      let out : Out (Crosses (Some function) share next) = subst (λ (v : Act (Thread F A)). Out v) e (act_out x) in
      inside_as (has_function (language l) fs) setting.edge.functions only function f known ∙ out
