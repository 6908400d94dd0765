-- Values, pointers and places go along.
use Rattle.std.proofs.Common.{◌≡◌, ℕ, ◌+◌, ◌<◌, List, Option, Some, None, Bool, true, false, ◌||◌, not, if◌then◌else◌, length, nat_eq, nat_lt, nat_le, refl, sym, ap, ◌∙◌, subst, arith, ⊎_elim, eqb-true}
use Rattle.std.specs.Prelude.{ℤ, pos, negsuc, ◌+ℤ◌, neg_ℤ}
use Rattle.std.proofs.lemmas.Bool.Decides.{nat_tests}
use Rattle.std.proofs.lemmas.Int.{ints}
use Rattle.std.proofs.lemmas.Option.{slice_get_within}
use Rattle.cas_syntax.specs.declared.tree.BinaryOperator.{BinaryOperator}
use Rattle.cas_syntax.specs.declared.tree.BinaryOperator.TheVariants as bin
use Rattle.cas_step.specs.Operators.{number_of, is_true, truth}
use Rattle.cas_step.specs.Pointers.{distance}
use Rattle.cas_runs.specs.Label.{NameBytes}
use Rattle.cas_runs.specs.Naming.{Home, Own, Theirs, Value, Number, Pointer, Hidden, Memory, same_home, usable}
use Rattle.cas_runs.specs.Access.{Accesses, Looks, Fails, with_value, value_in, length_of}
use Rattle.cas_runs.specs.Calls.{Last}
use Rattle.cas_runs.specs.Unit.{Setting}
use Rattle.cas_runs.specs.Held.{Activation, Held, Amounts, source_looks, target_looks, fails_too}
use Rattle.cas_runs.specs.Forms.{MemoryKeeps}
use Rattle.cas_runs.specs.Passing.{Relation}
use Rattle.cas_runs.specs.Placing.{Spot, Placing, pointer_in, SameMoved, MemoryMoved, IsPlacing, bare, places}
use Rattle.cas_runs.proofs.Tests.{same_home_self, same_home_from, true_or_false}
use Rattle.cas_runs.proofs.Cells.{get_inside}
use Rattle.cas_runs.proofs.Bringing.{memory_moved}
use Rattle.cas_mid.specs.declared.tree.Binop.{Binop}
use Rattle.cas_mid.specs.declared.tree.Binop.TheVariants.{OnWords, PointerPlus, PlusPointer, PointerMinus, PointerDifference, Compare}
use Rattle.cas_mid.specs.declared.tree.CsharpFun.{CsharpFun}
use Rattle.cas_mid.specs.declared.tree.CminorFun.{CminorFun}
use Rattle.cas_mid.specs.Operators.{binary_word, place_at, on_word, on_pointer, on_truth, moved, only_if, apart, equal, ordered, compared, binary}
use Rattle.cas_mid.specs.Csharpminor.{CsharpState, csharpminor}
use Rattle.cas_mid.specs.Cminor.{CminorState, cminor}
use Rattle.cas_cminorgen.specs.Match.{placing, sizes, joined, cminorgen}

-- Where a pointer points in the target.

pub record Shift : Type 0 where
  pub home : Home
  pub offset : ℕ

abbrev pub shift_own : NameBytes → (activation : ℕ) → Option Spot → Option Shift
shift_own f a None = None
shift_own f a (Some s) = Some (record { home = Own f a s.block; offset = s.offset })

abbrev pub shift : Placing → Home → Option Shift
shift place (Own f a b) = shift_own f a (place f b)
shift place (Theirs k) = Some (record { home = Theirs k; offset = 0 })

pub record IsShifted (place : Placing) (v : Value) (home : Home) (at : ℕ) : Type 0 where
  pub to : Shift
  pub shifted : shift place home ≡ Some to
  pub value : v ≡ Pointer to.home (to.offset + at)

pub pointer_shifted : (place : Placing) (v : Value) (home : Home) (at : ℕ) → SameMoved place v (Pointer home at) →
    IsShifted place v home at
pointer_shifted place v (Theirs k) at e =
    let same : Pointer (Theirs k) at ≡ v = cc e in
    let here : at ≡ 0 + at = omega arith in
    record {
      to = record { home = Theirs k; offset = 0 };
      shifted = refl;
      value = sym same ∙ ap (λ i. Pointer (Theirs k) i) here;
    }
pointer_shifted place v (Own f a b) at e = by (place f b) refl e
  where
    by : (o : Option Spot) → place f b ≡ o → pointer_in f a o at ≡ Some v → IsShifted place v (Own f a b) at
    by None i k = absurd (cc k)
    by (Some s) i k =
        let same : Pointer (Own f a s.block) (s.offset + at) ≡ v = cc k in
        record {
          to = record { home = Own f a s.block; offset = s.offset };
          shifted = ap (λ o. shift_own f a o) i;
          value = sym same;
        }

pub shifted_pointer : (place : Placing) (home : Home) (to : Shift) → shift place home ≡ Some to → (at : ℕ) →
    SameMoved place (Pointer to.home (to.offset + at)) (Pointer home at)
shifted_pointer place (Theirs k) to e at =
    let same : record { home = Theirs k; offset = 0 } ≡ to = cc e in
    let here : at ≡ 0 + at = omega arith in
    subst (λ (x : Shift). SameMoved place (Pointer x.home (x.offset + at)) (Pointer (Theirs k) at)) same
    (ap (λ i. Some (Pointer (Theirs k) i)) here)
shifted_pointer place (Own f a b) to e at = by (place f b) refl e
  where
    by : (o : Option Spot) → place f b ≡ o → shift_own f a o ≡ Some to →
        pointer_in f a (place f b) at ≡ Some (Pointer to.home (to.offset + at))
    by None i k = absurd (cc k)
    by (Some s) i k =
        let same : record { home = Own f a s.block; offset = s.offset } ≡ to = cc k in
        ap (λ o. pointer_in f a o at) i
        ∙ ap (λ (x : Shift). Some (Pointer x.home (x.offset + at))) same

-- Numbers of places.

pub eq_shifted : (o p r : ℕ) → nat_eq (o + p) (o + r) ≡ nat_eq p r
eq_shifted o p r = grind (arith, nat_tests)

pub lt_shifted : (o p r : ℕ) → nat_lt (o + p) (o + r) ≡ nat_lt p r
lt_shifted o p r = grind (arith, nat_tests)

pub le_shifted : (o p r : ℕ) → nat_le (o + p) (o + r) ≡ nat_le p r
le_shifted o p r = grind (arith, nat_tests)

-- the distance is that of the places in the object
pub distance_shifted : (o p r : ℕ) → distance (o + p) (o + r) ≡ distance p r
distance_shifted o p r = omega (arith, ints)

pos_shifted : (o p q : ℕ) (i : ℤ) → pos p +ℤ i ≡ pos q → pos (o + p) +ℤ i ≡ pos (o + q)
pos_shifted o p q i e = omega (arith, ints, e)

module _ (setting : Setting) (ts : List CminorFun) (ss : List CsharpFun) (made : CminorFun → CsharpFun → Type 0)
    (is : IsPlacing cminor csharpminor made (record { place = placing ss; sizes = sizes ss })
    (joined ss setting.layout) setting.layout) where
  abbrev pub R : Relation CminorFun CminorState CsharpFun CsharpState
  R = bare cminorgen setting ts ss made

  abbrev pub W : Held CminorFun CminorState CsharpFun CsharpState
  W = places cminorgen setting ts ss

  abbrev pub Same : Value → Value → Type 0
  Same = SameMoved (placing ss)

  abbrev pub Moves : Memory → Memory → Type 0
  Moves = MemoryMoved (placing ss) (sizes ss)

  abbrev pub T : Type 0
  T = Accesses (Last CminorState)

  abbrev pub U : Type 0
  U = Accesses (Last CsharpState)

  pub memory_keeps : MemoryKeeps Same (λ n m. Unit {0}) Moves
  memory_keeps = memory_moved cminor csharpminor setting (joined ss setting.layout) ts ss made (placing ss) (sizes ss)
      (λ f g n x y. Unit {0}) is

  -- a place in a block is one in the target's
  pub record IsInside (t : Memory) (to : Shift) (p : ℕ) : Type 0 where
    pub block : List Value
    pub there : t to.home ≡ Some block
    pub within : to.offset + p < length block

  pub inside : (t s : Memory) → Moves t s → (home : Home) (to : Shift) → shift (placing ss) home ≡ Some to →
      (ws : List Value) → s home ≡ Some ws → (p : ℕ) → p < length ws → IsInside t to p
  inside t s m home to e ws f p less =
      let old = get_inside ws p less in
      let here : value_in (s home) p ≡ Some old.0 = ap (λ o. value_in o p) f ∙ old.1 in
      let found = memory_keeps.loads t s m to.home home (to.offset + p) p
      (shifted_pointer (placing ss) home to e p) old.0 here in
      by (t to.home) refl found.0 found.1
    where
      by : (o : Option (List Value)) → t to.home ≡ o → (v : Value) → value_in o (to.offset + p) ≡ Some v →
          IsInside t to p
      by None i v g = absurd (cc g)
      by (Some vs) i v g =
          record { block = vs; there = i; within = slice_get_within vs (to.offset + p) v g }

  -- places in different blocks of the source are different places
  different : (t s : Memory) → Moves t s → (a b : Home) → (a ≡ b → ⊥) → (to to' : Shift) →
      shift (placing ss) a ≡ Some to → shift (placing ss) b ≡ Some to' → to.home ≡ to'.home →
      (ws ws' : List Value) → s a ≡ Some ws → s b ≡ Some ws' → (p r : ℕ) → p < length ws → r < length ws' →
      to.offset + p ≡ to'.offset + r → ⊥
  different t s m (Theirs j) (Theirs k) d to to' e e' same ws ws' f f' p r less less' g =
      let one : record { home = Theirs j; offset = 0 } ≡ to = cc e in
      let two : record { home = Theirs k; offset = 0 } ≡ to' = cc e' in
      d (ap (λ (x : Shift). x.home) one ∙ same ∙ sym (ap (λ (x : Shift). x.home) two))
  different t s m (Theirs j) (Own f2 a2 b2) d to to' e e' same ws ws' f f' p r less less' g =
      let one : record { home = Theirs j; offset = 0 } ≡ to = cc e in
      by (placing ss f2 b2) e' (ap (λ (x : Shift). x.home) one ∙ same)
    where
      by : (o : Option Spot) → shift_own f2 a2 o ≡ Some to' → Theirs j ≡ to'.home → ⊥
      by None i h = cc i
      by (Some q) i h =
          let two : record { home = Own f2 a2 q.block; offset = q.offset } ≡ to' = cc i in
          let homes : Theirs j ≡ Own f2 a2 q.block = h ∙ sym (ap (λ (x : Shift). x.home) two) in
          cc homes
  different t s m (Own f1 a1 b1) (Theirs k) d to to' e e' same ws ws' f f' p r less less' g =
      let two : record { home = Theirs k; offset = 0 } ≡ to' = cc e' in
      by (placing ss f1 b1) e (same ∙ sym (ap (λ (x : Shift). x.home) two))
    where
      by : (o : Option Spot) → shift_own f1 a1 o ≡ Some to → to.home ≡ Theirs k → ⊥
      by None i h = cc i
      by (Some q) i h =
          let one : record { home = Own f1 a1 q.block; offset = q.offset } ≡ to = cc i in
          let homes : Own f1 a1 q.block ≡ Theirs k = ap (λ (x : Shift). x.home) one ∙ h in
          cc homes
  different t s m (Own f1 a1 b1) (Own f2 a2 b2) d to to' e e' same ws ws' f f' p r less less' g =
      by (placing ss f1 b1) (placing ss f2 b2) refl refl e e'
    where
      apart_so : (q q' : Spot) → placing ss f1 b1 ≡ Some q → placing ss f2 b2 ≡ Some q' → f1 ≡ f2 → a1 ≡ a2 →
          q.block ≡ q'.block → q.offset + p ≡ q'.offset + r → ⊥
      apart_so q q' i i' names serials blocks at =
          let here : placing ss f1 b2 ≡ Some q' = subst (λ n. placing ss n b2 ≡ Some q') (sym names) i' in
          let there : s (Own f1 a1 b2) ≡ Some ws' =
          subst (λ n. s (Own n a1 b2) ≡ Some ws') (sym names)
          (subst (λ n. s (Own f2 n b2) ≡ Some ws') (sym serials) f') in
          let size = m.have_sizes f1 a1 b1 ws f in
          let size' = m.have_sizes f1 a1 b2 ws' there in
          ⊎_elim (λ (one : b1 ≡ b2). d (ap (λ n. Own f1 a1 n) one ∙ ap (λ n. Own f1 n b2) serials
          ∙ ap (λ n. Own n a2 b2) names))
          (λ ranges. ⊎_elim (λ before. omega (arith, before, at, less, size)) (λ after. omega (
            arith,
            after,
            at,
            less',
            size',
          )) ranges)
          (is.apart f1 b1 b2 q q' i here blocks)

      by : (o o' : Option Spot) → placing ss f1 b1 ≡ o → placing ss f2 b2 ≡ o' → shift_own f1 a1 o ≡ Some to →
          shift_own f2 a2 o' ≡ Some to' → ⊥
      by None o' i i' h h' = cc h
      by (Some q) None i i' h h' = cc h'
      by (Some q) (Some q') i i' h h' =
          let one : record { home = Own f1 a1 q.block; offset = q.offset } ≡ to = cc h in
          let two : record { home = Own f2 a2 q'.block; offset = q'.offset } ≡ to' = cc h' in
          let homes : Own f1 a1 q.block ≡ Own f2 a2 q'.block =
          ap (λ (x : Shift). x.home) one ∙ same ∙ sym (ap (λ (x : Shift). x.home) two) in
          let offsets : q.offset + p ≡ q'.offset + r =
          ap (λ (x : Shift). x.offset + p) one ∙ g ∙ sym (ap (λ (x : Shift). x.offset + r) two) in
          apart_so q q' i i' (cc homes) (cc homes) (cc homes) offsets

  pub same_word : (v : Value) (n : ℕ) → Same v (Number n) → v ≡ Number n
  same_word v n e = let same : Number n ≡ v = cc e in sym same

  module _ (act : Activation CminorFun CsharpFun) (t s : Memory) (m : Moves t s) where
    abbrev pub Does : T → U → Type 0
    Does x y = Amounts R W act 0 t s x y

    pub words_along : (v v' : Value) → Same v v' → (next : ℕ → T) (next' : ℕ → U) → ((n : ℕ) → Does (next n) (next' n)) →
        Does (on_word v next) (on_word v' next')
    words_along v (Number n) e next next' along =
        subst (λ u. Does (on_word u next) (next' n)) (sym (same_word v n e)) (along n)
    words_along v (Pointer home p) e next next' along = fails_too
    words_along v (Hidden what) e next next' along = fails_too

    pub usable_along : (v v' : Value) → Same v v' → (next : Value → T) (next' : Value → U) →
        ((u u' : Value) → Same u u' → Does (next u) (next' u')) →
        Does (with_value (usable v) next) (with_value (usable v') next')
    usable_along v (Number n) e next next' along =
        subst (λ u. Does (with_value (usable u) next) (next' (Number n))) (sym (same_word v n e))
        (along (Number n) (Number n) refl)
    usable_along v (Pointer home p) e next next' along =
        let at = pointer_shifted (placing ss) v home p e in
        subst (λ u. Does (with_value (usable u) next) (next' (Pointer home p))) (sym at.value)
        (along (Pointer at.to.home (at.to.offset + p)) (Pointer home p)
        (shifted_pointer (placing ss) home at.to at.shifted p))
    usable_along v (Hidden what) e next next' along = fails_too

    pub truths_along : (v v' : Value) → Same v v' → (next : Bool → T) (next' : Bool → U) →
        ((b : Bool) → Does (next b) (next' b)) → Does (on_truth v next) (on_truth v' next')
    truths_along v (Number n) e next next' along =
        subst (λ u. Does (on_truth u next) (next' (is_true n))) (sym (same_word v n e)) (along (is_true n))
    truths_along v (Pointer home p) e next next' along =
        let at = pointer_shifted (placing ss) v home p e in
        subst (λ u. Does (on_truth u next) (next' true)) (sym at.value) (along true)
    truths_along v (Hidden what) e next next' along = fails_too

    pub pointers_along : (v v' : Value) → Same v v' → (next : Home → ℕ → T) (next' : Home → ℕ → U) →
        ((home : Home) (to : Shift) → shift (placing ss) home ≡ Some to → (p : ℕ) →
        Does (next to.home (to.offset + p)) (next' home p)) → Does (on_pointer v next) (on_pointer v' next')
    pointers_along v (Number n) e next next' along = fails_too
    pointers_along v (Pointer home p) e next next' along =
        let at = pointer_shifted (placing ss) v home p e in
        subst (λ u. Does (on_pointer u next) (next' home p)) (sym at.value) (along home at.to at.shifted p)
    pointers_along v (Hidden what) e next next' along = fails_too

    -- a pointer that is moved
    moves_along : (home : Home) (to : Shift) → shift (placing ss) home ≡ Some to → (p : ℕ) (i : ℤ) (next : Value → T)
        (next' : Value → U) → ((u u' : Value) → Same u u' → Does (next u) (next' u')) →
        Does (moved to.home (to.offset + p) i next) (moved home p i next')
    moves_along home to e p i next next' along = by (pos p +ℤ i) refl
      where
        by : (z : ℤ) → pos p +ℤ i ≡ z → Does (moved to.home (to.offset + p) i next)
            (with_value (place_at z) (λ q. next' (Pointer home q)))
        by (negsuc n) f = fails_too
        by (pos q) f =
            subst (λ z. Does (with_value (place_at z) (λ q. next (Pointer to.home q))) (next' (Pointer home q)))
            (sym (pos_shifted to.offset p q i f))
            (along (Pointer to.home (to.offset + q)) (Pointer home q) (shifted_pointer (placing ss) home to e q))

    only_along : (b : Bool) (x : T) (y : U) → Does x y → Does (only_if b x) (only_if b y)
    only_along true x y h = h
    only_along false x y h = fails_too

    -- two pointers into one block
    module _ (a b : Home) (to to' : Shift) (e : shift (placing ss) a ≡ Some to) (e' : shift (placing ss) b ≡ Some to')
      where
        one_shift : same_home a b ≡ true → to ≡ to'
        one_shift g =
            let homes = same_home_from a b g in
            let same : Some to ≡ Some to' = sym e ∙ ap (λ h. shift (placing ss) h) homes ∙ e' in
            cc same

        one_home : same_home a b ≡ true → same_home to.home to'.home ≡ true
        one_home g = subst (λ (x : Shift). same_home to.home x.home ≡ true) (one_shift g) (same_home_self to.home)

        pub in_one_along : (x : T) (y : U) → (to ≡ to' → Does x y) →
            Does (only_if (same_home to.home to'.home) x) (only_if (same_home a b) y)
        in_one_along x y h = by (same_home a b) refl
          where
            by : (g : Bool) → same_home a b ≡ g → Does (only_if (same_home to.home to'.home) x) (only_if g y)
            by false i = fails_too
            by true i = subst (λ g. Does (only_if g x) y) (sym (one_home i)) (h (one_shift i))

        -- whether they are equal
        module _ (p r : ℕ) (next : Bool → T) (next' : Bool → U) (along : (is : Bool) → Does (next is) (next' is)) where
          -- no place of another block
          apart_along : (d : a ≡ b → ⊥) → (o o' : Option (List Value)) → s a ≡ o → s b ≡ o' →
              (x : T) → ((ws ws' : List Value) → s a ≡ Some ws → s b ≡ Some ws' → p < length ws → r < length ws' →
              Does x (next' false)) → Does x (apart (length_of o) p (length_of o') r next')
          apart_along d None o' i j x h = fails_too
          apart_along d (Some ws) None i j x h = fails_too
          apart_along d (Some ws) (Some ws') i j x h =
              by (nat_le (length ws) p) (nat_le (length ws') r) refl refl
            where
              by : (c c' : Bool) → nat_le (length ws) p ≡ c → nat_le (length ws') r ≡ c' →
                  Does x (if c || c' then Fails else next' false)
              by true c' k k' = fails_too
              by false true k k' = fails_too
              by false false k k' = h ws ws' i j (grind (arith, nat_tests, k)) (grind (arith, nat_tests, k'))

          -- the target looks at its blocks too
          looks_along : (ws ws' : List Value) → s a ≡ Some ws → s b ≡ Some ws' → p < length ws → r < length ws' →
              Does (apart (length_of (t to.home)) (to.offset + p) (length_of (t to'.home)) (to'.offset + r) next)
              (next' false)
          looks_along ws ws' i j less less' =
              let one = inside t s m a to e ws i p less in
              let two = inside t s m b to' e' ws' j r less' in
              let within = one.within in
              let within' = two.within in
              let no : nat_le (length one.block) (to.offset + p) ≡ false = grind (arith, nat_tests, within) in
              let no' : nat_le (length two.block) (to'.offset + r) ≡ false = grind (arith, nat_tests, within') in
              subst (λ o. Does (apart (length_of o) (to.offset + p) (length_of (t to'.home)) (to'.offset + r) next)
              (next' false)) (sym one.there)
              (subst (λ o. Does (apart (Some (length one.block)) (to.offset + p) (length_of o) (to'.offset + r) next)
              (next' false)) (sym two.there)
              (subst (λ c. Does (if c || nat_le (length two.block) (to'.offset + r) then Fails else next false)
              (next' false)) (sym no)
              (subst (λ c. Does (if c then Fails else next false) (next' false)) (sym no') (along false))))

          pub equal_along :
              Does (if same_home to.home to'.home then next (nat_eq (to.offset + p) (to'.offset + r))
              else Looks to.home (λ n. Looks to'.home (λ k. apart n (to.offset + p) k (to'.offset + r) next)))
              (if same_home a b then next' (nat_eq p r) else Looks a (λ n. Looks b (λ k. apart n p k r next')))
          equal_along = by (same_home a b) refl
            where
              Target : Bool → T
              Target c = if c then next (nat_eq (to.offset + p) (to'.offset + r))
                  else Looks to.home (λ n. Looks to'.home (λ k. apart n (to.offset + p) k (to'.offset + r) next))

              one_block : same_home a b ≡ true → Does (Target (same_home to.home to'.home)) (next' (nat_eq p r))
              one_block i =
                  let places : nat_eq (to.offset + p) (to'.offset + r) ≡ nat_eq p r =
                  subst (λ (x : Shift). nat_eq (to.offset + p) (x.offset + r) ≡ nat_eq p r) (one_shift i)
                  (eq_shifted to.offset p r) in
                  subst (λ c. Does (Target c) (next' (nat_eq p r))) (sym (one_home i))
                  (subst (λ c. Does (next c) (next' (nat_eq p r))) (sym places) (along (nat_eq p r)))

              two_blocks : (d : a ≡ b → ⊥) → (c : Bool) → same_home to.home to'.home ≡ c →
                  Does (Target c) (Looks a (λ n. Looks b (λ k. apart n p k r next')))
              two_blocks d true h =
                  source_looks (source_looks (apart_along d (s a) (s b) refl refl _
                  (λ ws ws' i j less less'.
                  let differ : nat_eq (to.offset + p) (to'.offset + r) ≡ false =
                  differs (λ g. different t s m a b d to to' e e' (same_home_from to.home to'.home h) ws ws' i j p r less
                  less' g) in
                  subst (λ c. Does (next c) (next' false)) (sym differ) (along false))))
                where
                  differs : {x y : ℕ} → (x ≡ y → ⊥) → nat_eq x y ≡ false
                  differs {x = x} {y = y} unlike = true_or_false (nat_eq x y) (λ i. unlike (eqb-true x y i))
              two_blocks d false h =
                  target_looks (target_looks (source_looks (source_looks
                  (apart_along d (s a) (s b) refl refl _ looks_along))))

              by : (g : Bool) → same_home a b ≡ g → Does (Target (same_home to.home to'.home))
                  (if g then next' (nat_eq p r) else Looks a (λ n. Looks b (λ k. apart n p k r next')))
              by true i = one_block i
              by false i =
                  two_blocks (λ same. let yes : same_home a b ≡ true =
                  subst (λ h. same_home a h ≡ true) same (same_home_self a) in cc (yes, i))
                  (same_home to.home to'.home) refl

    values_equal_along : (u v u' v' : Value) → Same u u' → Same v v' → (next : Bool → T) (next' : Bool → U) →
        ((is : Bool) → Does (next is) (next' is)) → Does (equal u v next) (equal u' v' next')
    values_equal_along u v (Number i) (Number j) e f next next' along =
        subst (λ x. Does (equal x v next) (next' (nat_eq i j))) (sym (same_word u i e))
        (subst (λ x. Does (equal (Number i) x next) (next' (nat_eq i j))) (sym (same_word v j f)) (along (nat_eq i j)))
    values_equal_along u v (Number i) (Pointer b r) e f next next' along =
        let at = pointer_shifted (placing ss) v b r f in
        subst (λ x. Does (equal x v next) (next' false)) (sym (same_word u i e))
        (subst (λ x. Does (equal (Number i) x next) (next' false)) (sym at.value) (along false))
    values_equal_along u v (Number i) (Hidden what) e f next next' along = fails_too
    values_equal_along u v (Pointer a p) (Number j) e f next next' along =
        let at = pointer_shifted (placing ss) u a p e in
        subst (λ x. Does (equal x v next) (next' false)) (sym at.value)
        (subst (λ x. Does (equal (Pointer at.to.home (at.to.offset + p)) x next) (next' false))
        (sym (same_word v j f)) (along false))
    values_equal_along u v (Pointer a p) (Pointer b r) e f next next' along =
        let at = pointer_shifted (placing ss) u a p e in
        let at' = pointer_shifted (placing ss) v b r f in
        subst (λ x. Does (equal x v next) (equal (Pointer a p) (Pointer b r) next')) (sym at.value)
        (subst (λ x. Does (equal (Pointer at.to.home (at.to.offset + p)) x next)
        (equal (Pointer a p) (Pointer b r) next')) (sym at'.value)
        (equal_along a b at.to at'.to at.shifted at'.shifted p r next next' along))
    values_equal_along u v (Pointer a p) (Hidden what) e f next next' along = fails_too
    values_equal_along u v (Hidden what) (Number j) e f next next' along = fails_too
    values_equal_along u v (Hidden what) (Pointer b r) e f next next' along = fails_too
    values_equal_along u v (Hidden what) (Hidden what') e f next next' along = fails_too

    -- by the order of places
    order_along : (test : ℕ → ℕ → Bool) → ((o p r : ℕ) → test (o + p) (o + r) ≡ test p r) → (u v u' v' : Value) →
        Same u u' → Same v v' → (next : Bool → T) (next' : Bool → U) → ((is : Bool) → Does (next is) (next' is)) →
        Does (ordered test u v next) (ordered test u' v' next')
    order_along test shifts u v u' v' e f next next' along =
        pointers_along u u' e _ _ (λ a to i p. pointers_along v v' f _ _ (λ b to' j r.
        in_one_along a b to to' i j (next (test (to.offset + p) (to'.offset + r))) (next' (test p r))
        (λ one. subst (λ c. Does (next c) (next' (test p r)))
        (sym (subst (λ (x : Shift). test (to.offset + p) (x.offset + r) ≡ test p r) one (shifts to.offset p r)))
        (along (test p r)))))

    compared_along : (op : BinaryOperator) (u v u' v' : Value) → Same u u' → Same v v' → (next : Bool → T)
        (next' : Bool → U) → ((is : Bool) → Does (next is) (next' is)) →
        Does (compared op u v next) (compared op u' v' next')
    compared_along bin.Eq u v u' v' e f next next' along = values_equal_along u v u' v' e f next next' along
    compared_along bin.Ne u v u' v' e f next next' along =
        values_equal_along u v u' v' e f (λ is. next (not is)) (λ is. next' (not is)) (λ is. along (not is))
    compared_along bin.Lt u v u' v' e f next next' along =
        order_along (λ p r. nat_lt p r) lt_shifted u v u' v' e f next next' along
    compared_along bin.Le u v u' v' e f next next' along =
        order_along (λ p r. nat_le p r) le_shifted u v u' v' e f next next' along
    compared_along bin.Gt u v u' v' e f next next' along =
        order_along (λ p r. nat_lt r p) (λ o p r. lt_shifted o r p) u v u' v' e f next next' along
    compared_along bin.Ge u v u' v' e f next next' along =
        order_along (λ p r. nat_le r p) (λ o p r. le_shifted o r p) u v u' v' e f next next' along
    compared_along bin.Add u v u' v' e f next next' along = fails_too
    compared_along bin.Sub u v u' v' e f next next' along = fails_too
    compared_along bin.Mul u v u' v' e f next next' along = fails_too
    compared_along bin.Div u v u' v' e f next next' along = fails_too
    compared_along bin.Mod u v u' v' e f next next' along = fails_too
    compared_along bin.Shl u v u' v' e f next next' along = fails_too
    compared_along bin.Shr u v u' v' e f next next' along = fails_too
    compared_along bin.BitAnd u v u' v' e f next next' along = fails_too
    compared_along bin.BitOr u v u' v' e f next next' along = fails_too
    compared_along bin.BitXor u v u' v' e f next next' along = fails_too

    given_along : (o : Option ℕ) (next : ℕ → T) (next' : ℕ → U) → ((n : ℕ) → Does (next n) (next' n)) →
        Does (with_value o next) (with_value o next')
    given_along None next next' along = fails_too
    given_along (Some n) next next' along = along n

    -- an operator on two values
    pub binary_along : (o : Binop) (u v u' v' : Value) → Same u u' → Same v v' → (next : Value → T) (next' : Value → U) →
        ((x x' : Value) → Same x x' → Does (next x) (next' x')) → Does (binary o u v next) (binary o u' v' next')
    binary_along (OnWords o g) u v u' v' e f next next' along =
        words_along u u' e _ _ (λ i. words_along v v' f _ _ (λ j. given_along (binary_word o g i j) _ _
        (λ n. along (Number n) (Number n) refl)))
    binary_along (PointerPlus g) u v u' v' e f next next' along =
        pointers_along u u' e _ _ (λ home to i p. words_along v v' f _ _ (λ n.
        moves_along home to i p (number_of g n) next next' along))
    binary_along (PlusPointer g) u v u' v' e f next next' along =
        pointers_along v v' f _ _ (λ home to i p. words_along u u' e _ _ (λ n.
        moves_along home to i p (number_of g n) next next' along))
    binary_along (PointerMinus g) u v u' v' e f next next' along =
        pointers_along u u' e _ _ (λ home to i p. words_along v v' f _ _ (λ n.
        moves_along home to i p (neg_ℤ (number_of g n)) next next' along))
    binary_along PointerDifference u v u' v' e f next next' along =
        pointers_along u u' e _ _ (λ a to i p. pointers_along v v' f _ _ (λ b to' j r.
        in_one_along a b to to' i j (next (Number (distance (to.offset + p) (to'.offset + r))))
        (next' (Number (distance p r)))
        (λ one. along _ _ (ap (λ n. Some (Number n))
        (sym (subst (λ (x : Shift). distance (to.offset + p) (x.offset + r) ≡ distance p r) one
        (distance_shifted to.offset p r)))))))
    binary_along (Compare o) u v u' v' e f next next' along =
        compared_along o u v u' v' e f _ _ (λ is. along (Number (truth is)) (Number (truth is)) refl)
