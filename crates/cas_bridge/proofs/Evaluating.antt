-- Over both kinds of objects evaluation asks for the same, and an item's step does the same.
use Rattle.std.proofs.Common.{◌≡◌, ℕ, ◌+◌, ◌<◌, List, [], ◌∷◌, Option, Some, None, Bool, true, false, if◌then◌else◌, slice_get, nat_eq, nat_lt, nat_le, eqb-true, ltb-true, arith, refl, sym, ap, subst}
use Rattle.std.specs.Prelude.{ℤ, pos, negsuc, ◌+ℤ◌, neg_ℤ, ◌||◌, not, ◌==◌}
use Rattle.cas_base.specs.Word.{narrowed}
use Rattle.cas_base.specs.declared.act.Why.TheVariants.{Index, Across}
use Rattle.cas_base.specs.declared.kind.Ty.{Ty}
use Rattle.cas_base.specs.declared.kind.Ty.TheVariants.{Void, Int, Ptr, Array}
use Rattle.cas_syntax.specs.declared.tree.BinaryOperator.{BinaryOperator}
use Rattle.cas_syntax.specs.declared.tree.BinaryOperator.TheVariants as bin
use Rattle.cas_typed.specs.declared.tree.Signedness.{Signedness}
use Rattle.cas_typed.specs.Resolved as t
use Rattle.cas_typed.specs.Resolved.{TypedExprTree, TypedTargetTree, to_local, to_global, to_element, to_behind, TypedStmtTree}
use Rattle.cas_step.specs.Asks as asks
use Rattle.cas_step.specs.Asks.{Asks, and_then, word_in, pointed}
use Rattle.cas_step.specs.Env.{length_of}
use Rattle.cas_step.specs.Operators.{number_of, truth, place_below, or_index, or_undefined, quotient, remainder, binary_result, unary_result}
use Rattle.cas_step.specs.Pointers.{distance, live, moved, cell_behind, behind, places, difference, is_same_place, equal, compared}
use Rattle.cas_step.specs.Evaluate as ev
use Rattle.cas_step.specs.Evaluate.{EvalContext, value_of, values_of, condition, test_of, target_of, of_object, of_global, a_word, a_truth, on_both, forward, backward, only_place, place_among, element_place, global_value}
use Rattle.cas_step.specs.Continuation as items
use Rattle.cas_step.specs.Continuation.{ContItem, Effect, into, jumps, chooses, returned, fallen, statement_effect, effect_of, begin_part, after_break, after_continue}
use Rattle.cas_clight.specs.Clight.{keeps_pointer}
use Rattle.cas_bridge.specs.Alike.{IsBelow, ValuesAlike, numbers, nulls, pointers, AllValuesAlike, QueriesAlike, gives, fails, stuck, reads, looks, loads, EffectsAlike, continues, stores, writes, calls, returns, locks, unlocks, prints}
use Rattle.cas_bridge.specs.Matching.{IsAddressable, AreAddressable, IsAddressableTarget, IsAddressableOption, IsAddressableStatement, IsAddressableNext}

abbrev at_place : {O : Type 0} → O → ℕ → O × ℕ
at_place o p = (o, p)

abbrev load_at : {O : Type 0} → O × ℕ → Asks O (asks.Value O)
load_at c = asks.loads c.0 c.1 asks.gives

-- a place below a limit is so
below : (limit : ℕ) (i : ℤ) (q : ℕ) → place_below limit i ≡ Some q → q < limit
below limit (pos n) q e = by (nat_lt n limit) refl e
  where
    by : (t : Bool) → nat_lt n limit ≡ t → (if t then Some n else None) ≡ Some q → q < limit
    by true i h = let same : n ≡ q = cc h in subst (λ x. x < limit) same (ltb-true n limit i)
    by false i h = absurd (cc h)
below limit (negsuc n) q e = absurd (cc e)

-- which objects are the same, to which of their places pointers go, and how many cells they have; pointers move within
module _ (S C : Type 0) (Objects : S → C → Type 0) (Points : S → C → ℕ → Type 0) (Sizes : S → C → ℕ → Type 0)
    (len : ℕ → Option ℕ) (moves : (o : S) (o' : C) (p q size : ℕ) → Points o o' p → Sizes o o' size → q < size + 1 →
    Points o o' q) where
  abbrev Values : asks.Value S → asks.Value C → Type 0
  Values v w = ValuesAlike Objects Points v w

  abbrev AllValues : List (asks.Value S) → List (asks.Value C) → Type 0
  AllValues vs ws = AllValuesAlike Objects Points vs ws

  abbrev Queries : {A B : Type 0} → (A → B → Type 0) → Asks S A → Asks C B → Type 0
  Queries R x y = QueriesAlike Objects Points Sizes len R x y

  alike_then : {A B A' B' : Type 0} {R : A → A' → Type 0} {Q : B → B' → Type 0} {x : Asks S A} {x' : Asks C A'}
      {next : A → Asks S B} {next' : A' → Asks C B'} → Queries R x x' →
      ((a : A) (a' : A') → R a a' → Queries Q (next a) (next' a')) →
      Queries Q (and_then x next) (and_then x' next')
  alike_then (gives {a = a} {b = b} r) more = more a b r
  alike_then fails more = fails
  alike_then stuck more = stuck
  alike_then (reads below h) more = reads below (λ n. alike_then (h n) more)
  alike_then (looks o none h) more = looks o (alike_then none more) (λ n z. alike_then (h n z) more)
  alike_then (loads o h) more = loads o (λ v v' s. alike_then (h v v' s) more)

  abbrev Same : ℕ → ℕ → Type 0
  Same m n = m ≡ n

  abbrev Is : Bool → Bool → Type 0
  Is a b = a ≡ b

  data SameAim : Option (S × ℕ) → Option (C × ℕ) → Type 0 where
    nowhere : SameAim None None
    aims : {o : S} {o' : C} (p : ℕ) → Objects o o' → Points o o' p →
        SameAim (Some (o, p)) (Some (o', p))

  word_alike : (v : asks.Value S) (v' : asks.Value C) → Values v v' →
      Queries Same (word_in v) (word_in v')
  word_alike v v' (numbers n) = gives refl
  word_alike v v' nulls = stuck
  word_alike v v' (pointers p o f) = stuck

  pointed_alike : (v : asks.Value S) (v' : asks.Value C) → Values v v' →
      Queries SameAim (pointed v) (pointed v')
  pointed_alike v v' (numbers n) = stuck
  pointed_alike v v' nulls = gives nowhere
  pointed_alike v v' (pointers p o f) = gives (aims p o f)

  -- numbers are the same
  with_same : {B B' : Type 0} {Q : B → B' → Type 0} (next : ℕ → Asks S B) (next' : ℕ → Asks C B') →
      ((n : ℕ) → Queries Q (next n) (next' n)) → (m n : ℕ) → m ≡ n →
      Queries Q (next m) (next' n)
  with_same {Q = Q} next next' more m n e = subst (λ k. Queries Q (next m) (next' k)) e (more m)

  a_word_alike : (x : Asks S ℕ) (x' : Asks C ℕ) → Queries Same x x' →
      Queries Values (a_word x) (a_word x')
  a_word_alike x x' h =
      alike_then h (λ m n e. with_same (λ k. asks.gives (asks.word k)) (λ k. asks.gives (asks.word k))
      (λ k. gives (numbers k)) m n e)

  a_truth_alike : (x : Asks S Bool) (x' : Asks C Bool) → Queries Is x x' →
      Queries Values (a_truth x) (a_truth x')
  a_truth_alike x x' h =
      alike_then h
      (λ a b e. subst (λ c. Queries Values (asks.gives (asks.word (truth a)))
      (asks.gives (asks.word (truth c)))) e (gives (numbers (truth a))))

  condition_alike : (v : asks.Value S) (v' : asks.Value C) → Values v v' →
      Queries Is (condition v) (condition v')
  condition_alike v v' (numbers n) = gives refl
  condition_alike v v' nulls = stuck
  condition_alike v v' (pointers p o f) = stuck

  undefined_alike : (b : ℕ) (o : Option ℕ) → Queries Same (or_undefined b o) (or_undefined b o)
  undefined_alike b None = fails
  undefined_alike b (Some n) = gives refl

  result_alike : (op : BinaryOperator) (s : Signedness) (a b : ℕ) →
      Queries Same (binary_result op s a b) (binary_result op s a b)
  result_alike bin.Add s a b = gives refl
  result_alike bin.Sub s a b = gives refl
  result_alike bin.Mul s a b = gives refl
  result_alike bin.Div s a b = undefined_alike b (quotient s a b)
  result_alike bin.Mod s a b = undefined_alike b (remainder s a b)
  result_alike bin.Shl s a b = gives refl
  result_alike bin.Shr s a b = gives refl
  result_alike bin.BitAnd s a b = gives refl
  result_alike bin.BitOr s a b = gives refl
  result_alike bin.BitXor s a b = gives refl
  result_alike bin.Eq s a b = gives refl
  result_alike bin.Ne s a b = gives refl
  result_alike bin.Lt s a b = gives refl
  result_alike bin.Le s a b = gives refl
  result_alike bin.Gt s a b = gives refl
  result_alike bin.Ge s a b = gives refl

  -- places

  live_alike : {B B' : Type 0} {Q : B → B' → Type 0} (o : S) (o' : C) (next : ℕ → Asks S B) (next' : ℕ → Asks C B') →
      Objects o o' → ((n : ℕ) → Sizes o o' n → Queries Q (next n) (next' n)) →
      Queries Q (live o next) (live o' next')
  live_alike {Q = Q} o o' next next' same more = looks same fails more

  moved_alike : (a : Option (S × ℕ)) (a' : Option (C × ℕ)) → SameAim a a' → (i : ℤ) →
      Queries Values (moved a i) (moved a' i)
  moved_alike a a' nowhere i = fails
  moved_alike a a' (aims {o = o} {o' = o'} p same f) i =
      live_alike o o' _ _ same (λ size z. by size z (place_below (size + 1) (pos p +ℤ i)) refl)
    where
      by : (size : ℕ) → Sizes o o' size → (n : Option ℕ) → place_below (size + 1) (pos p +ℤ i) ≡ n →
          Queries Values (or_index n (λ q. asks.gives (asks.pointer o q)))
          (or_index n (λ q. asks.gives (asks.pointer o' q)))
      by size z None e = fails
      by size z (Some q) e = gives (pointers q same (moves o o' p q size f z (below (size + 1) (pos p +ℤ i) q e)))

  behind_alike : (a : Option (S × ℕ)) (a' : Option (C × ℕ)) → SameAim a a' →
      Queries Values (behind a) (behind a')
  behind_alike a a' nowhere = fails
  behind_alike a a' (aims {o = o} {o' = o'} p same f) = looks same fails (λ size z. within (nat_lt p size))
    where
      within : (b : Bool) → Queries Values
          (and_then (if b then asks.gives (at_place o p) else asks.fails Index) load_at)
          (and_then (if b then asks.gives (at_place o' p) else asks.fails Index) load_at)
      within true = loads same (λ v v' s. gives s)
      within false = fails

  data Aimed : S × ℕ → C × ℕ → Type 0 where
    aimed : {o : S} {o' : C} (p : ℕ) → Objects o o' → Aimed (at_place o p) (at_place o' p)

  cell_alike : (a : Option (S × ℕ)) (a' : Option (C × ℕ)) → SameAim a a' →
      Queries Aimed (cell_behind a) (cell_behind a')
  cell_alike a a' nowhere = fails
  cell_alike a a' (aims {o = o} {o' = o'} p same f) = live_alike o o' _ _ same (λ size z. by (nat_lt p size))
    where
      by : (b : Bool) → Queries Aimed (if b then asks.gives (at_place o p) else asks.fails Index)
          (if b then asks.gives (at_place o' p) else asks.fails Index)
      by true = gives (aimed p same)
      by false = fails

  -- the contexts of evaluation
  module _ (s : EvalContext S) (s' : EvalContext C)
      (entities : (g : ℕ) → length_of (s.entity g) ≡ length_of (s'.entity g))
      (lengths : (g : ℕ) → length_of (s.entity g) ≡ len g) (own : (n : ℕ) → Objects (s.own n) (s'.own n))
      (same_in : (a b : S) (a' b' : C) → Objects a a' → Objects b b' → s.same a b ≡ s'.same a' b') (tys : List Ty)
      (addressed : (n : ℕ) → keeps_pointer (slice_get tys n) ≡ false → Points (s.own n) (s'.own n) 0) where
    -- the places of two pointers
    abbrev Places : ℕ × ℕ → ℕ × ℕ → Type 0
    Places p q = p ≡ q

    places_alike : (a b : Option (S × ℕ)) (a' b' : Option (C × ℕ)) → SameAim a a' → SameAim b b' →
        Queries Places (places s.same a b) (places s'.same a' b')
    places_alike a b a' b' nowhere k = by k
      where
        by : {x : Option (S × ℕ)} {x' : Option (C × ℕ)} → SameAim x x' →
            Queries Places (places s.same None x) (places s'.same None x')
        by nowhere = fails
        by (aims p same f) = fails
    places_alike a b a' b' (aims {o = o} {o' = o'} p same f) k = by k
      where
        by : {x : Option (S × ℕ)} {x' : Option (C × ℕ)} → SameAim x x' →
            Queries Places (places s.same (Some (o, p)) x) (places s'.same (Some (o', p)) x')
        by nowhere = fails
        by (aims {o = q} {o' = q'} r other f') = live_alike o o' _ _ same
            (λ n z. live_alike q q' _ _ other
            (λ m z'. subst (λ t. Queries Places
            (if s.same o q then asks.gives (p, r) else asks.fails Across)
            (if t then asks.gives (p, r) else asks.fails Across)) (same_in o q o' q' same other) (either (s.same o q))))
          where
            either : (t : Bool) → Queries Places (if t then asks.gives (p, r) else asks.fails Across)
                (if t then asks.gives (p, r) else asks.fails Across)
            either true = gives refl
            either false = fails

    difference_alike : (a b : Option (S × ℕ)) (a' b' : Option (C × ℕ)) → SameAim a a' → SameAim b b' →
        Queries Same (difference s.same a b) (difference s'.same a' b')
    difference_alike a b a' b' h k = alike_then (places_alike a b a' b' h k)
        (λ p q e. subst (λ (x : ℕ × ℕ). Queries Same (asks.gives (distance p.0 p.1))
        (asks.gives (distance x.0 x.1))) e (gives refl))

    ordered : (f : ℕ × ℕ → Bool) (a b : Option (S × ℕ)) (a' b' : Option (C × ℕ)) → SameAim a a' → SameAim b b' →
        Queries Is (and_then (places s.same a b) (λ p. asks.gives (f p)))
        (and_then (places s'.same a' b') (λ p. asks.gives (f p)))
    ordered f a b a' b' h k = alike_then (places_alike a b a' b' h k)
        (λ p q e. subst (λ x. Queries Is (asks.gives (f p)) (asks.gives (f x))) e (gives refl))

    place_same : (one : Bool) (p n r m : ℕ) → Queries Is (is_same_place s.same one p n r m)
        (is_same_place s'.same one p n r m)
    place_same true p n r m = gives refl
    place_same false p n r m = by (nat_le n p || nat_le m r)
      where
        by : (t : Bool) → Queries Is (if t then asks.fails Across else asks.gives false)
            (if t then asks.fails Across else asks.gives false)
        by true = fails
        by false = gives refl

    equal_alike : (a b : Option (S × ℕ)) (a' b' : Option (C × ℕ)) → SameAim a a' → SameAim b b' →
        Queries Is (equal s.same a b) (equal s'.same a' b')
    equal_alike a b a' b' nowhere k = by k
      where
        by : {x : Option (S × ℕ)} {x' : Option (C × ℕ)} → SameAim x x' →
            Queries Is (equal s.same None x) (equal s'.same None x')
        by nowhere = gives refl
        by (aims {o = q} {o' = q'} r other f) = live_alike q q' _ _ other (λ m z. gives refl)
    equal_alike a b a' b' (aims {o = o} {o' = o'} p same f) k = by k
      where
        by : {x : Option (S × ℕ)} {x' : Option (C × ℕ)} → SameAim x x' →
            Queries Is (equal s.same (Some (o, p)) x) (equal s'.same (Some (o', p)) x')
        by nowhere = live_alike o o' _ _ same (λ n z. gives refl)
        by (aims {o = q} {o' = q'} r other f') = live_alike o o' _ _ same
            (λ n z. live_alike q q' _ _ other
            (λ m z'. subst (λ t. Queries Is (is_same_place s.same (s.same o q) p n r m)
            (is_same_place s'.same t p n r m)) (same_in o q o' q' same other) (place_same (s.same o q) p n r m)))

    compared_alike : (op : BinaryOperator) (a b : Option (S × ℕ)) (a' b' : Option (C × ℕ)) → SameAim a a' →
        SameAim b b' → Queries Is (compared s.same op a b) (compared s'.same op a' b')
    compared_alike bin.Eq a b a' b' h k = equal_alike a b a' b' h k
    compared_alike bin.Ne a b a' b' h k = alike_then (equal_alike a b a' b' h k) (λ x y e. gives (ap not e))
    compared_alike bin.Lt a b a' b' h k = ordered (λ ps. nat_lt ps.0 ps.1) a b a' b' h k
    compared_alike bin.Le a b a' b' h k = ordered (λ ps. nat_le ps.0 ps.1) a b a' b' h k
    compared_alike bin.Gt a b a' b' h k = ordered (λ ps. nat_lt ps.1 ps.0) a b a' b' h k
    compared_alike bin.Ge a b a' b' h k = ordered (λ ps. nat_le ps.1 ps.0) a b a' b' h k
    compared_alike bin.Add a b a' b' h k = stuck
    compared_alike bin.Sub a b a' b' h k = stuck
    compared_alike bin.Mul a b a' b' h k = stuck
    compared_alike bin.Div a b a' b' h k = stuck
    compared_alike bin.Mod a b a' b' h k = stuck
    compared_alike bin.Shl a b a' b' h k = stuck
    compared_alike bin.Shr a b a' b' h k = stuck
    compared_alike bin.BitAnd a b a' b' h k = stuck
    compared_alike bin.BitOr a b a' b' h k = stuck
    compared_alike bin.BitXor a b a' b' h k = stuck

    -- both values as pointers, and then
    both_alike : {A A' : Type 0} {R : A → A' → Type 0} (u v : asks.Value S) (u' v' : asks.Value C) →
        Values u u' → Values v v' →
        (next : Option (S × ℕ) → Option (S × ℕ) → Asks S A) (next' : Option (C × ℕ) → Option (C × ℕ) → Asks C A') →
        ((a b : Option (S × ℕ)) (a' b' : Option (C × ℕ)) → SameAim a a' → SameAim b b' →
        Queries R (next a b) (next' a' b')) →
        Queries R (on_both u v next) (on_both u' v' next')
    both_alike u v u' v' h k next next' more = alike_then (pointed_alike u u' h)
        (λ a a' i. alike_then (pointed_alike v v' k) (λ b b' j. more a b a' b' i j))

    forward_alike : (sign : Signedness) (u v : asks.Value S) (u' v' : asks.Value C) → Values u u' →
        Values v v' → Queries Values (forward sign u v) (forward sign u' v')
    forward_alike sign u v u' v' h k = alike_then (pointed_alike u u' h)
        (λ a a' i. alike_then (word_alike v v' k) (λ m n e. with_same (λ x. moved a (number_of sign x))
        (λ x. moved a' (number_of sign x)) (λ x. moved_alike a a' i (number_of sign x)) m n e))

    backward_alike : (sign : Signedness) (u v : asks.Value S) (u' v' : asks.Value C) → Values u u' →
        Values v v' → Queries Values (backward sign u v) (backward sign u' v')
    backward_alike sign u v u' v' h k = alike_then (pointed_alike u u' h)
        (λ a a' i. alike_then (word_alike v v' k) (λ m n e. with_same (λ x. moved a (neg_ℤ (number_of sign x)))
        (λ x. moved a' (neg_ℤ (number_of sign x))) (λ x. moved_alike a a' i (neg_ℤ (number_of sign x))) m n e))

    -- places of globals

    -- equal places, of those that there are
    abbrev SamePlace : ℕ → ℕ → ℕ → Type 0
    SamePlace g m n = (m ≡ n) × IsBelow (len g) m

    only_alike : (g : ℕ) → Queries (SamePlace g) (only_place (length_of (s.entity g)))
        (only_place (length_of (s'.entity g)))
    only_alike g =
        subst (λ x. Queries (SamePlace g) (only_place (length_of (s.entity g))) (only_place x))
        (entities g) (subst (λ x. Queries (SamePlace g) (only_place x) (only_place x)) (sym (lengths g))
        (by (len g) refl))
      where
        one : (n : ℕ) → len g ≡ Some n → (t : Bool) → nat_eq n 1 ≡ t →
            Queries (SamePlace g) (if t then asks.gives 0 else asks.stuck)
            (if t then asks.gives 0 else asks.stuck)
        one n is true e = let single = eqb-true n 1 e in
            gives (refl, subst (λ o. IsBelow o 0) (sym is) (omega (arith, single)))
        one n is false e = stuck

        by : (o : Option ℕ) → len g ≡ o → Queries (SamePlace g) (only_place o) (only_place o)
        by None is = stuck
        by (Some n) is = one n is (nat_eq n 1) refl

    among_alike : (g : ℕ) (i : ℤ) → Queries (SamePlace g) (place_among (length_of (s.entity g)) i)
        (place_among (length_of (s'.entity g)) i)
    among_alike g i =
        subst (λ x. Queries (SamePlace g) (place_among (length_of (s.entity g)) i) (place_among x i))
        (entities g) (subst (λ x. Queries (SamePlace g) (place_among x i) (place_among x i))
        (sym (lengths g)) (by (len g) refl))
      where
        found : (n : ℕ) → len g ≡ Some n → (o : Option ℕ) → place_below n i ≡ o →
            Queries (SamePlace g) (or_index o asks.gives) (or_index o asks.gives)
        found n is None e = fails
        found n is (Some q) e = gives (refl, subst (λ o. IsBelow o q) (sym is) (below n i q e))

        by : (o : Option ℕ) → len g ≡ o → Queries (SamePlace g) (place_among o i) (place_among o i)
        by None is = stuck
        by (Some n) is = found n is (place_below n i) refl

    element_alike : (g : ℕ) (sign : Signedness) (v : asks.Value S) (v' : asks.Value C) → Values v v' →
        Queries (SamePlace g) (element_place s g sign v) (element_place s' g sign v')
    element_alike g sign v v' h = alike_then (word_alike v v' h)
        (λ m n e. with_same (λ x. place_among (length_of (s.entity g)) (number_of sign x))
        (λ x. place_among (length_of (s'.entity g)) (number_of sign x)) (λ x. among_alike g (number_of sign x)) m n e)

    global_alike : (g m n : ℕ) → SamePlace g m n → Queries Values (global_value g m)
        (global_value g n)
    global_alike g m n e = subst (λ k. Queries Values (global_value g m) (global_value g k))
        e.0 (reads e.1 (λ x. gives (numbers x)))

    either_alike : {A A' : Type 0} {R : A → A' → Type 0} {x y : Asks S A} {x' y' : Asks C A'} →
        Queries R x x' → Queries R y y' → (a b : Bool) → a ≡ b →
        Queries R (ev.either x y a) (ev.either x' y' b)
    either_alike {R = R} {x = x} {y = y} {x' = x'} {y' = y'} h k a b e =
        subst (λ t. Queries R (ev.either x y a) (ev.either x' y' t)) e (by a)
      where
        by : (t : Bool) → Queries R (ev.either x y t) (ev.either x' y' t)
        by true = h
        by false = k

    -- the value of an expression
    value_same : (e : TypedExprTree) → IsAddressable tys e → Queries Values (value_of s e) (value_of s' e)
    value_same (t.literal n) h = gives (numbers n)
    value_same t.null h = gives nulls
    value_same (t.local n) h = loads (own n) (λ v v' i. gives i)
    value_same (t.global g at) h = alike_then (only_alike g) (λ m n e. global_alike g m n e)
    value_same (t.element g at sign a) h = alike_then (value_same a h)
        (λ v v' i. alike_then (element_alike g sign v v' i) (λ m n e. global_alike g m n e))
    value_same (t.place_of n) h = gives (pointers 0 (own n) (addressed n h))
    value_same (t.behind kind p) h = alike_then (value_same p h)
        (λ v v' i. alike_then (pointed_alike v v' i) (λ a a' j. behind_alike a a' j))
    value_same (t.pointer_plus sign p a) h = alike_then (value_same p h.0)
        (λ u u' i. alike_then (value_same a h.1) (λ v v' j. forward_alike sign u v u' v' i j))
    value_same (t.plus_pointer sign a p) h = alike_then (value_same a h.0)
        (λ v v' j. alike_then (value_same p h.1) (λ u u' i. forward_alike sign u v u' v' i j))
    value_same (t.pointer_minus sign p a) h = alike_then (value_same p h.0)
        (λ u u' i. alike_then (value_same a h.1) (λ v v' j. backward_alike sign u v u' v' i j))
    value_same (t.pointer_difference p q) h = alike_then (value_same p h.0)
        (λ u u' i. alike_then (value_same q h.1)
        (λ v v' j. both_alike u v u' v' i j _ _ (λ a b a' b' x y. a_word_alike (difference s.same a b)
        (difference s'.same a' b') (difference_alike a b a' b' x y))))
    value_same (t.compare op p q) h = alike_then (value_same p h.0)
        (λ u u' i. alike_then (value_same q h.1)
        (λ v v' j. both_alike u v u' v' i j _ _ (λ a b a' b' x y. a_truth_alike (compared s.same op a b)
        (compared s'.same op a' b') (compared_alike op a b a' b' x y))))
    value_same (t.unary op a) h = alike_then (value_same a h)
        (λ v v' i. alike_then (word_alike v v' i) (λ m n e. with_same (λ x. asks.gives (asks.word (unary_result op x)))
        (λ x. asks.gives (asks.word (unary_result op x))) (λ x. gives (numbers (unary_result op x))) m n e))
    value_same (t.binary op sign a b) h = alike_then (value_same a h.0)
        (λ u u' i. alike_then (value_same b h.1) (λ v v' j.
        alike_then (word_alike u u' i) (λ m n e. alike_then (word_alike v v' j) (λ x y d.
        with_same (λ z. a_word (binary_result op sign z x)) (λ z. a_word (binary_result op sign z y))
        (λ z. with_same (λ w. a_word (binary_result op sign z w)) (λ w. a_word (binary_result op sign z w))
        (λ w. a_word_alike (binary_result op sign z w) (binary_result op sign z w) (result_alike op sign z w))
        x y d) m n e))))
    value_same (t.narrow kind a) h = alike_then (value_same a h)
        (λ v v' i. alike_then (word_alike v v' i) (λ m n e. with_same (λ x. asks.gives (asks.word (narrowed x kind)))
        (λ x. asks.gives (asks.word (narrowed x kind))) (λ x. gives (numbers (narrowed x kind))) m n e))
    value_same (t.and_also a b) h = alike_then (value_same a h.0)
        (λ u u' i. alike_then (condition_alike u u' i)
        (λ x y e. either_alike (alike_then (value_same b h.1)
        (λ v v' j. a_truth_alike (condition v) (condition v') (condition_alike v v' j))) (gives (numbers 0)) x y e))
    value_same (t.or_else a b) h = alike_then (value_same a h.0)
        (λ u u' i. alike_then (condition_alike u u' i)
        (λ x y e. either_alike (gives (numbers 1)) (alike_then (value_same b h.1)
        (λ v v' j. a_truth_alike (condition v) (condition v') (condition_alike v v' j))) x y e))
    value_same (t.choose c a b) h = alike_then (value_same c h.0)
        (λ u u' i. alike_then (condition_alike u u' i)
        (λ x y e. either_alike (value_same a h.1) (value_same b h.2) x y e))

    -- effects

    abbrev EffectQueries : Asks S (Effect S) → Asks C (Effect C) → Type 0
    EffectQueries x y = Queries (EffectsAlike Objects Points Sizes len) x y

    values_same : (args : List TypedExprTree) → AreAddressable tys args →
        Queries AllValues (values_of s args) (values_of s' args)
    values_same [] h = gives tt
    values_same (a ∷ args) h = alike_then (value_same a h.0)
        (λ v v' i. alike_then (values_same args h.1) (λ vs vs' j. gives (i, j)))

    data CellsAlike : ev.Cell S → ev.Cell C → Type 0 where
      objects : {o : S} {o' : C} (p : ℕ) → Objects o o' → CellsAlike (of_object o p) (of_object o' p)
      globals : (g i : ℕ) → IsBelow (len g) i → CellsAlike (of_global g i) (of_global g i)

    cell_of_global : (g m n : ℕ) → (m ≡ n) × IsBelow (len g) m →
        Queries CellsAlike (asks.gives (of_global g m)) (asks.gives (of_global g n))
    cell_of_global g m n e =
        subst (λ k. Queries CellsAlike (asks.gives (of_global g m)) (asks.gives (of_global g k))) e.0
        (gives (globals g m e.1))

    target_same : (target : TypedTargetTree) → IsAddressableTarget tys target →
        Queries CellsAlike (target_of s target) (target_of s' target)
    target_same (to_local n) h = gives (objects 0 (own n))
    target_same (to_global g at) h = alike_then (only_alike g)
        (λ m n e. cell_of_global g m n e)
    target_same (to_element g at sign a) h = alike_then (value_same a h)
        (λ v v' i. alike_then (element_alike g sign v v' i)
        (λ m n e. cell_of_global g m n e))
    target_same (to_behind k p) h = alike_then (value_same p h)
        (λ v v' i. alike_then (pointed_alike v v' i)
        (λ a a' j. alike_then (cell_alike a a' j) (λ c c' x. by x)))
      where
        by : {c : S × ℕ} {c' : C × ℕ} → Aimed c c' →
            Queries CellsAlike (asks.gives (of_object c.0 c.1)) (asks.gives (of_object c'.0 c'.1))
        by (aimed p same) = gives (objects p same)

    into_same : (c : ev.Cell S) (c' : ev.Cell C) → CellsAlike c c' → (v : asks.Value S) (v' : asks.Value C) →
        Values v v' → (cont : List ContItem) → EffectQueries (into c v cont) (into c' v' cont)
    into_same c c' (objects p same) v v' i cont = gives (stores p cont same i)
    into_same c c' (globals g i below) v v' h cont = alike_then (word_alike v v' h)
        (λ m n e. with_same (λ x. asks.gives (items.writes g i x cont))
        (λ x. asks.gives (items.writes g i x cont)) (λ x. gives (writes g i x cont below)) m n e)

    jumps_same : (cont : Option (List ContItem)) → EffectQueries (jumps cont) (jumps cont)
    jumps_same None = stuck
    jumps_same (Some cont) = gives (continues cont)

    chooses_same : (c : Option TypedExprTree) → IsAddressableOption tys c → (some others : List ContItem) →
        EffectQueries (chooses s c some others) (chooses s' c some others)
    chooses_same None h some others = gives (continues some)
    chooses_same (Some c) h some others = alike_then
        (alike_then (value_same c h) (λ v v' i. condition_alike v v' i))
        (λ a b e. subst (λ x. EffectQueries (asks.gives (items.continues (ev.either some others a)))
        (asks.gives (items.continues (ev.either some others x)))) e (gives (continues (ev.either some others a))))

    returned_same : (a : Option TypedExprTree) → IsAddressableOption tys a →
        EffectQueries (returned s a) (returned s' a)
    returned_same None h = gives (returns tt)
    returned_same (Some a) h = alike_then (value_same a h) (λ v v' i. gives (returns i))

    statement_same : (a : TypedStmtTree) → IsAddressableStatement tys a → (cont : List ContItem) →
        EffectQueries (statement_effect s a cont) (statement_effect s' a cont)
    statement_same (t.skip p) h cont = gives (continues cont)
    statement_same (t.assign p target a) h cont = alike_then (target_same target h.0)
        (λ c c' x. alike_then (value_same a h.1) (λ v v' i. into_same c c' x v v' i cont))
    statement_same (t.block p bs) h cont = gives (continues (items.begin_all bs cont))
    statement_same (t.if_ p c a b) h cont = chooses_same (Some c) h (items.begin a ∷ cont) (begin_part b cont)
    statement_same (t.while_ p c a) h cont = chooses_same (Some c) h (items.begin a ∷ items.begun p c a ∷ cont) cont
    statement_same (t.do_ p a c) h cont = gives (continues (items.begin a ∷ items.begun p c a ∷ cont))
    statement_same (t.for_ p first c after a) h cont = gives
        (continues (begin_part first (items.loop p c after a ∷ cont)))
    statement_same (t.break_ p) h cont = jumps_same (after_break cont)
    statement_same (t.continue_ p) h cont = jumps_same (after_continue cont)
    statement_same (t.call p target g at args) h cont = alike_then (values_same args h)
        (λ vs vs' i. gives (calls g target cont i))
    statement_same (t.return_ p a) h cont = returned_same a h
    statement_same (t.lock p g) h cont = gives (locks g cont)
    statement_same (t.unlock p g) h cont = gives (unlocks g cont)
    statement_same (t.print p a) h cont = alike_then (value_same a h)
        (λ v v' i. alike_then (word_alike v v' i)
        (λ m n e. with_same (λ x. asks.gives (items.prints x cont)) (λ x. asks.gives (items.prints x cont))
        (λ x. gives (prints x cont)) m n e))

    fallen_same : (ret : Ty) → EffectQueries (asks.gives (items.returns (fallen ret)))
        (asks.gives (items.returns (fallen ret)))
    fallen_same (Int k) = gives (returns (numbers 0))
    fallen_same (Ptr k) = gives (returns nulls)
    fallen_same Void = gives (returns tt)
    fallen_same (Array k n) = gives (returns tt)

    pub effect_same : (ret : Ty) (cont : List ContItem) → IsAddressableNext tys cont →
        EffectQueries (effect_of s ret cont) (effect_of s' ret cont)
    effect_same ret [] h = fallen_same ret
    effect_same ret (items.begin a ∷ cont) h = statement_same a h cont
    effect_same ret (items.begun p c a ∷ cont) h = chooses_same (Some c) h (items.begin a ∷ items.begun p c a ∷ cont)
        cont
    effect_same ret (items.loop p c after a ∷ cont) h = chooses_same c h
        (items.begin a ∷ items.next p after ∷ items.loop p c after a ∷ cont) cont
    effect_same ret (items.next p t.absent ∷ cont) h = gives (continues cont)
    effect_same ret (items.next p (t.present a) ∷ cont) h = statement_same a h cont
