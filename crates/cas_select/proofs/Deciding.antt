-- The conditions that Selection picks decide what values do.
use Rattle.std.proofs.Common.{◌≡◌, ℕ, zero, suc, List, [], ◌∷◌, Option, Some, None, Bool, true, false, if◌then◌else◌, nat_lt, nat_eq, nat_le, refl, sym, ap, ◌∙◌, subst}
use Rattle.std.specs.Prelude.{not}
use Rattle.cas_runs.specs.Naming.{Home, Value, Number, Pointer, Hidden, same_home}
use Rattle.cas_runs.specs.Access.{Accesses, Looks, Then, Fails, with_value}
use Rattle.cas_syntax.specs.declared.tree.BinaryOperator.{BinaryOperator}
use Rattle.cas_syntax.specs.declared.tree.BinaryOperator.TheVariants as bin
use Rattle.cas_typed.specs.declared.tree.Signedness.{Signedness}
use Rattle.cas_step.specs.Operators.{truth, is_true}
use Rattle.cas_mid.specs.declared.tree.Binop.{Binop}
use Rattle.cas_mid.specs.declared.tree.Binop.TheVariants.{OnWords, PointerPlus, PlusPointer, PointerMinus, PointerDifference, Compare}
use Rattle.cas_mid.specs.Operators.{binary_word, on_word, on_truth, only_if, equal, ordered, compared, binary, either, apart}
use Rattle.cas_mid.specs.Language.{Frame}
use Rattle.cas_sel.specs.declared.tree.Cond.{Cond}
use Rattle.cas_sel.specs.declared.tree.Cond.TheVariants as cond
use Rattle.cas_sel.specs.Query.{asking, query_of}
use Rattle.cas_sel.specs.Trees.{Expr, if_, Test, holds, always, if_test}
use Rattle.cas_sel.specs.Operations.{decide}
use Rattle.cas_sel.specs.CminorSel.{value, test}
use Rattle.cas_select.specs.Operators.{one, two, constant, known, exchanged, made_binop}
use Rattle.cas_select.specs.Conditions.{agreeing, is_comparison, turned, truth_cond, value_test_by, value_test, folded_test, number_first_test, words_test, null_cond, pointers_test_by, pointers_test, on_words_test, binop_test, made_if, made_if_test}
use Rattle.cas_select.proofs.Improving.{Improves, itself, equals, then_too, fails, looks, given, words, truths, value_better}
use Rattle.cas_select.proofs.Words.{IsExchanged, exchanged_is, true_is, not_not, le_is, lt_is, turns}
use Rattle.cas_select.proofs.Choosing.{IsKnown, known_is, asked_given, asked_word, asked_compared, binop_is}

module _ {L : Type 0} (f : Frame) (next : Bool → Accesses L) where
  truth_asked : (meant : Bool) (v : Value) → Improves (asking (decide (truth_cond meant) (v ∷ [])) next)
      (on_truth v (λ is. next (agreeing is meant)))
  truth_asked true (Number n) = itself _
  truth_asked true (Pointer home p) = itself _
  truth_asked true (Hidden what) = fails
  truth_asked false (Number n) = itself _
  truth_asked false (Pointer home p) = itself _
  truth_asked false (Hidden what) = fails

  -- whether a value is true
  pub value_test_is : (meant : Bool) (a : Expr) →
      Improves (test f (value_test meant a) next) (value f a (λ v. on_truth v (λ is. next (agreeing is meant))))
  value_test_is meant a = by (known a) (known_is a)
    where
      by : (k : Option ℕ) → IsKnown a k → Improves (test f (value_test_by meant a k) next)
          (value f a (λ v. on_truth v (λ is. next (agreeing is meant))))
      by None e = value_better f a _ _ (λ v. truth_asked meant v)
      by (Some n) e = subst (λ c. Improves (next (agreeing (is_true n) meant))
          (value f c (λ v. on_truth v (λ is. next (agreeing is meant))))) (sym e) (itself _)

  -- whether the word that an operator gives is true
  abbrev pub words_true : BinaryOperator → Signedness → Value → Value → Accesses L
  words_true o s u v =
      on_word u (λ m. on_word v (λ n. with_value (binary_word o s m n) (λ i. next (is_true i))))

  words_asked : (o : BinaryOperator) (s : Signedness) (u v : Value) →
      Improves (asking (decide (cond.Words o s) (u ∷ v ∷ [])) next) (words_true o s u v)
  words_asked o s u v = asked_word u _ _ next (λ m. asked_word v _ _ next
      (λ n. asked_given (binary_word o s m n) _ _ next (λ i. itself _)))

  number_asked : (o : BinaryOperator) (s : Signedness) (n : ℕ) (u : Value) →
      Improves (asking (decide (cond.WithNumber o s n) (u ∷ [])) next) (words_true o s u (Number n))
  number_asked o s n u = asked_word u _ _ next (λ m. asked_given (binary_word o s m n) _ _ next (λ i. itself _))

  abbrev words_are : BinaryOperator → Signedness → (a b : Expr) → Accesses L
  words_are o s a b = value f a (λ u. value f b (λ v. words_true o s u v))

  number_first_is : (o : BinaryOperator) (s : Signedness) (a b : Expr) (m : ℕ) → a ≡ constant m →
      (other : Option BinaryOperator) → IsExchanged o other →
      Improves (test f (number_first_test o s a b m other) next) (words_are o s a b)
  number_first_is o s a b m e None is =
      value_better f a _ _ (λ u. value_better f b _ _ (λ v. words_asked o s u v))
  number_first_is o s a b m e (Some other) is =
      subst (λ c. Improves (test f (holds (cond.WithNumber other s m) (one b)) next) (words_are o s c b)) (sym e)
      (value_better f b _ _ (λ v. then_too (number_asked other s m v) (turn v)))
    where
      turn : (v : Value) → Improves (words_true other s v (Number m)) (words_true o s (Number m) v)
      turn (Number n) = equals _ _ (ap (λ w. with_value w (λ i. next (is_true i))) (is s m n))
      turn (Pointer home p) = fails
      turn (Hidden what) = fails

  words_test_is : (o : BinaryOperator) (s : Signedness) (a b : Expr) (ka kb : Option ℕ) → IsKnown a ka →
      IsKnown b kb → Improves (test f (words_test o s a b ka kb) next) (words_are o s a b)
  words_test_is o s a b (Some m) (Some n) e e' =
      subst (λ c. Improves (test f (folded_test (holds (cond.WithNumber o s n) (one a)) (binary_word o s m n)) next)
      (words_are o s c b)) (sym e)
      (subst (λ c. Improves (test f (folded_test (holds (cond.WithNumber o s n) (one a)) (binary_word o s m n)) next)
      (words_are o s (constant m) c)) (sym e') (by (binary_word o s m n)))
    where
      by : (w : Option ℕ) → Improves (test f (folded_test (holds (cond.WithNumber o s n) (one a)) w) next)
          (with_value w (λ i. next (is_true i)))
      by None = fails
      by (Some i) = itself _
  words_test_is o s a b None (Some n) e e' =
      subst (λ c. Improves (test f (holds (cond.WithNumber o s n) (one a)) next) (words_are o s a c)) (sym e')
      (value_better f a _ _ (λ u. number_asked o s n u))
  words_test_is o s a b (Some m) None e e' = number_first_is o s a b m e (exchanged o) (exchanged_is o)
  words_test_is o s a b None None e e' =
      value_better f a _ _ (λ u. value_better f b _ _ (λ v. words_asked o s u v))

  -- whether a comparison of pointers is
  null_is : (o : BinaryOperator) (a b : Expr) (k : Option ℕ) → IsKnown b k →
      Improves (test f (pointers_test_by o a b (null_cond o k)) next)
      (value f a (λ u. value f b (λ v. compared o u v next)))
  null_is bin.Eq a b (Some zero) e =
      subst (λ c. Improves (test f (holds cond.IsFalse (one a)) next)
      (value f a (λ u. value f c (λ v. compared bin.Eq u v next)))) (sym e) (value_better f a _ _ by)
    where
      by : (u : Value) → Improves (asking (decide cond.IsFalse (u ∷ [])) next) (compared bin.Eq u (Number 0) next)
      by (Number n) = equals _ _ (ap next (not_not (nat_eq n 0)))
      by (Pointer home p) = itself _
      by (Hidden what) = fails
  null_is bin.Ne a b (Some zero) e =
      subst (λ c. Improves (test f (holds cond.IsTrue (one a)) next)
      (value f a (λ u. value f c (λ v. compared bin.Ne u v next)))) (sym e) (value_better f a _ _ by)
    where
      by : (u : Value) → Improves (asking (decide cond.IsTrue (u ∷ [])) next) (compared bin.Ne u (Number 0) next)
      by (Number n) = itself _
      by (Pointer home p) = itself _
      by (Hidden what) = fails
  null_is o a b k e = value_better f a _ _ (λ u. value_better f b _ _
      (λ v. asked_compared o u v (λ is. is) next next (λ is. itself _)))

  -- an If among values and among conditions
  pub if_is : (c : Test) (a b : Expr) (k : Value → Accesses L) → Improves (value f (made_if c a b) k)
      (test f c (λ is. either (value f a k) (value f b k) is))
  if_is (always true) a b k = itself _
  if_is (always false) a b k = itself _
  if_is (holds o es) a b k = itself _
  if_is (if_test c d e) a b k = itself _

  pub if_test_is : (c a b : Test) → Improves (test f (made_if_test c a b) next)
      (test f c (λ is. either (test f a next) (test f b next) is))
  if_test_is (always true) a b = itself _
  if_test_is (always false) a b = itself _
  if_test_is (holds o es) a b = itself _
  if_test_is (if_test c d e) a b = itself _

-- comparisons, where what follows does better
module _ {L : Type 0} (x y : Bool → Accesses L) (h : (is : Bool) → Improves (x is) (y is)) where
  equal_same : (u v : Value) →
      Improves (equal u v x) (equal u v y)
  equal_same (Number m) (Number n) = h _
  equal_same (Number m) (Pointer b r) = h _
  equal_same (Pointer a p) (Number n) = h _
  equal_same (Pointer a p) (Pointer b r) = by (same_home a b)
    where
      none : (b : Bool) → Improves (if b then Fails else x false) (if b then Fails else y false)
      none true = fails
      none false = h false

      two_apart : (n m : Option ℕ) → Improves (apart n p m r x) (apart n p m r y)
      two_apart (Some n) (Some m) = none _
      two_apart (Some n) None = fails
      two_apart None m = fails

      by : (is : Bool) → Improves (if is then x (nat_eq p r) else Looks a (λ n. Looks b (λ m. apart n p m r x)))
          (if is then y (nat_eq p r) else Looks a (λ n. Looks b (λ m. apart n p m r y)))
      by true = h _
      by false = looks (λ n. looks (λ m. two_apart n m))
  equal_same (Hidden what) v = fails
  equal_same (Number m) (Hidden what) = fails
  equal_same (Pointer a p) (Hidden what) = fails

  ordered_better : (less : ℕ → ℕ → Bool) (u v : Value) → Improves (ordered less u v x) (ordered less u v y)
  ordered_better less (Pointer a p) (Pointer b r) = by (same_home a b)
    where
      by : (is : Bool) → Improves (only_if is (x (less p r))) (only_if is (y (less p r)))
      by true = h _
      by false = fails
  ordered_better less (Pointer a p) (Number n) = fails
  ordered_better less (Pointer a p) (Hidden what) = fails
  ordered_better less (Number n) v = fails
  ordered_better less (Hidden what) v = fails

pub compared_better : {L : Type 0} (x y : Bool → Accesses L) → ((is : Bool) → Improves (x is) (y is)) →
    (o : BinaryOperator) (u v : Value) → Improves (compared o u v x) (compared o u v y)
compared_better x y h bin.Eq u v = equal_same x y h u v
compared_better x y h bin.Ne u v = equal_same (λ is. x (not is)) (λ is. y (not is)) (λ is. h (not is)) u v
compared_better x y h bin.Lt u v = ordered_better x y h (λ p r. nat_lt p r) u v
compared_better x y h bin.Le u v = ordered_better x y h (λ p r. nat_le p r) u v
compared_better x y h bin.Gt u v = ordered_better x y h (λ p r. nat_lt r p) u v
compared_better x y h bin.Ge u v = ordered_better x y h (λ p r. nat_le r p) u v
compared_better x y h _ u v = fails

-- a comparison is turned where falsehood is meant
module _ {L : Type 0} (next : Bool → Accesses L) where
  ordered_same : (less more : ℕ → ℕ → Bool) → ((p r : ℕ) → more p r ≡ not (less p r)) → (u v : Value) →
      Improves (ordered more u v next) (ordered less u v (λ is. next (not is)))
  ordered_same less more same (Pointer a p) (Pointer b r) = by (same_home a b)
    where
      by : (is : Bool) → Improves (only_if is (next (more p r))) (only_if is (next (not (less p r))))
      by true = equals _ _ (ap next (same p r))
      by false = fails
  ordered_same less more same (Pointer a p) (Number n) = fails
  ordered_same less more same (Pointer a p) (Hidden what) = fails
  ordered_same less more same (Number n) v = fails
  ordered_same less more same (Hidden what) v = fails

  twice : (is : Bool) → Improves (next is) (next (not (not is)))
  twice true = itself _
  twice false = itself _

  compared_turned : (meant : Bool) (o : BinaryOperator) (u v : Value) →
      Improves (compared (turned o meant) u v next) (compared o u v (λ is. next (agreeing is meant)))
  compared_turned true o u v = itself _
  compared_turned false bin.Eq u v = itself _
  compared_turned false bin.Ne u v = equal_same next (λ is. next (not (not is))) twice u v
  compared_turned false bin.Lt u v = ordered_same (λ p r. nat_lt p r) (λ p r. nat_le r p) (λ p r. le_is p r) u v
  compared_turned false bin.Le u v = ordered_same (λ p r. nat_le p r) (λ p r. nat_lt r p) (λ p r. lt_is p r) u v
  compared_turned false bin.Gt u v = ordered_same (λ p r. nat_lt r p) (λ p r. nat_le p r) (λ p r. le_is r p) u v
  compared_turned false bin.Ge u v = ordered_same (λ p r. nat_le r p) (λ p r. nat_lt p r) (λ p r. lt_is r p) u v
  compared_turned false _ u v = fails

  words_turned : (meant : Bool) (o : BinaryOperator) → is_comparison o ≡ true → (s : Signedness) (m n : ℕ) →
      Improves (with_value (binary_word (turned o meant) s m n) (λ i. next (is_true i)))
      (with_value (binary_word o s m n) (λ i. next (agreeing (is_true i) meant)))
  words_turned meant o e s m n =
      let t = turns meant o e s m n in
      subst (λ w. Improves (with_value w (λ i. next (is_true i)))
      (with_value (binary_word o s m n) (λ i. next (agreeing (is_true i) meant)))) (sym t.other)
      (subst (λ w. Improves (next (is_true (truth (agreeing t.is meant))))
      (with_value w (λ i. next (agreeing (is_true i) meant)))) (sym t.word)
      (equals _ _ (ap next (true_is (agreeing t.is meant)) ∙ ap (λ b. next (agreeing b meant)) (sym (true_is t.is)))))

  module _ (f : Frame) where
    -- what follows on the value of an operator as a condition
    abbrev after : (meant : Bool) → Binop → (a b : Expr) → Accesses L
    after meant o a b =
        value f a (λ u. value f b (λ v. binary o u v (λ x. on_truth x (λ is. next (agreeing is meant)))))

    by_value : (meant : Bool) (o : Binop) (a b : Expr) → Improves (test f (value_test meant (made_binop o a b)) next)
        (after meant o a b)
    by_value meant o a b = then_too (value_test_is f next meant (made_binop o a b))
        (binop_is (λ x. on_truth x (λ is. next (agreeing is meant))) f o a b)

    on_words_is : (meant : Bool) (o : BinaryOperator) (s : Signedness) (a b : Expr) (is : Bool) → is_comparison o ≡ is →
        Improves (test f (on_words_test meant o s a b is) next) (after meant (OnWords o s) a b)
    on_words_is meant o s a b false e = by_value meant (OnWords o s) a b
    on_words_is meant o s a b true e =
        then_too (words_test_is f next (turned o meant) s a b (known a) (known b) (known_is a) (known_is b))
        (value_better f a _ _ (λ u. value_better f b _ _ (λ v. words u _ _ (λ m. words v _ _
        (λ n. words_turned meant o e s m n)))))

    words_of_truth : (meant is : Bool) → Improves (next (agreeing is meant))
        (next (agreeing (is_true (truth is)) meant))
    words_of_truth meant true = itself _
    words_of_truth meant false = itself _

    pub binop_test_is : (meant : Bool) (o : Binop) (a b : Expr) →
        Improves (test f (binop_test meant o a b) next) (after meant o a b)
    binop_test_is meant (OnWords o s) a b = on_words_is meant o s a b (is_comparison o) refl
    binop_test_is meant (Compare o) a b =
        then_too (null_is f next (turned o meant) a b (known b) (known_is b))
        (value_better f a _ _ (λ u. value_better f b _ _
        (λ v. then_too (compared_turned meant o u v) (compared_better _ _ (λ is. words_of_truth meant is) o u v))))
    binop_test_is meant (PointerPlus s) a b = by_value meant (PointerPlus s) a b
    binop_test_is meant (PlusPointer s) a b = by_value meant (PlusPointer s) a b
    binop_test_is meant (PointerMinus s) a b = by_value meant (PointerMinus s) a b
    binop_test_is meant PointerDifference a b = by_value meant PointerDifference a b
