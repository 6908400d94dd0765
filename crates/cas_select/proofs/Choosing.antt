-- What Selection makes of operators does what they do.
use Rattle.std.proofs.Common.{◌≡◌, ℕ, zero, suc, ◌^◌, List, [], ◌∷◌, Option, Some, None, Bool, true, false, if◌then◌else◌, nat_lt, nat_eq, nat_le, refl, sym, ap, ◌∙◌, subst, arith}
use Rattle.std.specs.Prelude.{ℤ, pos, negsuc, ◌+ℤ◌, not}
use Rattle.cas_runs.specs.Naming.{Home, Value, Number, Pointer, Hidden, same_home}
use Rattle.cas_runs.specs.Access.{Accesses, Looks, Then, Fails, with_value}
use Rattle.cas_syntax.specs.declared.tree.BinaryOperator.{BinaryOperator}
use Rattle.cas_syntax.specs.declared.tree.BinaryOperator.TheVariants as bin
use Rattle.cas_typed.specs.declared.tree.Signedness.{Signedness}
use Rattle.cas_typed.specs.declared.tree.Signedness.TheVariants.{Signed, Unsigned}
use Rattle.cas_step.specs.Operators.{number_of, place_below}
use Rattle.cas_mid.specs.declared.tree.Unop.{Unop}
use Rattle.cas_mid.specs.declared.tree.Binop.{Binop}
use Rattle.cas_mid.specs.declared.tree.Binop.TheVariants.{OnWords, PointerPlus, PlusPointer, PointerMinus, PointerDifference, Compare}
use Rattle.cas_mid.specs.Operators.{unary_word, binary_word, place_at, on_word, on_pointer, only_if, apart, equal, ordered, compared, binary}
use Rattle.cas_mid.specs.Language.{Frame}
use Rattle.cas_sel.specs.declared.tree.Op.TheVariants as op
use Rattle.cas_sel.specs.Query.{Query, asking, query_of}
use Rattle.cas_sel.specs.Trees.{Expr, temporary, operation, load, if_, no_more, one_more}
use Rattle.cas_sel.specs.Operations.{operate}
use Rattle.cas_sel.specs.CminorSel.{value, within}
use Rattle.cas_select.specs.Operators.{one, two, constant, stack_address, known, known_offset, exchanged, exponent, numbered, with_number, folded, number_first, made_on_words, made_with, at_offset, moved_from, moved, made_plus, made_plus_pointer, made_binop, made_unop_by, made_unop}
use Rattle.cas_select.proofs.Improving.{Improves, itself, equals, then_too, fails, looks, value_better}
use Rattle.cas_select.proofs.Words.{IsExponent, IsExchanged, exponent_is, product_is, quotient_is, remainder_is, exchanged_is}

abbrev pub IsKnown : Expr → Option ℕ → Type 0
IsKnown a None = Unit {0}
IsKnown a (Some n) = a ≡ constant n

pub known_is : (a : Expr) → IsKnown a (known a)
known_is (operation (op.Constant n) no_more) = refl
known_is _ = tt

abbrev pub IsKnownOffset : Expr → Option ℕ → Type 0
IsKnownOffset a None = Unit {0}
IsKnownOffset a (Some n) = a ≡ stack_address n

pub known_offset_is : (a : Expr) → IsKnownOffset a (known_offset a)
known_offset_is (operation (op.StackAddress n) no_more) = refl
known_offset_is _ = tt

-- an operator that is asked for its answer does what it does
module _ {L V : Type 0} where
  pub asked_given : {A : Type 0} (o : Option A) (x : A → Accesses V) (y : A → Accesses L) (next : V → Accesses L) →
      ((v : A) → Improves (asking (query_of (x v)) next) (y v)) →
      Improves (asking (query_of (with_value o x)) next) (with_value o y)
  asked_given None x y next h = fails
  asked_given (Some v) x y next h = h v

  pub asked_word : (v : Value) (x : ℕ → Accesses V) (y : ℕ → Accesses L) (next : V → Accesses L) →
      ((n : ℕ) → Improves (asking (query_of (x n)) next) (y n)) →
      Improves (asking (query_of (on_word v x)) next) (on_word v y)
  asked_word (Number n) x y next h = h n
  asked_word (Pointer home p) x y next h = fails
  asked_word (Hidden what) x y next h = fails

  pub asked_pointer : (v : Value) (x : Home → ℕ → Accesses V) (y : Home → ℕ → Accesses L) (next : V → Accesses L) →
      ((home : Home) (p : ℕ) → Improves (asking (query_of (x home p)) next) (y home p)) →
      Improves (asking (query_of (on_pointer v x)) next) (on_pointer v y)
  asked_pointer (Number n) x y next h = fails
  asked_pointer (Pointer home p) x y next h = h home p
  asked_pointer (Hidden what) x y next h = fails

  asked_if : (b : Bool) (x x' : Accesses V) (y y' : Accesses L) (next : V → Accesses L) →
      Improves (asking (query_of x) next) y → Improves (asking (query_of x') next) y' →
      Improves (asking (query_of (if b then x else x')) next) (if b then y else y')
  asked_if true x x' y y' next h k = h
  asked_if false x x' y y' next h k = k

  asked_only : (b : Bool) (x : Accesses V) (y : Accesses L) (next : V → Accesses L) →
      Improves (asking (query_of x) next) y →
      Improves (asking (query_of (only_if b x)) next) (only_if b y)
  asked_only true x y next h = h
  asked_only false x y next h = fails

  module _ (g : Bool → V) (y : Bool → Accesses L) (next : V → Accesses L)
      (h : (is : Bool) → Improves (next (g is)) (y is)) where
    asked_apart : (n : Option ℕ) (p : ℕ) (m : Option ℕ) (r : ℕ) →
        Improves (asking (query_of (apart n p m r (λ is. Then (g is)))) next) (apart n p m r y)
    asked_apart None p m r = fails
    asked_apart (Some n) p None r = fails
    asked_apart (Some n) p (Some m) r = asked_if _ Fails (Then (g false)) Fails (y false) next fails (h false)

    asked_equal : (u v : Value) → Improves (asking (query_of (equal u v (λ is. Then (g is)))) next) (equal u v y)
    asked_equal (Number m) (Number n) = h (nat_eq m n)
    asked_equal (Number m) (Pointer b r) = h false
    asked_equal (Pointer a p) (Number n) = h false
    asked_equal (Pointer a p) (Pointer b r) =
        asked_if (same_home a b) (Then (g (nat_eq p r)))
        (Looks a (λ n. Looks b (λ m. apart n p m r (λ is. Then (g is))))) (y (nat_eq p r))
        (Looks a (λ n. Looks b (λ m. apart n p m r y))) next (h (nat_eq p r))
        (looks (λ n. looks (λ m. asked_apart n p m r)))
    asked_equal (Hidden what) v = fails
    asked_equal (Number m) (Hidden what) = fails
    asked_equal (Pointer a p) (Hidden what) = fails

  asked_ordered : (less : ℕ → ℕ → Bool) (u v : Value) (g : Bool → V) (y : Bool → Accesses L) (next : V → Accesses L) →
      ((is : Bool) → Improves (next (g is)) (y is)) →
      Improves (asking (query_of (ordered less u v (λ is. Then (g is)))) next) (ordered less u v y)
  asked_ordered less u v g y next h = asked_pointer u _ _ next (λ a p. asked_pointer v _ _ next
      (λ b r. asked_only (same_home a b) (Then (g (less p r))) (y (less p r)) next (h (less p r))))

  pub asked_compared : (o : BinaryOperator) (u v : Value) (g : Bool → V) (y : Bool → Accesses L)
      (next : V → Accesses L) → ((is : Bool) → Improves (next (g is)) (y is)) →
      Improves (asking (query_of (compared o u v (λ is. Then (g is)))) next) (compared o u v y)
  asked_compared bin.Eq u v g y next h = asked_equal g y next h u v
  asked_compared bin.Ne u v g y next h = asked_equal (λ is. g (not is))
      (λ is. y (not is)) next (λ is. h (not is)) u v
  asked_compared bin.Lt u v g y next h = asked_ordered (λ p r. nat_lt p r) u v g y next h
  asked_compared bin.Le u v g y next h = asked_ordered (λ p r. nat_le p r) u v g y next h
  asked_compared bin.Gt u v g y next h = asked_ordered (λ p r. nat_lt r p) u v g y next h
  asked_compared bin.Ge u v g y next h = asked_ordered (λ p r. nat_le r p) u v g y next h
  asked_compared _ u v g y next h = fails

module _ {L : Type 0} (next : Value → Accesses L) where
  pub asked_binary : (o : Binop) (u v : Value) →
      Improves (asking (query_of (binary o u v (λ x. Then x))) next) (binary o u v next)
  asked_binary (OnWords o s) u v = asked_word u _ _ next (λ m. asked_word v _ _ next
      (λ n. asked_given (binary_word o s m n) _ _ next (λ i. itself (next (Number i)))))
  asked_binary (PointerPlus s) u v = asked_pointer u _ _ next (λ home p. asked_word v _ _ next
      (λ n. asked_given (place_at _) _ _ next (λ q. itself (next (Pointer home q)))))
  asked_binary (PlusPointer s) u v = asked_pointer v _ _ next (λ home p. asked_word u _ _ next
      (λ n. asked_given (place_at _) _ _ next (λ q. itself (next (Pointer home q)))))
  asked_binary (PointerMinus s) u v = asked_pointer u _ _ next (λ home p. asked_word v _ _ next
      (λ n. asked_given (place_at _) _ _ next (λ q. itself (next (Pointer home q)))))
  asked_binary PointerDifference u v = asked_pointer u _ _ next (λ a p. asked_pointer v _ _ next
      (λ b r. asked_only (same_home a b) _ _ next (itself _)))
  asked_binary (Compare o) u v = asked_compared o u v _ _ next (λ is. itself _)

  module _ (f : Frame) where
    numbered_is : (o : BinaryOperator) (s : Signedness) (n : ℕ) (k : Option ℕ) → IsExponent n k → (u : Value) →
        Improves (asking (operate (within f) (numbered o s n k) (u ∷ [])) next) (binary (OnWords o s) u (Number n) next)
    numbered_is bin.Mul s n (Some k) is (Number m) = equals _ _ (ap (λ i. next (Number i)) (product_is m n k is))
    numbered_is bin.Mul s n (Some k) is (Pointer home p) = fails
    numbered_is bin.Mul s n (Some k) is (Hidden what) = fails
    numbered_is bin.Div Unsigned n (Some k) is (Number m) =
        equals _ _ (ap (λ o. with_value o (λ i. next (Number i))) (quotient_is m n k is))
    numbered_is bin.Div Unsigned n (Some k) is (Pointer home p) = fails
    numbered_is bin.Div Unsigned n (Some k) is (Hidden what) = fails
    numbered_is bin.Mod Unsigned n (Some k) is (Number m) =
        equals _ _ (ap (λ o. with_value o (λ i. next (Number i))) (remainder_is m n k is))
    numbered_is bin.Mod Unsigned n (Some k) is (Pointer home p) = fails
    numbered_is bin.Mod Unsigned n (Some k) is (Hidden what) = fails
    numbered_is o s n k is u = asked_binary (OnWords o s) u (Number n)

    pub with_number_is : (o : BinaryOperator) (s : Signedness) (a : Expr) (n : ℕ) →
        Improves (value f (with_number o s a n) next) (value f a (λ u. binary (OnWords o s) u (Number n) next))
    with_number_is o s a n = value_better f a _ _ (λ u. numbered_is o s n (exponent n) (exponent_is n) u)

    binary_is : (o : Binop) (a b : Expr) →
        Improves (value f (operation (op.Binary o) (two a b)) next)
        (value f a (λ u. value f b (λ v. binary o u v next)))
    binary_is o a b = value_better f a _ _ (λ u. value_better f b _ _ (λ v. asked_binary o u v))

    number_is : (o : Binop) (a : Expr) (n : ℕ) →
        Improves (value f (operation (op.WithNumber o n) (one a)) next) (value f a (λ u. binary o u (Number n) next))
    number_is o a n = value_better f a _ _ (λ u. asked_binary o u (Number n))

    -- where the second operand, or the first, is known
    second : (o : Binop) (x : Accesses L) (a b : Expr) (n : ℕ) → b ≡ constant n →
        Improves x (value f a (λ u. binary o u (Number n) next)) →
        Improves x (value f a (λ u. value f b (λ v. binary o u v next)))
    second o x a b n e h = subst (λ c. Improves x (value f a (λ u. value f c (λ v. binary o u v next)))) (sym e) h

    first : (o : Binop) (x : Accesses L) (a b : Expr) (m : ℕ) → a ≡ constant m →
        Improves x (value f b (λ v. binary o (Number m) v next)) →
        Improves x (value f a (λ u. value f b (λ v. binary o u v next)))
    first o x a b m e h = subst (λ c. Improves x (value f c (λ u. value f b (λ v. binary o u v next)))) (sym e) h

    number_first_is : (o : BinaryOperator) (s : Signedness) (a b : Expr) (m : ℕ) → a ≡ constant m →
        (other : Option BinaryOperator) → IsExchanged o other →
        Improves (value f (number_first o s a b m other) next)
        (value f a (λ u. value f b (λ v. binary (OnWords o s) u v next)))
    number_first_is o s a b m e None is = binary_is (OnWords o s) a b
    number_first_is o s a b m e (Some other) is =
        first (OnWords o s) _ a b m e (then_too (with_number_is other s b m) (value_better f b _ _ turn))
      where
        turn : (v : Value) →
            Improves (binary (OnWords other s) v (Number m) next) (binary (OnWords o s) (Number m) v next)
        turn (Number n) = equals _ _ (ap (λ w. with_value w (λ i. next (Number i))) (is s m n))
        turn (Pointer home p) = fails
        turn (Hidden what) = fails

    on_words_is : (o : BinaryOperator) (s : Signedness) (a b : Expr) (ka kb : Option ℕ) → IsKnown a ka → IsKnown b kb →
        Improves (value f (made_on_words o s a b ka kb) next)
        (value f a (λ u. value f b (λ v. binary (OnWords o s) u v next)))
    on_words_is o s a b (Some m) (Some n) e e' = first (OnWords o s) _ a b m e
        (subst (λ c. Improves (value f (folded (with_number o s a n) (binary_word o s m n)) next)
        (value f c (λ v. binary (OnWords o s) (Number m) v next))) (sym e') (by (binary_word o s m n)))
      where
        by : (w : Option ℕ) →
            Improves (value f (folded (with_number o s a n) w) next) (with_value w (λ i. next (Number i)))
        by None = fails
        by (Some i) = itself _
    on_words_is o s a b None (Some n) e e' = second (OnWords o s) _ a b n e' (with_number_is o s a n)
    on_words_is o s a b (Some m) None e e' = number_first_is o s a b m e (exchanged o) (exchanged_is o)
    on_words_is o s a b None None e e' = binary_is (OnWords o s) a b

    with_is : (o : Binop) (a b : Expr) (kb : Option ℕ) → IsKnown b kb →
        Improves (value f (made_with o a b kb) next) (value f a (λ u. value f b (λ v. binary o u v next)))
    with_is o a b None e = binary_is o a b
    with_is o a b (Some n) e = second o _ a b n e (number_is o a n)

    placed_at : (x : Expr) (home : Home) (z : ℤ) →
        Improves (value f x next) (with_value (place_at z) (λ q. next (Pointer home q)))
        → ((q : ℕ) → value f (stack_address q) next ≡ next (Pointer home q))
        → Improves (value f (at_offset x (place_below (2 ^ 32) z)) next)
        (with_value (place_at z) (λ q. next (Pointer home q)))
    placed_at x home (negsuc n) h same = fails
    placed_at x home (pos n) h same = by (nat_lt n (2 ^ 32))
      where
        by : (b : Bool) → Improves (value f (at_offset x (if b then Some n else None)) next) (next (Pointer home n))
        by true = equals _ _ (same n)
        by false = h

    moved_is : (s : Signedness) (a : Expr) (n : ℕ) →
        Improves (value f (moved s a n) next) (value f a (λ u. binary (PointerPlus s) u (Number n) next))
    moved_is s a n = by (known_offset a) (known_offset_is a)
      where
        by : (k : Option ℕ) → IsKnownOffset a k →
            Improves (value f (moved_from s a n k) next) (value f a (λ u. binary (PointerPlus s) u (Number n) next))
        by None e = number_is (PointerPlus s) a n
        by (Some k) e =
            subst (λ c. Improves (value f (moved_from s c n (Some k)) next)
            (value f c (λ u. binary (PointerPlus s) u (Number n) next))) (sym e)
            (placed_at (operation (op.WithNumber (PointerPlus s) n) (one (stack_address k))) _ _
            (number_is (PointerPlus s) (stack_address k) n) (λ q. refl))

    plus_is : (s : Signedness) (a b : Expr) (kb : Option ℕ) → IsKnown b kb →
        Improves (value f (made_plus s a b kb) next) (value f a (λ u. value f b (λ v. binary (PointerPlus s) u v next)))
    plus_is s a b None e = binary_is (PointerPlus s) a b
    plus_is s a b (Some n) e = second (PointerPlus s) _ a b n e (moved_is s a n)

    plus_pointer_is : (s : Signedness) (a b : Expr) (ka : Option ℕ) → IsKnown a ka →
        Improves (value f (made_plus_pointer s a b ka) next)
        (value f a (λ u. value f b (λ v. binary (PlusPointer s) u v next)))
    plus_pointer_is s a b None e = binary_is (PlusPointer s) a b
    plus_pointer_is s a b (Some n) e = first (PlusPointer s) _ a b n e (moved_is s b n)

    pub binop_is : (o : Binop) (a b : Expr) →
        Improves (value f (made_binop o a b) next) (value f a (λ u. value f b (λ v. binary o u v next)))
    binop_is (OnWords o s) a b = on_words_is o s a b (known a) (known b) (known_is a) (known_is b)
    binop_is (PointerPlus s) a b = plus_is s a b (known b) (known_is b)
    binop_is (PlusPointer s) a b = plus_pointer_is s a b (known a) (known_is a)
    binop_is (PointerMinus s) a b = with_is (PointerMinus s) a b (known b) (known_is b)
    binop_is PointerDifference a b = binary_is PointerDifference a b
    binop_is (Compare o) a b = with_is (Compare o) a b (known b) (known_is b)

    pub unop_is : (o : Unop) (a : Expr) →
        Improves (value f (made_unop o a) next) (value f a (λ v. on_word v (λ n. next (Number (unary_word o n)))))
    unop_is o a = by (known a) (known_is a)
      where
        by : (k : Option ℕ) → IsKnown a k →
            Improves (value f (made_unop_by o a k) next)
            (value f a (λ v. on_word v (λ n. next (Number (unary_word o n)))))
        by None e = value_better f a _ _ (λ v. asked_word v _ _ next (λ n. itself _))
        by (Some n) e = subst (λ c. Improves (next (Number (unary_word o n)))
            (value f c (λ v. on_word v (λ i. next (Number (unary_word o i)))))) (sym e) (itself _)
