-- What the operators of the languages between give. Null is the word 0; a pointer is a place in a block.
use Rattle.std.specs.Prelude.{ℕ, ℤ, pos, negsuc, ◌+ℤ◌, neg_ℤ, nat_eq, nat_lt, nat_le, not, ◌||◌, Bool, true, false, Option, Some, None, if◌then◌else◌}
use Rattle.cas_base.specs.Word.{narrowed}
use Rattle.cas_syntax.specs.declared.tree.BinaryOperator.{BinaryOperator}
use Rattle.cas_syntax.specs.declared.tree.BinaryOperator.TheVariants as op
use Rattle.cas_typed.specs.declared.tree.Signedness.{Signedness}
use Rattle.cas_step.specs.Asks.{Asks, gives}
use Rattle.cas_step.specs.Pointers.{distance}
use Rattle.cas_step.specs.Operators.{number_of, truth, is_true, binary_result, unary_result}
use Rattle.cas_runs.specs.Naming.{Home, Value, Number, Pointer, Hidden, same_home}
use Rattle.cas_runs.specs.Access.{Accesses, Looks, Fails, with_value}
use Rattle.cas_mid.specs.declared.tree.Unop.{Unop}
use Rattle.cas_mid.specs.declared.tree.Unop.TheVariants.{OnWord, Narrow}
use Rattle.cas_mid.specs.declared.tree.Binop.{Binop}
use Rattle.cas_mid.specs.declared.tree.Binop.TheVariants.{OnWords, PointerPlus, PlusPointer, PointerMinus, PointerDifference, Compare}

-- the result, if there is one
abbrev pub result_of : {O A : Type 0} → Asks O A → Option A
result_of (gives a) = Some a
result_of _ = None

-- an operator on two words, read so
abbrev pub binary_word : BinaryOperator → Signedness → ℕ → ℕ → Option ℕ
binary_word o s m n = result_of (binary_result {O = ℕ} o s m n)

abbrev pub unary_word : Unop → ℕ → ℕ
unary_word (OnWord o) n = unary_result o n
unary_word (Narrow k) n = narrowed n k

-- a place, where the number is one
abbrev pub place_at : ℤ → Option ℕ
place_at (pos n) = Some n
place_at (negsuc n) = None

-- one or the other
abbrev pub either : {A : Type 0} → A → A → Bool → A
either a b true = a
either a b false = b

module _ {L : Type 0} where
  -- goes on with a value that is a word
  abbrev pub on_word : Value → (ℕ → Accesses L) → Accesses L
  on_word (Number n) next = next n
  on_word _ next = Fails

  -- goes on with the place at an index, which is read so
  abbrev pub on_index : Signedness → Value → (ℕ → Accesses L) → Accesses L
  on_index s v next = on_word v (λ i. with_value (place_at (number_of s i)) next)

  -- goes on with a value that is a pointer
  abbrev pub on_pointer : Value → (Home → ℕ → Accesses L) → Accesses L
  on_pointer (Pointer home p) next = next home p
  on_pointer _ next = Fails

  -- whether a value is true as a condition: a word other than 0, or a pointer
  abbrev pub on_truth : Value → (Bool → Accesses L) → Accesses L
  on_truth (Number n) next = next (is_true n)
  on_truth (Pointer home p) next = next true
  on_truth (Hidden what) next = Fails

  -- a pointer moved by a number of words
  abbrev pub moved : Home → ℕ → ℤ → (Value → Accesses L) → Accesses L
  moved home p i next = with_value (place_at (pos p +ℤ i)) (λ q. next (Pointer home q))

  abbrev pub only_if : Bool → Accesses L → Accesses L
  only_if true x = x
  only_if false x = Fails

  -- places in different blocks aren't equal; neither block may have ended, and each place has to be below its block's length
  abbrev pub apart : Option ℕ → ℕ → Option ℕ → ℕ → (Bool → Accesses L) → Accesses L
  apart (Some n) p (Some m) r next = if nat_le n p || nat_le m r then Fails else next false
  apart _ p _ r next = Fails

  -- whether two values are equal
  abbrev pub equal : Value → Value → (Bool → Accesses L) → Accesses L
  equal (Number m) (Number n) next = next (nat_eq m n)
  equal (Number m) (Pointer b r) next = next false
  equal (Pointer a p) (Number n) next = next false
  equal (Pointer a p) (Pointer b r) next =
      if same_home a b then next (nat_eq p r) else Looks a (λ n. Looks b (λ m. apart n p m r next))
  equal _ _ next = Fails

  -- by the order of places in one block
  abbrev pub ordered : (ℕ → ℕ → Bool) → Value → Value → (Bool → Accesses L) → Accesses L
  ordered test u v next = on_pointer u (λ a p. on_pointer v (λ b r. only_if (same_home a b) (next (test p r))))

  abbrev pub compared : BinaryOperator → Value → Value → (Bool → Accesses L) → Accesses L
  compared op.Eq u v next = equal u v next
  compared op.Ne u v next = equal u v (λ is. next (not is))
  compared op.Lt u v next = ordered (λ p r. nat_lt p r) u v next
  compared op.Le u v next = ordered (λ p r. nat_le p r) u v next
  compared op.Gt u v next = ordered (λ p r. nat_lt r p) u v next
  compared op.Ge u v next = ordered (λ p r. nat_le r p) u v next
  compared _ u v next = Fails

  abbrev pub binary : Binop → Value → Value → (Value → Accesses L) → Accesses L
  binary (OnWords o s) u v next =
      on_word u (λ m. on_word v (λ n. with_value (binary_word o s m n) (λ i. next (Number i))))
  binary (PointerPlus s) u v next = on_pointer u (λ home p. on_word v (λ n. moved home p (number_of s n) next))
  binary (PlusPointer s) u v next = on_pointer v (λ home p. on_word u (λ n. moved home p (number_of s n) next))
  binary (PointerMinus s) u v next = on_pointer u (λ home p. on_word v (λ n. moved home p (neg_ℤ (number_of s n)) next))
  binary PointerDifference u v next =
      on_pointer u (λ a p. on_pointer v (λ b r. only_if (same_home a b) (next (Number (distance p r)))))
  binary (Compare o) u v next = compared o u v (λ is. next (Number (truth is)))
