-- The value of a resolved expression, and the cell of a target. Operands are evaluated from left to right; the first
-- one without a result ends the evaluation.
use Rattle.std.specs.Prelude.{ℕ, ℤ, neg_ℤ, nat_eq, Bool, true, false, List, [], ◌∷◌, Option, Some, None, if◌then◌else◌}
use Rattle.cas_base.specs.Word.{narrowed}
use Rattle.cas_typed.specs.declared.tree.Signedness.{Signedness}
use Rattle.cas_typed.specs.Resolved as t
use Rattle.cas_typed.specs.Resolved.{TypedExprTree, TypedTargetTree, to_local, to_global, to_element, to_behind}
use Rattle.cas_step.specs.Asks.{Value, word, null, pointer, Asks, gives, stuck, reads, loads, and_then, word_in, pointed}
use Rattle.cas_step.specs.Env.{Entity, length_of}
use Rattle.cas_step.specs.Operators.{number_of, truth, is_true, place_below, or_index, binary_result, unary_result}
use Rattle.cas_step.specs.Pointers.{moved, behind, cell_behind, difference, compared}

-- the context of an evaluation: what the items of the module stand for, which objects are the locals of the
-- activation, and whether two objects are the same
pub record EvalContext (O : Type 0) : Type 0 where
  pub entity : (item : ℕ) → Option Entity
  pub own : (local : ℕ) → O
  pub same : O → O → Bool

-- a cell: at a place of an object, or of a global
pub data Cell (O : Type 0) : Type 0 where
  of_object : (object : O) → (place : ℕ) → Cell O
  of_global : (item place : ℕ) → Cell O

-- the first if the condition is true, else the second
abbrev pub either : {A : Type 0} → A → A → Bool → A
either a b true = a
either a b false = b

module _ {O : Type 0} where
  -- the first cell of a local
  abbrev pub local_value : O → Asks O (Value O)
  local_value o = loads o 0 gives

  -- the word at a place of a global
  abbrev pub global_value : (item place : ℕ) → Asks O (Value O)
  global_value g i = reads g i (λ n. gives (word n))

  -- the place of the only word of a global with this length
  abbrev pub only_place : Option ℕ → Asks O ℕ
  only_place None = stuck
  only_place (Some n) = if nat_eq n 1 then gives 0 else stuck

  -- the place with this number in a global with this length
  abbrev pub place_among : Option ℕ → ℤ → Asks O ℕ
  place_among None i = stuck
  place_among (Some n) i = or_index (place_below n i) gives

  -- the place of an element of a global array, by its index, a word that is read with this signedness
  abbrev pub element_place : EvalContext O → (item : ℕ) → Signedness → Value O → Asks O ℕ
  element_place s g sign v = and_then (word_in v) (λ n. place_among (length_of (s.entity g)) (number_of sign n))

  -- a pointer moved forward by a word that is read with this signedness
  abbrev pub forward : Signedness → (pointer number : Value O) → Asks O (Value O)
  forward sign u v = and_then (pointed u) (λ p. and_then (word_in v) (λ n. moved p (number_of sign n)))

  -- a pointer moved back
  abbrev pub backward : Signedness → (pointer number : Value O) → Asks O (Value O)
  backward sign u v = and_then (pointed u) (λ p. and_then (word_in v) (λ n. moved p (neg_ℤ (number_of sign n))))

  -- an evaluation on two pointers
  abbrev pub on_both : {A : Type 0} → (u v : Value O) → (Option (O × ℕ) → Option (O × ℕ) → Asks O A) → Asks O A
  on_both u v next = and_then (pointed u) (λ p. and_then (pointed v) (λ q. next p q))

  -- the result as a word
  abbrev pub a_word : Asks O ℕ → Asks O (Value O)
  a_word x = and_then x (λ n. gives (word n))

  abbrev pub a_truth : Asks O Bool → Asks O (Value O)
  a_truth x = and_then x (λ is. gives (word (truth is)))

  -- whether the value of a condition is true
  abbrev pub condition : Value O → Asks O Bool
  condition v = and_then (word_in v) (λ n. gives (is_true n))

  -- the value of an expression
  abbrev pub value_of : EvalContext O → TypedExprTree → Asks O (Value O)
  value_of s (t.literal n) = gives (word n)
  value_of s t.null = gives null
  value_of s (t.local n) = local_value (s.own n)
  value_of s (t.global g at) = and_then (only_place (length_of (s.entity g))) (global_value g)
  value_of s (t.element g at sign a) = and_then (value_of s a)
      (λ v. and_then (element_place s g sign v) (global_value g))
  value_of s (t.place_of n) = gives (pointer (s.own n) 0)
  value_of s (t.behind k p) = and_then (value_of s p) (λ u. and_then (pointed u) behind)
  value_of s (t.pointer_plus sign p a) = and_then (value_of s p) (λ u. and_then (value_of s a) (λ v. forward sign u v))
  value_of s (t.plus_pointer sign a p) = and_then (value_of s a) (λ v. and_then (value_of s p) (λ u. forward sign u v))
  value_of s (t.pointer_minus sign p a) = and_then (value_of s p)
      (λ u. and_then (value_of s a) (λ v. backward sign u v))
  value_of s (t.pointer_difference p q) = and_then (value_of s p)
      (λ u. and_then (value_of s q) (λ v. on_both u v (λ a b. a_word (difference s.same a b))))
  value_of s (t.compare op p q) = and_then (value_of s p)
      (λ u. and_then (value_of s q) (λ v. on_both u v (λ a b. a_truth (compared s.same op a b))))
  value_of s (t.unary op a) = and_then (value_of s a)
      (λ u. and_then (word_in u) (λ m. gives (word (unary_result op m))))
  value_of s (t.binary op sign a b) =
      and_then (value_of s a) (λ u. and_then (value_of s b) (λ v.
      and_then (word_in u) (λ m. and_then (word_in v) (λ n. a_word (binary_result op sign m n)))))
  value_of s (t.narrow k a) = and_then (value_of s a) (λ u. and_then (word_in u) (λ m. gives (word (narrowed m k))))
  value_of s (t.and_also a b) =
      and_then (value_of s a) (λ u. and_then (condition u)
      (either (and_then (value_of s b) (λ v. a_truth (condition v))) (gives (word 0))))
  value_of s (t.or_else a b) =
      and_then (value_of s a) (λ u. and_then (condition u)
      (either (gives (word 1)) (and_then (value_of s b) (λ v. a_truth (condition v)))))
  value_of s (t.choose c a b) = and_then (value_of s c)
      (λ u. and_then (condition u) (either (value_of s a) (value_of s b)))

  -- the values of expressions, from left to right
  abbrev pub values_of : EvalContext O → List TypedExprTree → Asks O (List (Value O))
  values_of s [] = gives []
  values_of s (a ∷ args) = and_then (value_of s a) (λ v. and_then (values_of s args) (λ vs. gives (v ∷ vs)))

  -- whether an expression is true as a condition
  abbrev pub test_of : EvalContext O → TypedExprTree → Asks O Bool
  test_of s a = and_then (value_of s a) condition

  -- the cell of a target
  abbrev pub target_of : EvalContext O → TypedTargetTree → Asks O (Cell O)
  target_of s (to_local n) = gives (of_object (s.own n) 0)
  target_of s (to_global g at) = and_then (only_place (length_of (s.entity g))) (λ i. gives (of_global g i))
  target_of s (to_element g at sign a) = and_then (value_of s a)
      (λ v. and_then (element_place s g sign v) (λ i. gives (of_global g i)))
  target_of s (to_behind k p) = and_then (value_of s p)
      (λ u. and_then (pointed u) (λ a. and_then (cell_behind a) (λ c. gives (of_object c.0 c.1))))
