-- The expressions of Csharpminor and Cminor: their values, by what an address of an activation's own words is, and what
-- they cost. A value that may only be kept is refused where it is read.
use Rattle.std.specs.Prelude.{ℕ, List, [], ◌∷◌, ◌++◌, slice_get}
use Rattle.cas_syntax.specs.declared.tree.BinaryOperator.{BinaryOperator}
use Rattle.cas_syntax.specs.declared.tree.BinaryOperator.TheVariants as op
use Rattle.cas_runs.specs.Naming.{Value, Number, usable, usable_in}
use Rattle.cas_runs.specs.Access.{Accesses, Reads, Loads, with_value}
use Rattle.cas_mid.specs.declared.tree.Binop.{Binop}
use Rattle.cas_mid.specs.declared.tree.Binop.TheVariants.{OnWords, PointerPlus, PlusPointer, PointerMinus, PointerDifference, Compare}
use Rattle.cas_mid.specs.declared.price.TheConstants.{CONSTANT, TEMP, LOAD, OPERATOR, SHIFT, POINTER_MINUS, DIVISION, IF}
use Rattle.cas_mid.specs.Trees.{Expression, word, temporary, own, global, element, load, unop, binop, if_, Target, to_global, to_element, to_pointer}
use Rattle.cas_mid.specs.Operators.{unary_word, binary, either, on_word, on_index, on_pointer, on_truth}
use Rattle.cas_mid.specs.Language.{Frame, Location, in_global, in_block, Parts}

-- what the address of an activation's own words is: of a variable by its number, or of a word of the block by its
-- offset
abbrev pub Own : Type 0
Own = Frame → ℕ → Value

module _ {L : Type 0} (address : Own) (f : Frame) where
  abbrev pub value_of : Expression → (Value → Accesses L) → Accesses L
  value_of (word n) next = next (Number n)
  value_of (temporary t) next = with_value (usable_in (slice_get f.temporaries t)) next
  value_of (own n) next = next (address f n)
  value_of (global g) next = Reads g 0 (λ n. next (Number n))
  value_of (element g s a) next = value_of a (λ v. on_index s v (λ q. Reads g q (λ n. next (Number n))))
  value_of (load a) next = value_of a (λ v. on_pointer v (λ home p. Loads home p (λ u. with_value (usable u) next)))
  value_of (unop o a) next = value_of a (λ v. on_word v (λ n. next (Number (unary_word o n))))
  value_of (binop o a b) next = value_of a (λ u. value_of b (λ v. binary o u v next))
  value_of (if_ c a b) next = value_of c (λ v. on_truth v (λ is. either (value_of a next) (value_of b next) is))

  abbrev pub location_of : Target → (Location → Accesses L) → Accesses L
  location_of (to_global g) next = next (in_global g 0)
  location_of (to_element g s a) next = value_of a (λ v. on_index s v (λ q. next (in_global g q)))
  location_of (to_pointer a) next = value_of a (λ v. on_pointer v (λ home p. next (in_block home p)))

-- what an operator costs
abbrev pub word_operator_price : BinaryOperator → ℕ
word_operator_price op.Div = DIVISION
word_operator_price op.Mod = DIVISION
word_operator_price op.Shl = SHIFT
word_operator_price op.Shr = SHIFT
word_operator_price _ = OPERATOR

abbrev pub operator_price : Binop → ℕ
operator_price (OnWords o s) = word_operator_price o
operator_price (PointerPlus s) = OPERATOR
operator_price (PlusPointer s) = OPERATOR
operator_price (PointerMinus s) = POINTER_MINUS
operator_price PointerDifference = SHIFT
operator_price (Compare o) = OPERATOR

-- what an expression costs, with its parts
abbrev pub value_prices : Expression → List ℕ
value_prices (word n) = CONSTANT ∷ []
value_prices (temporary t) = TEMP ∷ []
value_prices (own n) = CONSTANT ∷ []
value_prices (global g) = LOAD ∷ []
value_prices (element g s a) = LOAD ∷ value_prices a
value_prices (load a) = LOAD ∷ value_prices a
value_prices (unop o a) = OPERATOR ∷ value_prices a
value_prices (binop o a b) = operator_price o ∷ value_prices a ++ value_prices b
value_prices (if_ c a b) = IF ∷ value_prices c ++ value_prices a ++ value_prices b

abbrev pub target_prices : Target → List ℕ
target_prices (to_global g) = []
target_prices (to_element g s a) = value_prices a
target_prices (to_pointer a) = value_prices a

-- such expressions as parts of a language
abbrev pub parts_by : Own → Parts Expression Target Expression
parts_by address = record {
  value = λ f e next. value_of address f e next;
  location = λ f m next. location_of address f m next;
  test = λ f c next. value_of address f c (λ v. on_truth v next);
  value_prices = value_prices;
  location_prices = target_prices;
  test_prices = value_prices;
}
