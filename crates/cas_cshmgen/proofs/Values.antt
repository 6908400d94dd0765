-- What is made of an expression has its value.
use Rattle.std.proofs.Common.{◌≡◌, ℕ, zero, suc, ◌+◌, List, Option, Some, None, Bool, true, false, if◌then◌else◌, slice_get, nat_lt, nat_eq, refl, sym, ap, subst}
use Rattle.std.specs.Prelude.{ℤ, pos, negsuc, ◌+ℤ◌, neg_ℤ, not, ◌||◌, nat_le}
use Rattle.cas_base.specs.Word.{narrowed}
use Rattle.cas_base.specs.declared.act.Why.TheVariants.{Index, Across}
use Rattle.cas_base.specs.declared.decl.Decl.{Decl}
use Rattle.cas_syntax.specs.declared.tree.BinaryOperator.{BinaryOperator}
use Rattle.cas_syntax.specs.declared.tree.BinaryOperator.TheVariants as bin
use Rattle.cas_typed.specs.declared.tree.Signedness.{Signedness}
use Rattle.cas_typed.specs.Resolved as t
use Rattle.cas_typed.specs.Resolved.{TypedExprTree}
use Rattle.cas_step.specs.Asks as asks
use Rattle.cas_step.specs.Asks.{Asks, word_in, and_then}
use Rattle.cas_step.specs.Operators.{number_of, place_below, or_index, truth, is_true, binary_result, unary_result, or_undefined, quotient, remainder}
use Rattle.cas_step.specs.Env as env
use Rattle.cas_step.specs.Env.{Entity, length_of as length_in}
use Rattle.cas_step.specs.Pointers.{distance, behind as behind_of, if_live, live, moved as moves_to, places, difference, is_same_place, equal as source_equal, compared as source_compared}
use Rattle.cas_step.specs.Evaluate as ev
use Rattle.cas_step.specs.Evaluate.{value_of, values_of, condition, a_word, a_truth, global_value, place_among, on_both}
use Rattle.cas_runs.specs.Held.{Activation, Held, Amounts, both_read, both_load, source_looks, target_looks, fails_too}
use Rattle.cas_runs.specs.Naming.{Home, Value, Number, Pointer, Hidden, Memory, same_home, usable}
use Rattle.cas_runs.specs.Access.{Accesses, Reads, Loads, Looks, Fails, with_value, length_of}
use Rattle.cas_runs.specs.Calls.{Last}
use Rattle.cas_runs.specs.Passing.{Relation}
use Rattle.cas_mid.specs.Operators.{result_of, binary_word, place_at, either, on_word, on_pointer, on_truth, moved, only_if, apart, equal, ordered, compared}
use Rattle.cas_mid.specs.Language.{Frame}
use Rattle.cas_mid.specs.Csharpminor.{CsharpState, value}
use Rattle.cas_clight.specs.Clight.{ClightFun, ClightState, Object, same_object, decoded, encoded, asked, context_of, entity_of, entity_by, keeps_pointer, own_home}
use Rattle.cas_cshmgen.specs.Makes.{made_expr, condition_of, name_of}
use Rattle.cas_cshmgen.proofs.Asked.{asked_then, then_then, fun_ext}
use Rattle.cas_cshmgen.proofs.Conditions.{same_condition}

abbrev pair : ℕ → ℕ → ℕ × ℕ
pair p r = (p, r)

-- what follows on two pointers, and then what follows on that
both_then : {A B C : Type 0} (u v : asks.Value Object) (f : Option (Object × ℕ) → Option (Object × ℕ) → Asks Object A)
    (g : A → Asks Object B) (next : B → Asks Object C) →
    on_both u v (λ a b. and_then (and_then (f a b) g) next) ≡ on_both u v
    (λ a b. and_then (f a b) (λ x. and_then (g x) next))
both_then u v f g next = ap (λ h. on_both u v h) (fun_ext (λ a. fun_ext (λ b. then_then (f a b) g next)))

abbrev pub cell_of : Object → ℕ → Object × ℕ
cell_of o p = (o, p)

abbrev loading_of : Object × ℕ → Asks Object (asks.Value Object)
loading_of c = asks.loads c.0 c.1 asks.gives

module _ {F G : Type 0} (r : Relation F CsharpState G ClightState) (w : Held F CsharpState G ClightState)
    (numbers : (i : ℕ) → r.by.match_values (Number i) (Number i)) (act : Activation F G) (fn : ClightFun) (serial : ℕ)
    (temps : List Value) where
  abbrev T : Type 0
  T = Accesses (Last CsharpState)

  abbrev U : Type 0
  U = Accesses (Last ClightState)

  abbrev pub Amount : ℕ → Memory → T → U → Type 0
  Amount credit m x y = Amounts r w act credit m m x y

  abbrev pub fr : Frame
  fr = record { function = fn.decl.name; serial = serial; temporaries = temps }

  abbrev ds : List Decl
  ds = fn.decls

  -- what follows on a value of both
  abbrev pub Follow : ℕ → Memory → (Value → T) → (asks.Value Object → U) → Type 0
  Follow credit m k k' = (u : asks.Value Object) → Amount credit m (k (encoded u)) (k' u)

  decoded_amounts : (credit : ℕ) (m : Memory) (b : Bool) (x : Value) (k : Value → T) (k' : asks.Value Object → U) →
      Follow credit m k k' → Amount credit m (with_value (usable x) k) (with_value (decoded b x) k')
  decoded_amounts credit m false (Number i) k k' more = more (asks.word i)
  decoded_amounts credit m false (Pointer home p) k k' more = fails_too
  decoded_amounts credit m false (Hidden what) k k' more = fails_too
  decoded_amounts credit m true (Number zero) k k' more = more asks.null
  decoded_amounts credit m true (Number (suc i)) k k' more = fails_too
  decoded_amounts credit m true (Pointer home p) k k' more =
      more (asks.pointer (record { home = home; has_pointer = false }) p)
  decoded_amounts credit m true (Hidden what) k k' more = fails_too

  -- an operator gives a word, or nothing
  undefined_amounts : (credit : ℕ) (m : Memory) (b : ℕ) (o : Option ℕ) (k : ℕ → T) (k' : ℕ → U) →
      ((i : ℕ) → Amount credit m (k i) (k' i)) → Amount credit m (with_value (result_of {O = ℕ} (or_undefined b o)) k)
      (asked ds (or_undefined b o) k')
  undefined_amounts credit m b None k k' more = fails_too
  undefined_amounts credit m b (Some i) k k' more = more i

  result_amounts : (credit : ℕ) (m : Memory) (op : BinaryOperator) (s : Signedness) (a b : ℕ) (k : ℕ → T) (k' : ℕ → U) →
      ((i : ℕ) → Amount credit m (k i) (k' i)) → Amount credit m (with_value (binary_word op s a b) k)
      (asked ds (binary_result op s a b) k')
  result_amounts credit m bin.Add s a b k k' more = more _
  result_amounts credit m bin.Sub s a b k k' more = more _
  result_amounts credit m bin.Mul s a b k k' more = more _
  result_amounts credit m bin.Div s a b k k' more = undefined_amounts credit m b (quotient s a b) k k' more
  result_amounts credit m bin.Mod s a b k k' more = undefined_amounts credit m b (remainder s a b) k k' more
  result_amounts credit m bin.Shl s a b k k' more = more _
  result_amounts credit m bin.Shr s a b k k' more = more _
  result_amounts credit m bin.BitAnd s a b k k' more = more _
  result_amounts credit m bin.BitOr s a b k k' more = more _
  result_amounts credit m bin.BitXor s a b k k' more = more _
  result_amounts credit m bin.Eq s a b k k' more = more _
  result_amounts credit m bin.Ne s a b k k' more = more _
  result_amounts credit m bin.Lt s a b k k' more = more _
  result_amounts credit m bin.Le s a b k k' more = more _
  result_amounts credit m bin.Gt s a b k k' more = more _
  result_amounts credit m bin.Ge s a b k k' more = more _

  -- where the source uses a value as a word
  pub word_amounts : (credit : ℕ) (m : Memory) (u : asks.Value Object) (k : ℕ → T) {A : Type 0}
      (next : ℕ → Asks Object A) (k' : A → U) → ((i : ℕ) → Amount credit m (k i) (asked ds (next i) k')) →
      Amount credit m (on_word (encoded u) k) (asked ds (and_then (word_in u) next) k')
  word_amounts credit m (asks.word i) k next k' more = more i
  word_amounts credit m asks.null k next k' more = fails_too
  word_amounts credit m (asks.pointer o p) k next k' more = fails_too

  -- one branch or the other
  either_amounts : (credit : ℕ) (m : Memory) (b : Bool) (x y : T) {A : Type 0} (a c : Asks Object A) (k' : A → U) →
      Amount credit m x (asked ds a k') → Amount credit m y (asked ds c k') →
      Amount credit m (either x y b) (asked ds (ev.either a c b) k')
  either_amounts credit m true x y a c k' left right = left
  either_amounts credit m false x y a c k' left right = right

  global_amounts : (credit : ℕ) (m : Memory) (item : ℕ) (k : Value → T) (k' : asks.Value Object → U) →
      Follow credit m k k' → (o : Option Decl) → slice_get ds item ≡ o →
      Amount credit m (Reads (name_of o) 0 (λ i. k (Number i)))
      (asked ds (and_then (ev.only_place (length_in (entity_of o))) (global_value item)) k')
  global_amounts credit m item k k' more None is = fails_too
  global_amounts credit m item k k' more (Some d) is = by (entity_by d.form)
    where
      reading : Amount credit m (Reads d.name 0 (λ i. k (Number i))) (asked ds (global_value item 0) k')
      reading =
          subst (λ (o : Option Decl). Amount credit m (Reads d.name 0 (λ i. k (Number i)))
          (with_value o (λ (e : Decl). Reads e.name 0 (λ i. k' (asks.word i))))) (sym is)
          (both_read (λ i good. more (asks.word i)))

      one : (b : Bool) → Amount credit m (Reads d.name 0 (λ i. k (Number i)))
          (asked ds (and_then (if b then asks.gives 0 else asks.stuck) (global_value item)) k')
      one true = reading
      one false = fails_too

      by : (e : Entity) → Amount credit m (Reads d.name 0 (λ i. k (Number i)))
          (asked ds (and_then (ev.only_place (length_in (Some e))) (global_value item)) k')
      by (env.shared first size guard) = one (nat_eq size 1)
      by (env.table first size) = one (nat_eq size 1)
      by (env.function at) = fails_too
      by env.outside = fails_too
      by (env.lock number) = fails_too

  abbrev Valued : TypedExprTree → Type 0
  Valued e = (credit : ℕ) (m : Memory) (k : Value → T) (k' : asks.Value Object → U) → Follow credit m k k' →
      Amount credit m (value fr (made_expr ds e) k) (asked ds (value_of (context_of fn serial) e) k')

  -- first a part, then what follows on its value
  part : (e : TypedExprTree) → Valued e → (credit : ℕ) (m : Memory) (k : Value → T) {A : Type 0}
      (next : asks.Value Object → Asks Object A) (k' : A → U) →
      ((u : asks.Value Object) → Amount credit m (k (encoded u)) (asked ds (next u) k')) →
      Amount credit m (value fr (made_expr ds e) k) (asked ds (and_then (value_of (context_of fn serial) e) next) k')
  part e v credit m k next k' more = subst (λ y. Amount credit m (value fr (made_expr ds e) k) y)
      (sym (asked_then ds (value_of (context_of fn serial) e) next k')) (v credit m k (λ u. asked ds (next u) k') more)

  behind_amounts : (credit : ℕ) (m : Memory) (k : Value → T) (k' : asks.Value Object → U) → Follow credit m k k' →
      (u : asks.Value Object) → Amount credit m (on_pointer (encoded u) (λ home p. Loads home p (λ x. with_value (usable x) k)))
      (asked ds (and_then (asks.pointed u) behind_of) k')
  behind_amounts credit m k k' more (asks.word i) = fails_too
  behind_amounts credit m k k' more asks.null = fails_too
  behind_amounts credit m k k' more (asks.pointer o p) = source_looks (by (length_of (m o.home)))
    where
      loading : Amount credit m (Loads o.home p (λ x. with_value (usable x) k))
          (Loads o.home p (λ v. with_value (decoded o.has_pointer v) k'))
      loading = both_load (λ x. x) (λ x e. e) (λ x e. decoded_amounts credit m o.has_pointer x k k' more)

      within : (b : Bool) → Amount credit m (Loads o.home p (λ x. with_value (usable x) k))
          (asked ds (and_then (if b then asks.gives (cell_of o p) else asks.fails Index) loading_of) k')
      within true = loading
      within false = fails_too

      by : (size : Option ℕ) → Amount credit m (Loads o.home p (λ x. with_value (usable x) k))
          (asked ds
          (and_then (if_live (λ size. if nat_lt p size then asks.gives (cell_of o p) else asks.fails Index) size)
          loading_of) k')
      by None = fails_too
      by (Some size) = within (nat_lt p size)

  -- where the source uses a value as a condition
  pub condition_amounts : (credit : ℕ) (m : Memory) (u : asks.Value Object) (k : Bool → T) {A : Type 0}
      (next : Bool → Asks Object A) (k' : A → U) → ((b : Bool) → Amount credit m (k b) (asked ds (next b) k')) →
      Amount credit m (on_truth (encoded u) k) (asked ds (and_then (condition u) next) k')
  condition_amounts credit m (asks.word i) k next k' more = more (is_true i)
  condition_amounts credit m asks.null k next k' more = fails_too
  condition_amounts credit m (asks.pointer o p) k next k' more = fails_too

  -- an expression as a condition, and what follows on it
  pub tested : (e : TypedExprTree) → Valued e → (credit : ℕ) (m : Memory) (k : Bool → T) {A : Type 0}
      (next : Bool → Asks Object A) (k' : A → U) → ((b : Bool) → Amount credit m (k b) (asked ds (next b) k')) →
      Amount credit m (value fr (condition_of (made_expr ds e)) (λ v. on_truth v k))
      (asked ds (and_then (value_of (context_of fn serial) e) (λ u. and_then (condition u) next)) k')
  tested e v credit m k next k' more =
      subst (λ y. Amount credit m y
      (asked ds (and_then (value_of (context_of fn serial) e) (λ u. and_then (condition u) next)) k'))
      (sym (same_condition fr k (made_expr ds e))) (part e v credit m (λ u. on_truth u k)
      (λ u. and_then (condition u) next) k' (λ u. condition_amounts credit m u k next k' more))

  -- 1 or 0 by a condition
  truth_amounts : (b : TypedExprTree) → Valued b → (credit : ℕ) (m : Memory) (k : Value → T)
      (k' : asks.Value Object → U) → Follow credit m k k' →
      Amount credit m (value fr (condition_of (made_expr ds b))
      (λ u. on_truth u (λ is. either (k (Number 1)) (k (Number 0)) is)))
      (asked ds (and_then (value_of (context_of fn serial) b) (λ v. a_truth (condition v))) k')
  truth_amounts b v credit m k k' more = tested b v credit m (λ is. either (k (Number 1)) (k (Number 0)) is)
      (λ is. asks.gives (asks.word (truth is))) k' one_or_zero
    where
      one_or_zero : (is : Bool) → Amount credit m (either (k (Number 1)) (k (Number 0)) is) (k' (asks.word (truth is)))
      one_or_zero true = more (asks.word 1)
      one_or_zero false = more (asks.word 0)

  -- an index among the words of a global

  index_amounts : (credit : ℕ) (m : Memory) (item : ℕ) (d : Decl) → slice_get ds item ≡ Some d →
      (len : ℕ) (z : ℤ) (k : ℕ → T) {A : Type 0} (next : ℕ → Asks Object A) (k' : A → U) →
      ((q : ℕ) → Amount credit m (k q) (asked ds (next q) k')) →
      Amount credit m (with_value (place_at z) k) (asked ds (and_then (or_index (place_below len z) asks.gives) next)
      k')
  index_amounts credit m item d is len (negsuc z) k next k' more = fails_too
  index_amounts credit m item d is len (pos q) k next k' more = by (nat_lt q len)
    where
      by : (b : Bool) →
          Amount credit m (k q) (asked ds (and_then (or_index (if b then Some q else None) asks.gives) next) k')
      by true = more q
      by false = fails_too

  -- the word at a place of a global that is there
  word_there : (credit : ℕ) (m : Memory) (item : ℕ) (d : Decl) → slice_get ds item ≡ Some d →
      (q : ℕ) (k : Value → T) (k' : asks.Value Object → U) → Follow credit m k k' →
      Amount credit m (Reads d.name q (λ i. k (Number i))) (asked ds (global_value item q) k')
  word_there credit m item d is q k k' more =
      subst (λ (o : Option Decl). Amount credit m (Reads d.name q (λ i. k (Number i)))
      (with_value o (λ (e : Decl). Reads e.name q (λ i. k' (asks.word i))))) (sym is)
      (both_read (λ i good. more (asks.word i)))

  -- a place among the words of a global, and what follows on it
  pub element_amounts : (credit : ℕ) (m : Memory) (item : ℕ) (sign : Signedness) (u : asks.Value Object)
      (k : (d : Decl) → ℕ → T) {A : Type 0} (next : ℕ → Asks Object A) (k' : A → U) →
      ((d : Decl) → slice_get ds item ≡ Some d → (q : ℕ) → Amount credit m (k d q) (asked ds (next q) k')) →
      (o : Option Decl) → slice_get ds item ≡ o → (k₀ : ℕ → T) → ((d : Decl) → o ≡ Some d → (q : ℕ) → k₀ q ≡ k d q) →
      Amount credit m (on_word (encoded u) (λ i. with_value (place_at (number_of sign i)) k₀))
      (asked ds (and_then (and_then (word_in u) (λ i. place_among (length_in (entity_of o)) (number_of sign i))) next)
      k')
  element_amounts credit m item sign asks.null k next k' more o is k₀ eq = fails_too
  element_amounts credit m item sign (asks.pointer p q) k next k' more o is k₀ eq = fails_too
  element_amounts credit m item sign (asks.word i) k next k' more None is k₀ eq = fails_too
  element_amounts credit m item sign (asks.word i) k next k' more (Some d) is k₀ eq = by (entity_by d.form)
    where
      found : (len : ℕ) → Amount credit m (with_value (place_at (number_of sign i)) k₀)
          (asked ds (and_then (or_index (place_below len (number_of sign i)) asks.gives) next) k')
      found len = index_amounts credit m item d is len (number_of sign i) k₀ next k'
          (λ q. subst (λ x. Amount credit m x (asked ds (next q) k')) (sym (eq d refl q)) (more d is q))

      by : (e : Entity) → Amount credit m (with_value (place_at (number_of sign i)) k₀)
          (asked ds (and_then (place_among (length_in (Some e)) (number_of sign i)) next) k')
      by (env.shared first size guard) = found size
      by (env.table first size) = found size
      by (env.function at) = fails_too
      by env.outside = fails_too
      by (env.lock number) = fails_too

  -- Pointers.

  pointer_amounts : (credit : ℕ) (m : Memory) (u : asks.Value Object) (k : Home → ℕ → T) {A : Type 0}
      (next : Option (Object × ℕ) → Asks Object A) (k' : A → U) →
      ((o : Object) (p : ℕ) → Amount credit m (k o.home p) (asked ds (next (Some (cell_of o p))) k')) →
      Amount credit m (on_pointer (encoded u) k) (asked ds (next None) k') →
      Amount credit m (on_pointer (encoded u) k) (asked ds (and_then (asks.pointed u) next) k')
  pointer_amounts credit m (asks.word i) k next k' more none = fails_too
  pointer_amounts credit m asks.null k next k' more none = none
  pointer_amounts credit m (asks.pointer o p) k next k' more none = more o p

  -- a pointer moved by a number
  moved_amounts : (credit : ℕ) (m : Memory) (o : Object) (p : ℕ) (z : ℤ) (k : Value → T) (k' : asks.Value Object → U) →
      Follow credit m k k' → Amount credit m (with_value (place_at z) (λ q. k (Pointer o.home q)))
      (asked ds (live o (λ size. or_index (place_below (size + 1) z) (λ q. asks.gives (asks.pointer o q)))) k')
  moved_amounts credit m o p z k k' more = source_looks (by (length_of (m o.home)))
    where
      inside : (size : ℕ) (z : ℤ) → Amount credit m (with_value (place_at z) (λ q. k (Pointer o.home q)))
          (asked ds (or_index (place_below (size + 1) z) (λ q. asks.gives (asks.pointer o q))) k')
      inside size (negsuc z) = fails_too
      inside size (pos q) = either_way (nat_lt q (size + 1))
        where
          either_way : (b : Bool) → Amount credit m (k (Pointer o.home q))
              (asked ds (or_index (if b then Some q else None) (λ q. asks.gives (asks.pointer o q))) k')
          either_way true = more (asks.pointer o q)
          either_way false = fails_too

      by : (n : Option ℕ) → Amount credit m (with_value (place_at z) (λ q. k (Pointer o.home q)))
          (asked ds (if_live (λ size. or_index (place_below (size + 1) z) (λ q. asks.gives (asks.pointer o q))) n) k')
      by None = fails_too
      by (Some size) = inside size z

  moves_amounts : (credit : ℕ) (m : Memory) (u v : asks.Value Object) (f : ℕ → ℤ) (k : Value → T)
      (k' : asks.Value Object → U) → Follow credit m k k' →
      Amount credit m (on_pointer (encoded u) (λ home p. on_word (encoded v) (λ n. moved home p (f n) k)))
      (asked ds (and_then (asks.pointed u) (λ a. and_then (word_in v) (λ n. moves_to a (f n)))) k')
  moves_amounts credit m u v f k k' more = pointer_amounts credit m u _ _ k'
      (λ o p. word_amounts credit m v _ _ k' (λ i. moved_amounts credit m o p (pos p +ℤ f i) k k' more)) (nothing v)
    where
      nothing : (v : asks.Value Object) → Amount credit m
          (on_pointer (encoded u) (λ home p. on_word (encoded v) (λ n. moved home p (f n) k)))
          (asked ds (and_then (word_in v) (λ n. moves_to None (f n))) k')
      nothing (asks.word i) = fails_too
      nothing asks.null = fails_too
      nothing (asks.pointer o p) = fails_too

  -- the number first
  moved_by_amounts : (credit : ℕ) (m : Memory) (u v : asks.Value Object) (f : ℕ → ℤ) (k : Value → T)
      (k' : asks.Value Object → U) → Follow credit m k k' →
      Amount credit m (on_pointer (encoded v) (λ home p. on_word (encoded u) (λ n. moved home p (f n) k)))
      (asked ds (and_then (asks.pointed v) (λ a. and_then (word_in u) (λ n. moves_to a (f n)))) k')
  moved_by_amounts credit m u v f k k' more = moves_amounts credit m v u f k k' more

  -- two pointers into one object
  pair_amounts : (credit : ℕ) (m : Memory) (u v : asks.Value Object) (k : ℕ → ℕ → T) {A : Type 0}
      (next : ℕ × ℕ → Asks Object A) (k' : A → U) →
      ((p r : ℕ) → Amount credit m (k p r) (asked ds (next (pair p r)) k')) →
      Amount credit m (on_pointer (encoded u) (λ a p. on_pointer (encoded v) (λ b r. only_if (same_home a b) (k p r))))
      (asked ds (on_both u v (λ a b. and_then (places same_object a b) next)) k')
  pair_amounts credit m (asks.word i) v k next k' more = fails_too
  pair_amounts credit m asks.null (asks.word i) k next k' more = fails_too
  pair_amounts credit m asks.null asks.null k next k' more = fails_too
  pair_amounts credit m asks.null (asks.pointer o p) k next k' more = fails_too
  pair_amounts credit m (asks.pointer o p) (asks.word i) k next k' more = fails_too
  pair_amounts credit m (asks.pointer o p) asks.null k next k' more = fails_too
  pair_amounts credit m (asks.pointer o p) (asks.pointer q r) k next k' more =
      source_looks (first (length_of (m o.home)))
    where
      same : (b : Bool) → Amount credit m (only_if b (k p r))
          (asked ds (and_then (if b then asks.gives (pair p r) else asks.fails Across) next) k')
      same true = more p r
      same false = fails_too

      second : (n : Option ℕ) → Amount credit m (only_if (same_home o.home q.home) (k p r))
          (asked ds (and_then (if_live (λ m'. if same_object o q then asks.gives (pair p r) else asks.fails Across) n)
          next) k')
      second None = fails_too
      second (Some n) = same (same_home o.home q.home)

      first : (n : Option ℕ) → Amount credit m (only_if (same_home o.home q.home) (k p r))
          (asked ds
          (and_then (if_live (λ n'. live q (λ m'. if same_object o q then asks.gives (pair p r) else asks.fails Across))
          n) next) k')
      first None = fails_too
      first (Some n) = source_looks (second (length_of (m q.home)))

  -- whether they are equal
  equal_amounts : (credit : ℕ) (m : Memory) (u v : asks.Value Object) (k : Bool → T) {A : Type 0}
      (next : Bool → Asks Object A) (k' : A → U) → ((b : Bool) → Amount credit m (k b) (asked ds (next b) k')) →
      Amount credit m (equal (encoded u) (encoded v) k)
      (asked ds (on_both u v (λ a b. and_then (source_equal same_object a b) next)) k')
  equal_amounts credit m (asks.word i) v k next k' more = fails_too
  equal_amounts credit m asks.null (asks.word i) k next k' more = fails_too
  equal_amounts credit m asks.null asks.null k next k' more = more true
  equal_amounts credit m asks.null (asks.pointer q r) k next k' more = source_looks (by (length_of (m q.home)))
    where
      by : (n : Option ℕ) →
          Amount credit m (k false) (asked ds (and_then (if_live (λ size. asks.gives false) n) next) k')
      by None = fails_too
      by (Some n) = more false
  equal_amounts credit m (asks.pointer o p) (asks.word i) k next k' more = fails_too
  equal_amounts credit m (asks.pointer o p) asks.null k next k' more = source_looks (by (length_of (m o.home)))
    where
      by : (n : Option ℕ) →
          Amount credit m (k false) (asked ds (and_then (if_live (λ size. asks.gives false) n) next) k')
      by None = fails_too
      by (Some n) = more false
  equal_amounts credit m (asks.pointer o p) (asks.pointer q r) k next k' more = one (same_home o.home q.home)
    where
      apart_amounts : (n m' : ℕ) (b : Bool) → Amount credit m (if b then Fails else k false)
          (asked ds (and_then (if b then asks.fails Across else asks.gives false) next) k')
      apart_amounts n m' true = fails_too
      apart_amounts n m' false = more false

      different : (n : ℕ) (n' : Option ℕ) → Amount credit m (apart (Some n) p n' r k)
          (asked ds (and_then (if_live (λ size'. is_same_place same_object false p n r size') n') next) k')
      different n None = fails_too
      different n (Some n') = apart_amounts n n' (nat_le n p || nat_le n' r)

      differ : (n : Option ℕ) → Amount credit m (apart n p (length_of (m q.home)) r k)
          (asked ds (and_then (if_live (λ size. live q (λ size'. is_same_place same_object false p size r size')) n)
          next) k')
      differ None = fails_too
      differ (Some n) = source_looks (different n (length_of (m q.home)))

      equal_places : (n : ℕ) (n' : Option ℕ) → Amount credit m (k (nat_eq p r))
          (asked ds (and_then (if_live (λ size'. is_same_place same_object true p n r size') n') next) k')
      equal_places n None = fails_too
      equal_places n (Some n') = more (nat_eq p r)

      same : (n : Option ℕ) → Amount credit m (k (nat_eq p r))
          (asked ds (and_then (if_live (λ size. live q (λ size'. is_same_place same_object true p size r size')) n)
          next) k')
      same None = fails_too
      same (Some n) = source_looks (equal_places n (length_of (m q.home)))

      one : (b : Bool) →
          Amount credit m (if b then k (nat_eq p r) else Looks o.home (λ n. Looks q.home (λ n'. apart n p n' r k)))
          (asked ds (and_then (live o (λ size. live q (λ size'. is_same_place same_object b p size r size'))) next) k')
      one true = source_looks (same (length_of (m o.home)))
      one false = target_looks (target_looks (source_looks (differ (length_of (m o.home)))))

  -- what has no sense
  senseless_pair : (credit : ℕ) (m : Memory) (u v : asks.Value Object) {A : Type 0} (next : Bool → Asks Object A)
      (k' : A → U) → Amount credit m Fails (asked ds (on_both u v (λ a b. and_then asks.stuck next)) k')
  senseless_pair credit m (asks.word i) v next k' = fails_too
  senseless_pair credit m asks.null (asks.word i) next k' = fails_too
  senseless_pair credit m asks.null asks.null next k' = fails_too
  senseless_pair credit m asks.null (asks.pointer o p) next k' = fails_too
  senseless_pair credit m (asks.pointer o p) (asks.word i) next k' = fails_too
  senseless_pair credit m (asks.pointer o p) asks.null next k' = fails_too
  senseless_pair credit m (asks.pointer o p) (asks.pointer q r) next k' = fails_too

  -- how they compare
  compared_amounts : (credit : ℕ) (m : Memory) (op : BinaryOperator) (u v : asks.Value Object)
      (k : Bool → T) {A : Type 0} (next : Bool → Asks Object A) (k' : A → U) →
      ((b : Bool) → Amount credit m (k b) (asked ds (next b) k')) →
      Amount credit m (compared op (encoded u) (encoded v) k)
      (asked ds (on_both u v (λ a b. and_then (source_compared same_object op a b) next)) k')
  compared_amounts credit m bin.Eq u v k next k' more = equal_amounts credit m u v k next k' more
  compared_amounts credit m bin.Ne u v k next k' more =
      subst (λ y. Amount credit m (equal (encoded u) (encoded v) (λ is. k (not is))) y)
      (ap (λ z. asked ds z k')
      (sym (both_then u v (λ a b. source_equal same_object a b) (λ is. asks.gives (not is)) next)))
      (equal_amounts credit m u v (λ is. k (not is)) (λ is. next (not is)) k' (λ b. more (not b)))
  compared_amounts credit m bin.Lt u v k next k' more =
      subst (λ y. Amount credit m (ordered (λ p r. nat_lt p r) (encoded u) (encoded v) k) y)
      (ap (λ z. asked ds z k')
      (sym (both_then u v (λ a b. places same_object a b) (λ ps. asks.gives (nat_lt ps.0 ps.1)) next)))
      (pair_amounts credit m u v (λ p r. k (nat_lt p r)) (λ ps. next (nat_lt ps.0 ps.1)) k' (λ p r. more (nat_lt p r)))
  compared_amounts credit m bin.Le u v k next k' more =
      subst (λ y. Amount credit m (ordered (λ p r. nat_le p r) (encoded u) (encoded v) k) y)
      (ap (λ z. asked ds z k')
      (sym (both_then u v (λ a b. places same_object a b) (λ ps. asks.gives (nat_le ps.0 ps.1)) next)))
      (pair_amounts credit m u v (λ p r. k (nat_le p r)) (λ ps. next (nat_le ps.0 ps.1)) k' (λ p r. more (nat_le p r)))
  compared_amounts credit m bin.Gt u v k next k' more =
      subst (λ y. Amount credit m (ordered (λ p r. nat_lt r p) (encoded u) (encoded v) k) y)
      (ap (λ z. asked ds z k')
      (sym (both_then u v (λ a b. places same_object a b) (λ ps. asks.gives (nat_lt ps.1 ps.0)) next)))
      (pair_amounts credit m u v (λ p r. k (nat_lt r p)) (λ ps. next (nat_lt ps.1 ps.0)) k' (λ p r. more (nat_lt r p)))
  compared_amounts credit m bin.Ge u v k next k' more =
      subst (λ y. Amount credit m (ordered (λ p r. nat_le r p) (encoded u) (encoded v) k) y)
      (ap (λ z. asked ds z k')
      (sym (both_then u v (λ a b. places same_object a b) (λ ps. asks.gives (nat_le ps.1 ps.0)) next)))
      (pair_amounts credit m u v (λ p r. k (nat_le r p)) (λ ps. next (nat_le ps.1 ps.0)) k' (λ p r. more (nat_le r p)))
  compared_amounts credit m bin.Add u v k next k' more = senseless_pair credit m u v next k'
  compared_amounts credit m bin.Sub u v k next k' more = senseless_pair credit m u v next k'
  compared_amounts credit m bin.Mul u v k next k' more = senseless_pair credit m u v next k'
  compared_amounts credit m bin.Div u v k next k' more = senseless_pair credit m u v next k'
  compared_amounts credit m bin.Mod u v k next k' more = senseless_pair credit m u v next k'
  compared_amounts credit m bin.Shl u v k next k' more = senseless_pair credit m u v next k'
  compared_amounts credit m bin.Shr u v k next k' more = senseless_pair credit m u v next k'
  compared_amounts credit m bin.BitAnd u v k next k' more = senseless_pair credit m u v next k'
  compared_amounts credit m bin.BitOr u v k next k' more = senseless_pair credit m u v next k'
  compared_amounts credit m bin.BitXor u v k next k' more = senseless_pair credit m u v next k'

  -- how many cells are between two pointers
  differs_amounts : (credit : ℕ) (m : Memory) (u v : asks.Value Object) (k : Value → T) (k' : asks.Value Object → U) →
      Follow credit m k k' →
      Amount credit m
      (on_pointer (encoded u)
      (λ a p. on_pointer (encoded v) (λ b r. only_if (same_home a b) (k (Number (distance p r))))))
      (asked ds (on_both u v (λ a b. a_word (difference same_object a b))) k')
  differs_amounts credit m u v k k' more =
      subst (λ y. Amount credit m
      (on_pointer (encoded u)
      (λ a p. on_pointer (encoded v) (λ b r. only_if (same_home a b) (k (Number (distance p r)))))) y)
      (ap (λ z. asked ds z k')
      (sym (both_then u v (λ a b. places same_object a b) (λ ps. asks.gives (distance ps.0 ps.1))
      (λ n. asks.gives (asks.word n)))))
      (pair_amounts credit m u v (λ p r. k (Number (distance p r))) (λ ps. asks.gives (asks.word (distance ps.0 ps.1)))
      k' (λ p r. more (asks.word (distance p r))))

  pub value_amounts : (e : TypedExprTree) → Valued e
  value_amounts (t.literal i) credit m k k' more = more (asks.word i)
  value_amounts t.null credit m k k' more = more asks.null
  value_amounts (t.local i) credit m k k' more = both_load (λ x. x) (λ x e. e)
      (λ x e. decoded_amounts credit m (keeps_pointer (slice_get fn.locals i)) x k k' more)
  value_amounts (t.global item at) credit m k k' more = global_amounts credit m item k k' more (slice_get ds item) refl
  value_amounts (t.element item at s a) credit m k k' more =
      part a (value_amounts a) credit m _ _ k' (λ u. element_amounts credit m item s u
      (λ d q. Reads d.name q (λ i. k (Number i))) (global_value item) k'
      (λ d is q. word_there credit m item d is q k k' more) (slice_get ds item) refl _
      (λ d is q. ap (λ (o : Option Decl). Reads (name_of o) q (λ i. k (Number i))) is))
  value_amounts (t.place_of i) credit m k k' more = more
      (asks.pointer (record { home = own_home fn serial i; has_pointer = keeps_pointer (slice_get fn.locals i) }) 0)
  value_amounts (t.behind kind p) credit m k k' more =
      part p (value_amounts p) credit m _ _ k' (behind_amounts credit m k k' more)
  value_amounts (t.pointer_plus s p a) credit m k k' more =
      part p (value_amounts p) credit m _ _ k' (λ u. part a (value_amounts a) credit m _ _ k'
      (λ v. moves_amounts credit m u v (number_of s) k k' more))
  value_amounts (t.plus_pointer s a p) credit m k k' more =
      part a (value_amounts a) credit m _ _ k' (λ v. part p (value_amounts p) credit m _ _ k'
      (λ u. moves_amounts credit m u v (number_of s) k k' more))
  value_amounts (t.pointer_minus s p a) credit m k k' more =
      part p (value_amounts p) credit m _ _ k' (λ u. part a (value_amounts a) credit m _ _ k'
      (λ v. moves_amounts credit m u v (λ n. neg_ℤ (number_of s n)) k k' more))
  value_amounts (t.pointer_difference p q) credit m k k' more =
      part p (value_amounts p) credit m _ _ k' (λ u. part q (value_amounts q) credit m _ _ k'
      (λ v. differs_amounts credit m u v k k' more))
  value_amounts (t.compare op p q) credit m k k' more =
      part p (value_amounts p) credit m _ _ k' (λ u. part q (value_amounts q) credit m _ _ k'
      (λ v. compared_amounts credit m op u v (λ is. k (Number (truth is))) (λ is. asks.gives (asks.word (truth is))) k'
      (λ b. more (asks.word (truth b)))))
  value_amounts (t.unary op a) credit m k k' more = part a (value_amounts a) credit m _ _ k'
      (λ u. word_amounts credit m u _ _ k' (λ i. more (asks.word (unary_result op i))))
  value_amounts (t.binary op s a b) credit m k k' more =
      part a (value_amounts a) credit m _ _ k' (λ u. part b (value_amounts b) credit m _ _ k' (λ v.
      word_amounts credit m u _ _ k' (λ i. word_amounts credit m v _ _ k' (λ j.
      subst (λ y. Amount credit m (with_value (binary_word op s i j) (λ x. k (Number x))) y)
      (sym (asked_then ds (binary_result op s i j) (λ x. asks.gives (asks.word x)) k'))
      (result_amounts credit m op s i j (λ x. k (Number x)) (λ x. k' (asks.word x)) (λ x. more (asks.word x)))))))
  value_amounts (t.narrow kind a) credit m k k' more =
      part a (value_amounts a) credit m _ _ k' (λ u. word_amounts credit m u _ _ k'
      (λ i. more (asks.word (narrowed i kind))))
  value_amounts (t.and_also a b) credit m k k' more =
      tested a (value_amounts a) credit m _
      (ev.either (and_then (value_of (context_of fn serial) b) (λ v. a_truth (condition v)))
      (asks.gives (asks.word 0))) k' (λ is.
      either_amounts credit m is _ _ _ _ k' (truth_amounts b (value_amounts b) credit m k k' more) (more (asks.word 0)))
  value_amounts (t.or_else a b) credit m k k' more =
      tested a (value_amounts a) credit m _ (ev.either (asks.gives (asks.word 1))
      (and_then (value_of (context_of fn serial) b) (λ v. a_truth (condition v)))) k' (λ is.
      either_amounts credit m is _ _ _ _ k' (more (asks.word 1)) (truth_amounts b (value_amounts b) credit m k k' more))
  value_amounts (t.choose c a b) credit m k k' more =
      tested c (value_amounts c) credit m _ (ev.either (value_of (context_of fn serial) a)
      (value_of (context_of fn serial) b)) k' (λ is.
      either_amounts credit m is _ _ _ _ k' (value_amounts a credit m k k' more) (value_amounts b credit m k k' more))
