-- What evaluating reads: words of the globals that are named, at places below their lengths.
use Rattle.std.proofs.Common.{arith, ◌≡◌, ℕ, ◌<◌, Bool, true, false, List, [], ◌∷◌, ◌++◌, Option, Some, None, refl, sym, subst}
use Rattle.std.specs.Prelude.{⊤, ◌+◌, ℤ, pos, negsuc, neg_ℤ, ◌+ℤ◌, nat_eq, nat_lt, nat_le, ◌==◌, ◌||◌, if◌then◌else◌, Contains}
use Rattle.std.proofs.lemmas.List.Elements.{Contains-append_left, Contains-append_right}
use Rattle.std.proofs.lemmas.Bool.{ltb-true, eqb-true}
use Rattle.cas_syntax.specs.declared.tree.BinaryOperator.{BinaryOperator}
use Rattle.cas_syntax.specs.declared.tree.BinaryOperator.TheVariants as bin
use Rattle.cas_typed.specs.declared.tree.Signedness.{Signedness}
use Rattle.cas_typed.specs.Resolved as t
use Rattle.cas_typed.specs.Resolved.{TypedExprTree, TypedTargetTree, to_local, to_global, to_element, to_behind}
use Rattle.cas_step.specs.Asks.{Value, word, null, pointer, Asks, gives, fails, stuck, reads, looks, loads, and_then, word_in, pointed}
use Rattle.cas_step.specs.Env.{Entity, length_of}
use Rattle.cas_step.specs.Evaluate.{EvalContext, Cell, of_object, of_global, either, local_value, global_value, only_place, place_among, element_place, forward, backward, on_both, a_word, a_truth, condition, value_of, values_of, test_of, target_of}
use Rattle.cas_step.specs.Laws.{names, target_names, names_of_all}
use Rattle.cas_step.specs.Operators.{number_of, place_below, or_index, or_undefined, quotient, remainder, binary_result}
use Rattle.cas_step.specs.Pointers.{live, moved, behind, cell_behind, places, difference, is_same_place, equal, compared}

-- a place below a length
abbrev pub IsBelow : ℕ → Option ℕ → Type 0
IsBelow i None = ⊥
IsBelow i (Some n) = i < n

-- a place below the length of a global
abbrev pub IsPlaceIn : Option Entity → ℕ → Type 0
IsPlaceIn it i = IsBelow i (length_of it)

-- it reads words of these globals, at places below their lengths, and what it gives is so
abbrev pub Within : {O A : Type 0} → (ℕ → Option Entity) → (ℕ → Type 0) → Asks O A → (A → Type 0) → Type 0
Within entity N (gives a) P = P a
Within entity N (fails why) P = ⊤
Within entity N stuck P = ⊤
Within entity N (reads g i more) P = N g × IsPlaceIn (entity g) i × ((n : ℕ) → Within entity N (more n) P)
Within entity N (looks o more) P = (size : Option ℕ) → Within entity N (more size) P
Within {O} entity N (loads o p more) P = (v : Value O) → Within entity N (more v) P

-- anything
abbrev pub Any : {A : Type 0} → A → Type 0
Any a = ⊤

-- one that is named, and a place below its length
abbrev pub Below : (ℕ → Option Entity) → (ℕ → Type 0) → (item : ℕ) → (place : ℕ) → Type 0
Below entity N g i = N g × IsPlaceIn (entity g) i

module _ {O : Type 0} (entity : ℕ → Option Entity) (N : ℕ → Type 0) where
  pub then_within : {A B : Type 0} (P : A → Type 0) (Q : B → Type 0) (x : Asks O A) (next : A → Asks O B) →
      Within entity N x P →
      ((a : A) → P a → Within entity N (next a) Q) → Within entity N (and_then x next) Q
  then_within P Q (gives a) next h go = go a h
  then_within P Q (fails why) next h go = tt
  then_within P Q stuck next h go = tt
  then_within P Q (reads g i more) next h go = (h.0, h.1, λ n. then_within P Q (more n) next (h.2 n) go)
  then_within P Q (looks o more) next h go = λ size. then_within P Q (more size) next (h size) go
  then_within P Q (loads o p more) next h go = λ v. then_within P Q (more v) next (h v) go

  pub word_within : (v : Value O) → Within entity N (word_in v) Any
  word_within (word n) = tt
  word_within null = tt
  word_within (pointer o p) = tt

  pub pointed_within : (v : Value O) → Within entity N (pointed v) Any
  pointed_within (word n) = tt
  pointed_within null = tt
  pointed_within (pointer o p) = tt

  live_within : {A : Type 0} (P : A → Type 0) (o : O) (next : ℕ → Asks O A) →
      ((size : ℕ) → Within entity N (next size) P) → Within entity N (live o next) P
  live_within P o next h None = tt
  live_within P o next h (Some size) = h size

  index_within : {A : Type 0} (P : A → Type 0) (place : Option ℕ) (next : ℕ → Asks O A) →
      ((i : ℕ) → place ≡ Some i → Within entity N (next i) P) → Within entity N (or_index place next) P
  index_within P None next h = tt
  index_within P (Some i) next h = h i refl

  if_within : {A : Type 0} (P : A → Type 0) (b : Bool) (x y : Asks O A) → Within entity N x P → Within entity N y P →
      Within entity N (if b then x else y) P
  if_within P true x y h k = h
  if_within P false x y h k = k

  moved_within : (p : Option (O × ℕ)) (i : ℤ) → Within entity N (moved p i) Any
  moved_within None i = tt
  moved_within (Some (o, p)) i =
      live_within Any o _ (λ size. index_within Any (place_below (size + 1) (pos p +ℤ i)) _ (λ q is. tt))

  local_within : (o : O) → Within entity N (local_value o) Any
  local_within o = λ v. tt

  cell_behind_within : (p : Option (O × ℕ)) → Within entity N (cell_behind p) Any
  cell_behind_within None = tt
  cell_behind_within (Some (o, p)) = live_within Any o _ (λ size. if_within Any (nat_lt p size) _ _ tt tt)

  behind_within : (p : Option (O × ℕ)) → Within entity N (behind p) Any
  behind_within p = then_within Any Any (cell_behind p) _ (cell_behind_within p) (λ c h v. tt)

  places_within : (same : O → O → Bool) (p q : Option (O × ℕ)) → Within entity N (places same p q) Any
  places_within same None q = tt
  places_within same (Some (o, p)) None = tt
  places_within same (Some (o, p)) (Some (q, r)) = live_within Any o _
      (λ cells. live_within Any q _ (λ others. if_within Any (same o q) _ _ tt tt))

  same_place_within : (same : O → O → Bool) (one : Bool) (p n r m : ℕ) →
      Within entity N (is_same_place same one p n r m) Any
  same_place_within same true p n r m = tt
  same_place_within same false p n r m = if_within Any (nat_le n p || nat_le m r) _ _ tt tt

  equal_within : (same : O → O → Bool) (p q : Option (O × ℕ)) → Within entity N (equal same p q) Any
  equal_within same None None = tt
  equal_within same None (Some (q, r)) = live_within Any q _ (λ cells. tt)
  equal_within same (Some (o, p)) None = live_within Any o _ (λ cells. tt)
  equal_within same (Some (o, p)) (Some (q, r)) =
      live_within Any o _ (λ cells. live_within Any q _ (λ others. same_place_within same (same o q) p cells r others))

  compared_within : (same : O → O → Bool) (op : BinaryOperator) (p q : Option (O × ℕ)) →
      Within entity N (compared same op p q) Any
  compared_within same bin.Eq p q = equal_within same p q
  compared_within same bin.Ne p q = then_within Any Any (equal same p q) _ (equal_within same p q) (λ a h. tt)
  compared_within same bin.Lt p q = then_within Any Any (places same p q) _ (places_within same p q) (λ a h. tt)
  compared_within same bin.Le p q = then_within Any Any (places same p q) _ (places_within same p q) (λ a h. tt)
  compared_within same bin.Gt p q = then_within Any Any (places same p q) _ (places_within same p q) (λ a h. tt)
  compared_within same bin.Ge p q = then_within Any Any (places same p q) _ (places_within same p q) (λ a h. tt)
  compared_within same bin.Add p q = tt
  compared_within same bin.Sub p q = tt
  compared_within same bin.Mul p q = tt
  compared_within same bin.Div p q = tt
  compared_within same bin.Mod p q = tt
  compared_within same bin.Shl p q = tt
  compared_within same bin.Shr p q = tt
  compared_within same bin.BitAnd p q = tt
  compared_within same bin.BitOr p q = tt
  compared_within same bin.BitXor p q = tt

  difference_within : (same : O → O → Bool) (p q : Option (O × ℕ)) → Within entity N (difference same p q) Any
  difference_within same p q = then_within Any Any (places same p q) _ (places_within same p q) (λ a h. tt)

  condition_within : (v : Value O) → Within entity N (condition v) Any
  condition_within v = then_within Any Any (word_in v) _ (word_within v) (λ n h. tt)

  truth_within : (x : Asks O Bool) → Within entity N x Any → Within entity N (a_truth x) Any
  truth_within x h = then_within Any Any x _ h (λ is k. tt)

  a_word_within : (x : Asks O ℕ) → Within entity N x Any → Within entity N (a_word x) Any
  a_word_within x h = then_within Any Any x _ h (λ n k. tt)

  forward_within : (sign : Signedness) (u v : Value O) → Within entity N (forward sign u v) Any
  forward_within sign u v = then_within Any Any (pointed u) _ (pointed_within u)
      (λ p k. then_within Any Any (word_in v) _ (word_within v) (λ n h. moved_within p (number_of sign n)))

  backward_within : (sign : Signedness) (u v : Value O) → Within entity N (backward sign u v) Any
  backward_within sign u v = then_within Any Any (pointed u) _ (pointed_within u)
      (λ p k. then_within Any Any (word_in v) _ (word_within v) (λ n h. moved_within p (neg_ℤ (number_of sign n))))

  on_both_within : {A : Type 0} (u v : Value O) (next : Option (O × ℕ) → Option (O × ℕ) → Asks O A) →
      ((p q : Option (O × ℕ)) → Within entity N (next p q) Any) → Within entity N (on_both u v next) Any
  on_both_within u v next go = then_within Any Any (pointed u) _ (pointed_within u)
      (λ p h. then_within Any Any (pointed v) _ (pointed_within v) (λ q k. go p q))

  either_within : {A : Type 0} (P : A → Type 0) (x y : Asks O A) (b : Bool) → Within entity N x P →
      Within entity N y P → Within entity N (either x y b) P
  either_within P x y true h k = h
  either_within P x y false h k = k

undefined_within : (O : Type 0) (entity : ℕ → Option Entity) (N : ℕ → Type 0) (divisor : ℕ) (r : Option ℕ) →
    Within {O = O} entity N (or_undefined divisor r) Any
undefined_within O entity N b None = tt
undefined_within O entity N b (Some n) = tt

binary_within : (O : Type 0) (entity : ℕ → Option Entity) (N : ℕ → Type 0) (op : BinaryOperator) (sign : Signedness)
    (a b : ℕ) → Within {O = O} entity N (binary_result op sign a b) Any
binary_within O entity N bin.Add s a b = tt
binary_within O entity N bin.Sub s a b = tt
binary_within O entity N bin.Mul s a b = tt
binary_within O entity N bin.Div s a b = undefined_within O entity N b (quotient s a b)
binary_within O entity N bin.Mod s a b = undefined_within O entity N b (remainder s a b)
binary_within O entity N bin.Shl s a b = tt
binary_within O entity N bin.Shr s a b = tt
binary_within O entity N bin.BitAnd s a b = tt
binary_within O entity N bin.BitOr s a b = tt
binary_within O entity N bin.BitXor s a b = tt
binary_within O entity N bin.Eq s a b = tt
binary_within O entity N bin.Ne s a b = tt
binary_within O entity N bin.Lt s a b = tt
binary_within O entity N bin.Le s a b = tt
binary_within O entity N bin.Gt s a b = tt
binary_within O entity N bin.Ge s a b = tt

-- a place that is found is below the limit
below_by : (limit m n : ℕ) (b : Bool) → nat_lt m limit ≡ b → (if b then Some m else None) ≡ Some n → n < limit
below_by limit m n true e f = let same : m ≡ n = cc f in subst (λ k. k < limit) same (ltb-true m limit e)
below_by limit m n false e f = absurd (cc f)

pub below : (limit : ℕ) (i : ℤ) (n : ℕ) → place_below limit i ≡ Some n → n < limit
below limit (pos m) n e = below_by limit m n (nat_lt m limit) refl e
below limit (negsuc m) n e = absurd (cc e)

module _ {O : Type 0} (s : EvalContext O) (N : ℕ → Type 0) where
  among_within : (g : ℕ) → N g → (len : Option ℕ) → (i : ℤ) →
      Within {O = O} s.entity N (place_among len i) (λ n. N g × IsBelow n len)
  among_within g named None i = tt
  among_within g named (Some len) i = index_within s.entity N (λ n. N g × IsBelow n (Some len)) (place_below len i)
      gives (λ n is. (named, below len i n is))

  only_by : (g : ℕ) → N g → (len : ℕ) (is_one : Bool) → nat_eq len 1 ≡ is_one →
      Within {O = O} s.entity N (if is_one then gives 0 else stuck) (λ n. N g × IsBelow n (Some len))
  only_by g named len true e = (named, subst (λ k. 0 < k) (sym (eqb-true len 1 e)) (omega arith))
  only_by g named len false e = tt

  only_within : (g : ℕ) → N g → (len : Option ℕ) → Within {O = O} s.entity N (only_place len) (λ n. N g × IsBelow n len)
  only_within g named None = tt
  only_within g named (Some len) = only_by g named len (nat_eq len 1) refl

  element_within : (g : ℕ) → N g → (sign : Signedness) (v : Value O) →
      Within s.entity N (element_place s g sign v) (Below s.entity N g)
  element_within g named sign v = then_within s.entity N Any (Below s.entity N g) (word_in v) _
      (word_within s.entity N v) (λ n h. among_within g named (length_of (s.entity g)) (number_of sign n))

  global_within : (g i : ℕ) → Below s.entity N g i → Within {O = O} s.entity N (global_value g i) Any
  global_within g i h = (h.0, h.1, λ n. tt)

  -- each of these is named
  abbrev pub AllNamed : List ℕ → Type 0
  AllNamed gs = (g : ℕ) → Contains gs g → N g

  pub left : (gs hs : List ℕ) → AllNamed (gs ++ hs) → AllNamed gs
  left gs hs all g c = all g (Contains-append_left gs hs g c)

  pub right : (gs hs : List ℕ) → AllNamed (gs ++ hs) → AllNamed hs
  right gs hs all g c = all g (Contains-append_right gs hs g c)

  first : (g : ℕ) (gs : List ℕ) → AllNamed (g ∷ gs) → N g
  first g gs all = all g (0, omega arith, refl)

  others : (g : ℕ) (gs : List ℕ) → AllNamed (g ∷ gs) → AllNamed gs
  others g gs all = right (g ∷ []) gs all

  -- two operands and then an operation
  both_within : {A B C : Type 0} (x : Asks O A) (y : Asks O B) (next : A → B → Asks O C) → Within s.entity N x Any →
      Within s.entity N y Any →
      ((a : A) (b : B) → Within s.entity N (next a b) Any) →
      Within s.entity N (and_then x (λ a. and_then y (λ b. next a b))) Any
  both_within x y next h k go = then_within s.entity N Any Any x _ h
      (λ a p. then_within s.entity N Any Any y _ k (λ b q. go a b))

  words_within : (op : BinaryOperator) (sign : Signedness) (u v : Value O) →
      Within s.entity N (and_then (word_in u) (λ m. and_then (word_in v) (λ n. a_word (binary_result op sign m n)))) Any
  words_within op sign u v = both_within (word_in u) (word_in v) _ (word_within s.entity N u) (word_within s.entity N v)
      (λ m n. a_word_within s.entity N (binary_result op sign m n) (binary_within O s.entity N op sign m n))

  -- a condition and then one of two
  chosen_within : {A : Type 0} (x : Asks O (Value O)) (y z : Asks O A) → Within s.entity N x Any →
      Within s.entity N y Any → Within s.entity N z Any →
      Within s.entity N (and_then x (λ u. and_then (condition u) (either y z))) Any
  chosen_within x y z h k l = then_within s.entity N Any Any x _ h
      (λ u p. then_within s.entity N Any Any (condition u) _ (condition_within s.entity N u)
      (λ is q. either_within s.entity N Any y z is k l))

  tested_within : (x : Asks O (Value O)) → Within s.entity N x Any →
      Within s.entity N (and_then x (λ v. a_truth (condition v))) Any
  tested_within x h = then_within s.entity N Any Any x _ h
      (λ v p. truth_within s.entity N (condition v) (condition_within s.entity N v))

  pub value_within : (a : TypedExprTree) → AllNamed (names a) → Within s.entity N (value_of s a) Any
  value_within (t.literal n) all = tt
  value_within t.null all = tt
  value_within (t.local n) all = local_within s.entity N (s.own n)
  value_within (t.global g at) all = then_within s.entity N (Below s.entity N g) Any
      (only_place (length_of (s.entity g))) _ (only_within g (first g [] all) (length_of (s.entity g)))
      (global_within g)
  value_within (t.element g at sign a) all =
      then_within s.entity N Any Any (value_of s a) _ (value_within a (others g (names a) all)) (λ v p.
      then_within s.entity N (Below s.entity N g) Any (element_place s g sign v) _
      (element_within g (first g (names a) all) sign v) (global_within g))
  value_within (t.place_of n) all = tt
  value_within (t.behind k p) all = then_within s.entity N Any Any (value_of s p) _ (value_within p all)
      (λ u h. then_within s.entity N Any Any (pointed u) _ (pointed_within s.entity N u)
      (λ q k. behind_within s.entity N q))
  value_within (t.pointer_plus sign p a) all =
      both_within (value_of s p) (value_of s a) _ (value_within p (left (names p) (names a) all))
      (value_within a (right (names p) (names a) all)) (λ u v. forward_within s.entity N sign u v)
  value_within (t.plus_pointer sign a p) all =
      both_within (value_of s a) (value_of s p) _ (value_within a (left (names a) (names p) all))
      (value_within p (right (names a) (names p) all)) (λ v u. forward_within s.entity N sign u v)
  value_within (t.pointer_minus sign p a) all =
      both_within (value_of s p) (value_of s a) _ (value_within p (left (names p) (names a) all))
      (value_within a (right (names p) (names a) all)) (λ u v. backward_within s.entity N sign u v)
  value_within (t.pointer_difference p q) all =
      both_within (value_of s p) (value_of s q) _ (value_within p (left (names p) (names q) all))
      (value_within q (right (names p) (names q) all))
      (λ u v. on_both_within s.entity N u v _ (λ a b. a_word_within s.entity N (difference s.same a b)
      (difference_within s.entity N s.same a b)))
  value_within (t.compare op p q) all =
      both_within (value_of s p) (value_of s q) _ (value_within p (left (names p) (names q) all))
      (value_within q (right (names p) (names q) all))
      (λ u v. on_both_within s.entity N u v _ (λ a b. truth_within s.entity N (compared s.same op a b)
      (compared_within s.entity N s.same op a b)))
  value_within (t.unary op a) all =
      then_within s.entity N Any Any (value_of s a) _ (value_within a all)
      (λ u h. then_within s.entity N Any Any (word_in u) _ (word_within s.entity N u) (λ m k. tt))
  value_within (t.binary op sign a b) all =
      both_within (value_of s a) (value_of s b) _ (value_within a (left (names a) (names b) all))
      (value_within b (right (names a) (names b) all)) (λ u v. words_within op sign u v)
  value_within (t.narrow k a) all =
      then_within s.entity N Any Any (value_of s a) _ (value_within a all)
      (λ u h. then_within s.entity N Any Any (word_in u) _ (word_within s.entity N u) (λ m i. tt))
  value_within (t.and_also a b) all =
      chosen_within (value_of s a) _ _ (value_within a (left (names a) (names b) all))
      (tested_within (value_of s b) (value_within b (right (names a) (names b) all))) tt
  value_within (t.or_else a b) all =
      chosen_within (value_of s a) _ _ (value_within a (left (names a) (names b) all)) tt
      (tested_within (value_of s b) (value_within b (right (names a) (names b) all)))
  value_within (t.choose c a b) all =
      chosen_within (value_of s c) _ _
      (value_within c (left (names c) (names a) (left (names c ++ names a) (names b) all)))
      (value_within a (right (names c) (names a) (left (names c ++ names a) (names b) all)))
      (value_within b (right (names c ++ names a) (names b) all))

  pub values_within : (args : List TypedExprTree) → AllNamed (names_of_all args) →
      Within s.entity N (values_of s args) Any
  values_within [] all = tt
  values_within (a ∷ args) all =
      both_within (value_of s a) (values_of s args) _ (value_within a (left (names a) (names_of_all args) all))
      (values_within args (right (names a) (names_of_all args) all)) (λ v vs. tt)

  pub test_within : (a : TypedExprTree) → AllNamed (names a) → Within s.entity N (test_of s a) Any
  test_within a all = then_within s.entity N Any Any (value_of s a) _ (value_within a all)
      (λ v h. condition_within s.entity N v)

  -- a cell of a global is named, at a place below its length
  abbrev pub CellBelow : Cell O → Type 0
  CellBelow (of_object o p) = ⊤
  CellBelow (of_global g i) = Below s.entity N g i

  pub target_within : (target : TypedTargetTree) → AllNamed (target_names target) →
      Within s.entity N (target_of s target) CellBelow
  target_within (to_local n) all = tt
  target_within (to_global g at) all = then_within s.entity N (Below s.entity N g) CellBelow
      (only_place (length_of (s.entity g))) _ (only_within g (first g [] all) (length_of (s.entity g))) (λ i h. h)
  target_within (to_element g at sign a) all =
      then_within s.entity N Any CellBelow (value_of s a) _ (value_within a (others g (names a) all)) (λ v p.
      then_within s.entity N (Below s.entity N g) CellBelow (element_place s g sign v) _
      (element_within g (first g (names a) all) sign v) (λ i h. h))
  target_within (to_behind k p) all =
      then_within s.entity N Any CellBelow (value_of s p) _ (value_within p all) (λ u h.
      then_within s.entity N Any CellBelow (pointed u) _ (pointed_within s.entity N u) (λ q k.
      then_within s.entity N Any CellBelow (cell_behind q) _ (cell_behind_within s.entity N q) (λ c i. tt)))
