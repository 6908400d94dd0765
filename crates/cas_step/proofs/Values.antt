-- The value of a well-sorted expression is a word or a pointer as its sort says, and there is sense in it, where
-- what answers is so.
use Rattle.std.proofs.Common.{arith, ◌≡◌, inl, inr, ℕ, ◌^◌, ◌+◌, ◌<◌, ◌≤◌, ℤ, pos, neg_ℤ, Bool, true, false, List, [], Option, Some, None, refl, sym, subst, if◌then◌else◌}
use Rattle.std.specs.Prelude.{⊤, slice_get, ◌⊎◌, ◌+ℤ◌, nat_lt, nat_le, ◌%◌, ◌||◌}
use Rattle.std.proofs.lemmas.Bool.{ltb-true}
use Rattle.cas_base.specs.Ty.{words_of_ty}
use Rattle.cas_base.specs.declared.act.Why.TheVariants.{Index, Across}
use Rattle.cas_base.specs.declared.decl.Decl.{Decl}
use Rattle.cas_base.specs.declared.kind.Kind.{Kind}
use Rattle.cas_base.specs.declared.kind.Ty.{Ty}
use Rattle.cas_base.specs.declared.kind.Ty.TheVariants.{Int, Ptr, Array}
use Rattle.cas_base.proofs.KindLaws.{narrowed-lt}
use Rattle.cas_syntax.specs.declared.tree.BinaryOperator.{BinaryOperator}
use Rattle.cas_typed.specs.declared.tree.Signedness.{Signedness}
use Rattle.cas_typed.specs.Resolved as t
use Rattle.cas_typed.specs.Resolved.{TypedExprTree}
use Rattle.cas_typed.specs.Sorts as so
use Rattle.cas_typed.specs.Sorts.{Sort, IsLocal, IsVariable, HasSort, IsTest}
use Rattle.cas_typed.specs.Types as ty
use Rattle.cas_typed.specs.Types.{IsEquality, IsOrder}
use Rattle.cas_step.specs.Asks.{Value, word, null, pointer, Asks, gives, fails, stuck, reads, looks, loads, and_then, word_in, pointed}
use Rattle.cas_step.specs.Env.{length_of}
use Rattle.cas_step.specs.Well_formed.{kind_of}
use Rattle.cas_step.specs.Evaluate.{EvalContext, either, global_value, only_place, place_among, element_place, forward, backward, on_both, a_word, a_truth, condition, value_of, test_of}
use Rattle.cas_typed.specs.Literals.{HasWords}
use Rattle.cas_step.specs.Operators.{number_of, place_below, or_index, binary_result}
use Rattle.cas_step.specs.Pointers.{if_live, moved, behind, cell_behind, places, difference, is_same_place, equal, compared}
use Rattle.cas_step.specs.Sound.{Gets}
use Rattle.cas_step.specs.Answered.{Got, got, bad, got_stuck, having_read, if_there, trace_of, answered, size_of, value_at, word_at}
use Rattle.cas_step.specs.Step.{Object, Block, cells_at}
use Rattle.cas_step.proofs.Answering.{got_then, answered-and_then}
use Rattle.cas_step.proofs.Within.{Any, below}
use Rattle.cas_step.proofs.Words.{GivesWord, binary_words, unary_words, sub_word, truth_word}

pub gets-having_read : {A : Type 0} (P : A → Type 0) (before : List ℕ) (x : Got A) → Gets P x →
    Gets P (having_read before x)
gets-having_read P before (got rs a) h = h
gets-having_read P before (bad rs why) h = tt
gets-having_read P before (got_stuck rs) h = absurd h

got_so : {A B : Type 0} (P : A → Type 0) (Q : B → Type 0) (x : Got A) (next : A → Got B) → Gets P x →
    ((a : A) → P a → Gets Q (next a)) → Gets Q (got_then x next)
got_so P Q (got rs a) next h go = gets-having_read Q rs (next a) (go a h)
got_so P Q (bad rs why) next h go = tt
got_so P Q (got_stuck rs) next h go = absurd h

abbrev pub IsWord : ℕ → Type 0
IsWord n = n < 2 ^ 32

-- it is there, and so
abbrev pub ThereIs : {A : Type 0} → (A → Type 0) → Option A → Type 0
ThereIs P None = ⊥
ThereIs P (Some a) = P a

there_gets : {V A : Type 0} (P : V → Type 0) (Q : A → Type 0) (x : Option V) (go : V → Got A) → ThereIs P x →
    ((v : V) → P v → Gets Q (go v)) → Gets Q (if_there x go)
there_gets P Q None go h so = absurd h
there_gets P Q (Some v) go h so = so v h

module _ (Points : Kind → Object → ℕ → Type 0) where
  -- a value of this sort, where pointers point so
  abbrev pub OfSort : Sort → Value Object → Type 0
  OfSort so.word (word n) = IsWord n
  OfSort (so.pointer k) null = ⊤
  OfSort (so.pointer k) (pointer o p) = Points k o p
  OfSort _ _ = ⊥

  -- null, or a place to which pointers point so
  abbrev pub Aims : Kind → Option (Object × ℕ) → Type 0
  Aims k None = ⊤
  Aims k (Some a) = Points k a.0 a.1

  -- what answers: locals have values of their types, pointers point to words and may move within their objects, and
  -- globals have words
  pub record Sees (vs : List Ty) (ds : List Decl) (s : EvalContext Object) (ws : List ℕ) (memory : List Block)
      : Type 0 where
    pub integers : (n : ℕ) (k : Kind) → IsLocal vs n (Int k) →
        ThereIs (OfSort so.word) (value_at (cells_at memory (s.own n)) 0)
    pub pointers : (n : ℕ) (k : Kind) → IsLocal vs n (Ptr k) →
        ThereIs (OfSort (so.pointer k)) (value_at (cells_at memory (s.own n)) 0)
    pub own : (n : ℕ) (k : Kind) → IsLocal vs n (Int k) ⊎ ((len : ℕ) × IsLocal vs n (Array k len)) →
        Points k (s.own n) 0
    pub loads : (k : Kind) (o : Object) (p m : ℕ) → Points k o p → size_of (cells_at memory o) ≡ Some m → p < m →
        ThereIs (OfSort so.word) (value_at (cells_at memory o) p)
    pub moves : (k : Kind) (o : Object) (p m q : ℕ) → Points k o p → size_of (cells_at memory o) ≡ Some m → q ≤ m →
        Points k o q
    pub lengths : (g : ℕ) (ty : Ty) → IsVariable ds g ty → length_of (s.entity g) ≡ Some (words_of_ty ty)
    pub words : (g : ℕ) (ty : Ty) (k : Kind) (i : ℕ) → IsVariable ds g ty → kind_of ty ≡ Some k → i < words_of_ty ty →
        ThereIs IsWord (word_at (slice_get ws) (s.entity g) i)

module _ (Points : Kind → Object → ℕ → Type 0) (vs : List Ty) (ds : List Decl) (s : EvalContext Object) (ws : List ℕ)
    (memory : List Block) (sees : Sees Points vs ds s ws memory) where
  -- what is got is so, and there is sense in it
  abbrev pub Sure : {A : Type 0} → (A → Type 0) → Asks Object A → Type 0
  Sure P x = Gets P (answered s.entity (slice_get ws) (cells_at memory) x)

  pub sure_then : {A B : Type 0} (P : A → Type 0) (Q : B → Type 0) (x : Asks Object A) (next : A → Asks Object B) →
      Sure P x → ((a : A) → P a → Sure Q (next a)) → Sure Q (and_then x next)
  sure_then P Q x next h go = subst (Gets Q) (sym (answered-and_then s.entity (slice_get ws) (cells_at memory) x next))
      (got_so P Q (answered s.entity (slice_get ws) (cells_at memory) x)
      (λ a. answered s.entity (slice_get ws) (cells_at memory) (next a)) h go)

  pub word_sure : (v : Value Object) → OfSort Points so.word v → Sure IsWord (word_in v)
  word_sure (word n) h = h
  word_sure null h = absurd h
  word_sure (pointer o p) h = absurd h

  pub pointed_sure : (k : Kind) (v : Value Object) → OfSort Points (so.pointer k) v → Sure (Aims Points k) (pointed v)
  pointed_sure k (word n) h = absurd h
  pointed_sure k null h = tt
  pointed_sure k (pointer o p) h = h

  live_by : {A : Type 0} (P : A → Type 0) (next : ℕ → Asks Object A) (size : Option ℕ) →
      ((m : ℕ) → size ≡ Some m → Sure P (next m)) → Sure P (if_live next size)
  live_by P next None go = tt
  live_by P next (Some m) go = go m refl

  index_sure : {A : Type 0} (P : A → Type 0) (limit : ℕ) (i : ℤ) (next : ℕ → Asks Object A) (place : Option ℕ) →
      place_below limit i ≡ place → ((n : ℕ) → n < limit → Sure P (next n)) → Sure P (or_index place next)
  index_sure P limit i next None e go = tt
  index_sure P limit i next (Some n) e go = go n (below limit i n e)

  moved_sure : (k : Kind) (a : Option (Object × ℕ)) (i : ℤ) → Aims Points k a →
      Sure (OfSort Points (so.pointer k)) (moved a i)
  moved_sure k None i h = tt
  moved_sure k (Some (o, p)) i h = live_by (OfSort Points (so.pointer k)) _ (size_of (cells_at memory o)) (λ m is.
      index_sure (OfSort Points (so.pointer k)) (m + 1) (pos p +ℤ i) _ (place_below (m + 1) (pos p +ℤ i)) refl
      (λ q less. sees.moves k o p m q h is (omega (arith, less))))

  -- a cell to which pointers point so, which has a word
  abbrev pub IsCellBehind : Kind → Object × ℕ → Type 0
  IsCellBehind k c = Points k c.0 c.1 × ThereIs (OfSort Points so.word) (value_at (cells_at memory c.0) c.1)

  cell_by : (k : Kind) (o : Object) (p m : ℕ) (is_there : Bool) → nat_lt p m ≡ is_there → Points k o p →
      size_of (cells_at memory o) ≡ Some m → Sure (IsCellBehind k) (if is_there then gives (o, p) else fails Index)
  cell_by k o p m true e h is = (h, sees.loads k o p m h is (ltb-true p m e))
  cell_by k o p m false e h is = tt

  pub cell_sure : (k : Kind) (a : Option (Object × ℕ)) → Aims Points k a → Sure (IsCellBehind k) (cell_behind a)
  cell_sure k None h = tt
  cell_sure k (Some (o, p)) h = live_by (IsCellBehind k) _ (size_of (cells_at memory o))
      (λ m is. cell_by k o p m (nat_lt p m) refl h is)

  load_sure : (sort : Sort) (o : Object) (p : ℕ) → ThereIs (OfSort Points sort) (value_at (cells_at memory o) p) →
      Sure (OfSort Points sort) (loads o p gives)
  load_sure sort o p h = there_gets (OfSort Points sort) (OfSort Points sort) (value_at (cells_at memory o) p) _ h
      (λ v l. l)

  behind_sure : (k : Kind) (a : Option (Object × ℕ)) → Aims Points k a → Sure (OfSort Points so.word) (behind a)
  behind_sure k a h = sure_then (IsCellBehind k) (OfSort Points so.word) (cell_behind a) _ (cell_sure k a h)
      (λ c l. load_sure so.word c.0 c.1 l.1)

  across_sure : {A : Type 0} (a : A) (b : Bool) → Sure Any (if b then gives a else fails Across)
  across_sure a true = tt
  across_sure a false = tt

  places_sure : (a b : Option (Object × ℕ)) → Sure Any (places s.same a b)
  places_sure None b = tt
  places_sure (Some (o, p)) None = tt
  places_sure (Some (o, p)) (Some (q, r)) = live_by Any _ (size_of (cells_at memory o))
      (λ m is. live_by Any _ (size_of (cells_at memory q)) (λ n also. across_sure (p, r) (s.same o q)))

  ends_sure : (b : Bool) → Sure Any (if b then fails Across else gives false)
  ends_sure true = tt
  ends_sure false = tt

  same_place_sure : (one : Bool) (p n r m : ℕ) → Sure Any (is_same_place s.same one p n r m)
  same_place_sure true p n r m = tt
  same_place_sure false p n r m = ends_sure (nat_le n p || nat_le m r)

  equal_sure : (a b : Option (Object × ℕ)) → Sure Any (equal s.same a b)
  equal_sure None None = tt
  equal_sure None (Some (q, r)) = live_by Any _ (size_of (cells_at memory q)) (λ m is. tt)
  equal_sure (Some (o, p)) None = live_by Any _ (size_of (cells_at memory o)) (λ m is. tt)
  equal_sure (Some (o, p)) (Some (q, r)) =
      live_by Any _ (size_of (cells_at memory o)) (λ n is. live_by Any _ (size_of (cells_at memory q))
      (λ m also. same_place_sure (s.same o q) p n r m))

  by_equality : {op : BinaryOperator} → IsEquality op → (a b : Option (Object × ℕ)) → Sure Any (compared s.same op a b)
  by_equality ty.equal a b = equal_sure a b
  by_equality ty.unequal a b = sure_then Any Any (equal s.same a b) _ (equal_sure a b) (λ is h. tt)

  by_order : {op : BinaryOperator} → IsOrder op → (a b : Option (Object × ℕ)) → Sure Any (compared s.same op a b)
  by_order ty.less a b = sure_then Any Any (places s.same a b) _ (places_sure a b) (λ ps h. tt)
  by_order ty.less_or_equal a b = sure_then Any Any (places s.same a b) _ (places_sure a b) (λ ps h. tt)
  by_order ty.greater a b = sure_then Any Any (places s.same a b) _ (places_sure a b) (λ ps h. tt)
  by_order ty.greater_or_equal a b = sure_then Any Any (places s.same a b) _ (places_sure a b) (λ ps h. tt)

  compared_sure : (op : BinaryOperator) → IsEquality op ⊎ IsOrder op → (a b : Option (Object × ℕ)) →
      Sure Any (compared s.same op a b)
  compared_sure op (inl is) a b = by_equality is a b
  compared_sure op (inr is) a b = by_order is a b

  truth_sure : (x : Asks Object Bool) → Sure Any x → Sure (OfSort Points so.word) (a_truth x)
  truth_sure x h = sure_then Any (OfSort Points so.word) x _ h (λ b k. truth_word b)

  difference_sure : (a b : Option (Object × ℕ)) → Sure (OfSort Points so.word) (a_word (difference s.same a b))
  difference_sure a b = sure_then IsWord (OfSort Points so.word) (difference s.same a b) _
      (sure_then Any IsWord (places s.same a b) _ (places_sure a b) (λ ps h. sub_word ps.0 (ps.1 % 2 ^ 32))) (λ n h. h)

  on_both_sure : {A : Type 0} (Q : A → Type 0) (k : Kind) (u v : Value Object)
      (next : Option (Object × ℕ) → Option (Object × ℕ) → Asks Object A) →
      OfSort Points (so.pointer k) u → OfSort Points (so.pointer k) v →
      ((a b : Option (Object × ℕ)) → Sure Q (next a b)) → Sure Q (on_both u v next)
  on_both_sure Q k u v next h l go = sure_then (Aims Points k) Q (pointed u) _ (pointed_sure k u h)
      (λ a i. sure_then (Aims Points k) Q (pointed v) _ (pointed_sure k v l) (λ b j. go a b))

  forward_sure : (k : Kind) (sign : Signedness) (u v : Value Object) → OfSort Points (so.pointer k) u →
      OfSort Points so.word v → Sure (OfSort Points (so.pointer k)) (forward sign u v)
  forward_sure k sign u v h l = sure_then (Aims Points k) (OfSort Points (so.pointer k)) (pointed u) _
      (pointed_sure k u h) (λ a i.
      sure_then IsWord (OfSort Points (so.pointer k)) (word_in v) _ (word_sure v l)
      (λ n m. moved_sure k a (number_of sign n) i))

  backward_sure : (k : Kind) (sign : Signedness) (u v : Value Object) → OfSort Points (so.pointer k) u →
      OfSort Points so.word v → Sure (OfSort Points (so.pointer k)) (backward sign u v)
  backward_sure k sign u v h l = sure_then (Aims Points k) (OfSort Points (so.pointer k)) (pointed u) _
      (pointed_sure k u h) (λ a i.
      sure_then IsWord (OfSort Points (so.pointer k)) (word_in v) _ (word_sure v l)
      (λ n m. moved_sure k a (neg_ℤ (number_of sign n)) i))

  -- a place below a length
  abbrev pub IsUnder : ℕ → ℕ → Type 0
  IsUnder len i = i < len

  only_by : (len : Option ℕ) → len ≡ Some 1 → Sure (IsUnder 1) (only_place len)
  only_by len is = subst (λ n. Sure (IsUnder 1) (only_place n)) (sym is) (omega arith)

  among_by : (len : Option ℕ) (n : ℕ) (i : ℤ) → len ≡ Some n → Sure (IsUnder n) (place_among len i)
  among_by len n i is = subst (λ m. Sure (IsUnder n) (place_among m i)) (sym is)
      (index_sure (IsUnder n) n i gives (place_below n i) refl (λ m h. h))

  pub only_sure : (g : ℕ) (k : Kind) → IsVariable ds g (Int k) → Sure (IsUnder 1) (only_place (length_of (s.entity g)))
  only_sure g k is = only_by (length_of (s.entity g)) (sees.lengths g (Int k) is)

  pub element_sure : (g : ℕ) (k : Kind) (n : ℕ) (sign : Signedness) (v : Value Object) → IsVariable ds g (Array k n) →
      OfSort Points so.word v → Sure (IsUnder n) (element_place s g sign v)
  element_sure g k n sign v is h = sure_then IsWord (IsUnder n) (word_in v) _ (word_sure v h)
      (λ m l. among_by (length_of (s.entity g)) n (number_of sign m) (sees.lengths g (Array k n) is))

  global_sure : (g : ℕ) (ty : Ty) (k : Kind) (i : ℕ) → IsVariable ds g ty → kind_of ty ≡ Some k → i < words_of_ty ty →
      Sure (OfSort Points so.word) (global_value g i)
  global_sure g ty k i is of h = there_gets IsWord (OfSort Points so.word) (word_at (slice_get ws) (s.entity g) i) _
      (sees.words g ty k i is of h)
      (λ n l. gets-having_read (OfSort Points so.word) (trace_of (s.entity g) i) (got [] (word n)) l)

  given_sure : (x : Asks Object ℕ) → GivesWord x → Sure IsWord x
  given_sure (gives n) h = h
  given_sure (fails why) h = tt
  given_sure stuck h = absurd h
  given_sure (reads g i more) h = absurd h
  given_sure (looks o more) h = absurd h
  given_sure (loads o p more) h = absurd h

  binary_sure : (op : BinaryOperator) (sign : Signedness) (u v : Value Object) → OfSort Points so.word u →
      OfSort Points so.word v →
      Sure (OfSort Points so.word)
      (and_then (word_in u) (λ m. and_then (word_in v) (λ n. a_word (binary_result op sign m n))))
  binary_sure op sign u v h l = sure_then IsWord (OfSort Points so.word) (word_in u) _ (word_sure u h)
      (λ m a. sure_then IsWord (OfSort Points so.word) (word_in v) _ (word_sure v l) (λ n b.
      sure_then IsWord (OfSort Points so.word) (binary_result op sign m n) _
      (given_sure (binary_result op sign m n) (binary_words Object op sign m n a b)) (λ r c. c)))

  either_sure : {A : Type 0} (P : A → Type 0) (x y : Asks Object A) (b : Bool) → Sure P x → Sure P y →
      Sure P (either x y b)
  either_sure P x y true h l = h
  either_sure P x y false h l = l

  condition_sure : (v : Value Object) → OfSort Points so.word v → Sure Any (condition v)
  condition_sure v h = sure_then IsWord Any (word_in v) _ (word_sure v h) (λ n l. tt)

  tested_sure : (x : Asks Object (Value Object)) → Sure (OfSort Points so.word) x →
      Sure (OfSort Points so.word) (and_then x (λ v. a_truth (condition v)))
  tested_sure x h = sure_then (OfSort Points so.word) (OfSort Points so.word) x _ h
      (λ v l. truth_sure (condition v) (condition_sure v l))

  chosen_sure : (sort : Sort) (x y z : Asks Object (Value Object)) → Sure (OfSort Points so.word) x →
      Sure (OfSort Points sort) y → Sure (OfSort Points sort) z →
      Sure (OfSort Points sort) (and_then x (λ u. and_then (condition u) (either y z)))
  chosen_sure sort x y z test h l = sure_then (OfSort Points so.word) (OfSort Points sort) x _ test (λ u p.
      sure_then Any (OfSort Points sort) (condition u) _ (condition_sure u p)
      (λ b q. either_sure (OfSort Points sort) y z b h l))

  both_sure : (P Q R : Sort) (x y : Asks Object (Value Object))
      (next : Value Object → Value Object → Asks Object (Value Object)) → Sure (OfSort Points P) x →
      Sure (OfSort Points Q) y →
      ((u v : Value Object) → OfSort Points P u → OfSort Points Q v → Sure (OfSort Points R) (next u v)) →
      Sure (OfSort Points R) (and_then x (λ u. and_then y (λ v. next u v)))
  both_sure P Q R x y next h l go = sure_then (OfSort Points P) (OfSort Points R) x _ h
      (λ u p. sure_then (OfSort Points Q) (OfSort Points R) y _ l (λ v q. go u v p q))

  pub value_sure : (a : TypedExprTree) (sort : Sort) → HasSort vs ds a sort → HasWords a →
      Sure (OfSort Points sort) (value_of s a)
  value_sure (t.literal n) so.word h w = w
  value_sure (t.literal n) (so.pointer k) h w = absurd h
  value_sure t.null so.word h w = absurd h
  value_sure t.null (so.pointer k) h w = tt
  value_sure (t.local n) so.word h w = load_sure so.word (s.own n) 0 (sees.integers n h.0 h.1)
  value_sure (t.local n) (so.pointer k) h w = load_sure (so.pointer k) (s.own n) 0 (sees.pointers n k h)
  value_sure (t.global g at) so.word h w = sure_then (IsUnder 1) (OfSort Points so.word)
      (only_place (length_of (s.entity g))) _ (only_sure g h.0 h.1) (λ i l. global_sure g (Int h.0) h.0 i h.1 refl l)
  value_sure (t.global g at) (so.pointer k) h w = absurd h
  value_sure (t.element g at sign a) so.word h w = sure_then (OfSort Points so.word) (OfSort Points so.word)
      (value_of s a) _ (value_sure a so.word h.3 w) (λ v l.
      sure_then (IsUnder h.1) (OfSort Points so.word) (element_place s g sign v) _ (element_sure g h.0 h.1 sign v h.2 l)
      (λ i m. global_sure g (Array h.0 h.1) h.0 i h.2 refl m))
  value_sure (t.element g at sign a) (so.pointer k) h w = absurd h
  value_sure (t.place_of n) so.word h w = absurd h
  value_sure (t.place_of n) (so.pointer k) h w = sees.own n k h
  value_sure (t.behind k p) so.word h w = sure_then (OfSort Points (so.pointer k)) (OfSort Points so.word)
      (value_of s p) _ (value_sure p (so.pointer k) h w) (λ u l.
      sure_then (Aims Points k) (OfSort Points so.word) (pointed u) _ (pointed_sure k u l) (λ a i. behind_sure k a i))
  value_sure (t.behind k p) (so.pointer j) h w = absurd h
  value_sure (t.pointer_plus sign p a) so.word h w = absurd h
  value_sure (t.pointer_plus sign p a) (so.pointer k) h w =
      both_sure (so.pointer k) so.word (so.pointer k) (value_of s p) (value_of s a) _
      (value_sure p (so.pointer k) h.0 w.0) (value_sure a so.word h.1 w.1) (λ u v l m. forward_sure k sign u v l m)
  value_sure (t.plus_pointer sign a p) so.word h w = absurd h
  value_sure (t.plus_pointer sign a p) (so.pointer k) h w =
      both_sure so.word (so.pointer k) (so.pointer k) (value_of s a) (value_of s p) _ (value_sure a so.word h.0 w.0)
      (value_sure p (so.pointer k) h.1 w.1) (λ v u m l. forward_sure k sign u v l m)
  value_sure (t.pointer_minus sign p a) so.word h w = absurd h
  value_sure (t.pointer_minus sign p a) (so.pointer k) h w =
      both_sure (so.pointer k) so.word (so.pointer k) (value_of s p) (value_of s a) _
      (value_sure p (so.pointer k) h.0 w.0) (value_sure a so.word h.1 w.1) (λ u v l m. backward_sure k sign u v l m)
  value_sure (t.pointer_difference p q) so.word h w = both_sure (so.pointer h.0) (so.pointer h.0) so.word (value_of s p)
      (value_of s q) _ (value_sure p (so.pointer h.0) h.1 w.0) (value_sure q (so.pointer h.0) h.2 w.1)
      (λ u v l m. on_both_sure (OfSort Points so.word) h.0 u v _ l m (λ a b. difference_sure a b))
  value_sure (t.pointer_difference p q) (so.pointer k) h w = absurd h
  value_sure (t.compare op p q) so.word h w = both_sure (so.pointer h.1) (so.pointer h.1) so.word (value_of s p)
      (value_of s q) _ (value_sure p (so.pointer h.1) h.2 w.0) (value_sure q (so.pointer h.1) h.3 w.1)
      (λ u v l m. on_both_sure (OfSort Points so.word) h.1 u v _ l m
      (λ a b. truth_sure (compared s.same op a b) (compared_sure op h.0 a b)))
  value_sure (t.compare op p q) (so.pointer k) h w = absurd h
  value_sure (t.unary op a) so.word h w = sure_then (OfSort Points so.word) (OfSort Points so.word) (value_of s a) _
      (value_sure a so.word h w) (λ u l.
      sure_then IsWord (OfSort Points so.word) (word_in u) _ (word_sure u l) (λ m i. unary_words op m i))
  value_sure (t.unary op a) (so.pointer k) h w = absurd h
  value_sure (t.binary op sign a b) so.word h w = both_sure so.word so.word so.word (value_of s a) (value_of s b) _
      (value_sure a so.word h.0 w.0) (value_sure b so.word h.1 w.1) (λ u v l m. binary_sure op sign u v l m)
  value_sure (t.binary op sign a b) (so.pointer k) h w = absurd h
  value_sure (t.narrow k a) so.word h w = sure_then (OfSort Points so.word) (OfSort Points so.word) (value_of s a) _
      (value_sure a so.word h w) (λ u l.
      sure_then IsWord (OfSort Points so.word) (word_in u) _ (word_sure u l) (λ m i. narrowed-lt m k i))
  value_sure (t.narrow j a) (so.pointer k) h w = absurd h
  value_sure (t.and_also a b) so.word h w = chosen_sure so.word (value_of s a) _ _ (value_sure a so.word h.0 w.0)
      (tested_sure (value_of s b) (value_sure b so.word h.1 w.1)) (truth_word false)
  value_sure (t.and_also a b) (so.pointer k) h w = absurd h
  value_sure (t.or_else a b) so.word h w = chosen_sure so.word (value_of s a) _ _ (value_sure a so.word h.0 w.0)
      (truth_word true) (tested_sure (value_of s b) (value_sure b so.word h.1 w.1))
  value_sure (t.or_else a b) (so.pointer k) h w = absurd h
  value_sure (t.choose c a b) sort h w = chosen_sure sort (value_of s c) _ _ (value_sure c so.word h.0 w.0)
      (value_sure a sort h.1 w.1) (value_sure b sort h.2 w.2)

  pub test_sure : (c : TypedExprTree) → HasSort vs ds c so.word → HasWords c → Sure Any (test_of s c)
  test_sure c h w = sure_then (OfSort Points so.word) Any (value_of s c) _ (value_sure c so.word h w) condition_sure
