-- What an operator gives on usable values is usable.
use Rattle.std.proofs.Common.{◌≡◌, ℕ, List, [], ◌∷◌, Option, Some, None, Bool, true, false, refl, ◌||◌, nat_eq, not, if◌then◌else◌}
use Rattle.std.specs.Prelude.{ℤ, nat_le, nat_lt, neg_ℤ}
use Rattle.cas_syntax.specs.declared.tree.BinaryOperator.{BinaryOperator}
use Rattle.cas_syntax.specs.declared.tree.BinaryOperator.TheVariants as bin
use Rattle.cas_step.specs.Pointers.{distance}
use Rattle.cas_step.specs.Operators.{number_of, truth}
use Rattle.cas_runs.specs.Naming.{Home, Value, Number, Pointer, Hidden, same_home, usable}
use Rattle.cas_runs.specs.Access.{Accesses, Looks, Then, Fails, with_value}
use Rattle.cas_mid.specs.declared.tree.Binop.{Binop}
use Rattle.cas_mid.specs.declared.tree.Binop.TheVariants.{OnWords, PointerPlus, PlusPointer, PointerMinus, PointerDifference, Compare}
use Rattle.cas_mid.specs.Operators.{unary_word, on_word, on_pointer, moved, only_if, apart, equal, ordered, compared, binary, place_at, binary_word}
use Rattle.cas_sel.specs.declared.tree.Op.{Op}
use Rattle.cas_sel.specs.declared.tree.Op.TheVariants as op
use Rattle.cas_sel.specs.Query.{Query, asks_word, asks_place, asks_length, answers, no_answer, query_of}
use Rattle.cas_sel.specs.Operations.{Within, operate}

abbrev pub IsUsable : Value → Type 0
IsUsable v = usable v ≡ Some v

pub usable_is : (v u : Value) → usable v ≡ Some u → v ≡ u
usable_is (Number n) u e = cc e
usable_is (Pointer home p) u e = cc e
usable_is (Hidden what) u e = absurd (cc e)

pub usable_twice : (v u : Value) → usable v ≡ Some u → IsUsable u
usable_twice v u e = let same = usable_is v u e in cc (same, e)

abbrev pub AreUsable : List Value → Type 0
AreUsable [] = Unit {0}
AreUsable (v ∷ vs) = IsUsable v × AreUsable vs

-- each answer is usable
abbrev pub AnswersUsable : Query Value → Type 0
AnswersUsable (asks_word g offset next) = (n : ℕ) → AnswersUsable (next n)
AnswersUsable (asks_place home place next) = (v : Value) → AnswersUsable (next v)
AnswersUsable (asks_length home next) = (n : Option ℕ) → AnswersUsable (next n)
AnswersUsable (answers v) = IsUsable v
AnswersUsable no_answer = Unit {0}

-- the same of accesses as a query
abbrev EndsUsable : Accesses Value → Type 0
EndsUsable x = AnswersUsable (query_of x)

word_usable : (v : Value) (next : ℕ → Accesses Value) → ((n : ℕ) → EndsUsable (next n)) → EndsUsable (on_word v next)
word_usable (Number n) next h = h n
word_usable (Pointer home p) next h = tt
word_usable (Hidden what) next h = tt

pointer_usable : (v : Value) (next : Home → ℕ → Accesses Value) → ((home : Home) (p : ℕ) → EndsUsable (next home p)) →
    EndsUsable (on_pointer v next)
pointer_usable (Number n) next h = tt
pointer_usable (Pointer home p) next h = h home p
pointer_usable (Hidden what) next h = tt

value_usable : {V : Type 0} (o : Option V) (next : V → Accesses Value) → ((v : V) → EndsUsable (next v)) →
    EndsUsable (with_value o next)
value_usable None next h = tt
value_usable (Some v) next h = h v

only_usable : (is : Bool) (x : Accesses Value) → EndsUsable x → EndsUsable (only_if is x)
only_usable true x h = h
only_usable false x h = tt

moved_usable : (home : Home) (p : ℕ) (i : ℤ) → EndsUsable (moved home p i (λ v. Then v))
moved_usable home p i = value_usable (place_at _) (λ q. Then (Pointer home q)) (λ q. refl)

abbrev OfTruth : (Bool → Accesses Value) → Type 0
OfTruth next = (is : Bool) → EndsUsable (next is)

if_usable : (is : Bool) (x y : Accesses Value) → EndsUsable x → EndsUsable y → EndsUsable (if is then x else y)
if_usable true x y h k = h
if_usable false x y h k = k

apart_usable : (o : Option ℕ) (p : ℕ) (o' : Option ℕ) (r : ℕ) (next : Bool → Accesses Value) → OfTruth next →
    EndsUsable (apart o p o' r next)
apart_usable None p o' r next h = tt
apart_usable (Some n) p None r next h = tt
apart_usable (Some n) p (Some m) r next h = if_usable (nat_le n p || nat_le m r) Fails (next false) tt (h false)

equal_usable : (u v : Value) (next : Bool → Accesses Value) → OfTruth next → EndsUsable (equal u v next)
equal_usable (Number m) (Number n) next h = h (nat_eq m n)
equal_usable (Number m) (Pointer b r) next h = h false
equal_usable (Number m) (Hidden what) next h = tt
equal_usable (Pointer a p) (Number n) next h = h false
equal_usable (Pointer a p) (Pointer b r) next h =
    if_usable (same_home a b) (next (nat_eq p r)) (Looks a (λ n. Looks b (λ m. apart n p m r next))) (h (nat_eq p r))
    (λ n m. apart_usable n p m r next h)
equal_usable (Pointer a p) (Hidden what) next h = tt
equal_usable (Hidden what) v next h = tt

ordered_usable : (test : ℕ → ℕ → Bool) (u v : Value) (next : Bool → Accesses Value) → OfTruth next →
    EndsUsable (ordered test u v next)
ordered_usable test u v next h =
    pointer_usable u _ (λ a p. pointer_usable v _ (λ b r. only_usable (same_home a b) _ (h (test p r))))

compared_usable : (o : BinaryOperator) (u v : Value) (next : Bool → Accesses Value) → OfTruth next →
    EndsUsable (compared o u v next)
compared_usable bin.Eq u v next h = equal_usable u v next h
compared_usable bin.Ne u v next h = equal_usable u v (λ is. next (not is)) (λ is. h (not is))
compared_usable bin.Lt u v next h = ordered_usable (λ p r. nat_lt p r) u v next h
compared_usable bin.Le u v next h = ordered_usable (λ p r. nat_le p r) u v next h
compared_usable bin.Gt u v next h = ordered_usable (λ p r. nat_lt r p) u v next h
compared_usable bin.Ge u v next h = ordered_usable (λ p r. nat_le r p) u v next h
compared_usable bin.Add u v next h = tt
compared_usable bin.Sub u v next h = tt
compared_usable bin.Mul u v next h = tt
compared_usable bin.Div u v next h = tt
compared_usable bin.Mod u v next h = tt
compared_usable bin.Shl u v next h = tt
compared_usable bin.Shr u v next h = tt
compared_usable bin.BitAnd u v next h = tt
compared_usable bin.BitOr u v next h = tt
compared_usable bin.BitXor u v next h = tt

binary_usable : (o : Binop) (u v : Value) → EndsUsable (binary o u v (λ x. Then x))
binary_usable (OnWords o s) u v =
    word_usable u _ (λ m. word_usable v _ (λ n. value_usable (binary_word o s m n) _ (λ i. refl)))
binary_usable (PointerPlus s) u v =
    pointer_usable u _ (λ home p. word_usable v _ (λ n. moved_usable home p (number_of s n)))
binary_usable (PlusPointer s) u v =
    pointer_usable v _ (λ home p. word_usable u _ (λ n. moved_usable home p (number_of s n)))
binary_usable (PointerMinus s) u v =
    pointer_usable u _ (λ home p. word_usable v _ (λ n. moved_usable home p (neg_ℤ (number_of s n))))
binary_usable PointerDifference u v =
    pointer_usable u _ (λ a p. pointer_usable v _ (λ b r. only_usable (same_home a b)
    (Then (Number (distance p r))) refl))
binary_usable (Compare o) u v = compared_usable o u v (λ is. Then (Number (truth is))) (λ is. refl)

-- the answers of an operator
pub operator_usable : (w : Within) (o : Op) (vs : List Value) → AreUsable vs → AnswersUsable (operate w o vs)
operator_usable w (op.Constant n) [] h = refl
operator_usable w (op.Constant n) (v ∷ vs) h = tt
operator_usable w (op.StackAddress offset) [] h = refl
operator_usable w (op.StackAddress offset) (v ∷ vs) h = tt
operator_usable w op.Move [] h = tt
operator_usable w op.Move (v ∷ []) h = h.0
operator_usable w op.Move (u ∷ v ∷ vs) h = tt
operator_usable w (op.Unary o) [] h = tt
operator_usable w (op.Unary o) (v ∷ []) h = word_usable v (λ n. Then (Number (unary_word o n))) (λ n. refl)
operator_usable w (op.Unary o) (u ∷ v ∷ vs) h = tt
operator_usable w (op.Binary o) [] h = tt
operator_usable w (op.Binary o) (u ∷ []) h = tt
operator_usable w (op.Binary o) (u ∷ v ∷ []) h = binary_usable o u v
operator_usable w (op.Binary o) (u ∷ v ∷ x ∷ vs) h = tt
operator_usable w (op.WithNumber o n) [] h = tt
operator_usable w (op.WithNumber o n) (u ∷ []) h = binary_usable o u (Number n)
operator_usable w (op.WithNumber o n) (u ∷ v ∷ vs) h = tt
