-- One form of a step does what another does, unless that fails.
use Rattle.std.proofs.Common.{◌≡◌, ℕ, List, [], ◌∷◌, Option, Some, None, Bool, true, false, if◌then◌else◌, refl, subst}
use Rattle.cas_runs.specs.Label.{NameBytes}
use Rattle.cas_runs.specs.Naming.{Home, Value, Number, Pointer, Hidden, Memory}
use Rattle.cas_runs.specs.Access.{Accesses, Reads, Writes, Loads, Stores, Looks, Then, Fails, with_value, length_of}
use Rattle.cas_runs.specs.Calls.{Last}
use Rattle.cas_runs.specs.Passing.{Relation}
use Rattle.cas_runs.specs.Held.{Activation, Held, Amounts, both_read, source_reads, both_write, both_load, source_loads, target_loads, source_looks, target_looks, both_store, source_stores, target_stores, onward, at_last, fails_too}
use Rattle.cas_mid.specs.Operators.{on_word, on_pointer, on_truth, either}
use Rattle.cas_mid.specs.Language.{Frame}
use Rattle.cas_sel.specs.Query.{Query, asks_word, asks_place, asks_length, answers, no_answer, asking}
use Rattle.cas_sel.specs.Trees.{Expr, temporary, operation, load, if_, Exprs, no_more, one_more, Test, holds, always, if_test}
use Rattle.cas_sel.specs.Operations.{operate, load_by, decide}
use Rattle.cas_sel.specs.CminorSel.{value, values, test, within}
use Rattle.cas_runs.specs.Naming.{usable, usable_in}
use Rattle.std.specs.Prelude.{slice_get}

pub data Improves {L : Type 0} : Accesses L → Accesses L → Type 0 where
  reads :
      {g : NameBytes} {i : ℕ} {x y : ℕ → Accesses L}
      → ((n : ℕ) → Improves (x n) (y n))
      → Improves (Reads g i x) (Reads g i y)
  writes : {g : NameBytes} {i n : ℕ} {x y : Accesses L} → Improves x y → Improves (Writes g i n x) (Writes g i n y)
  loads :
      {home : Home} {place : ℕ} {x y : Value → Accesses L}
      → ((v : Value) → Improves (x v) (y v))
      → Improves (Loads home place x) (Loads home place y)
  stores :
      {home : Home} {place : ℕ} {v : Value} {x y : Accesses L}
      → Improves x y
      → Improves (Stores home place v x) (Stores home place v y)
  looks :
      {home : Home} {x y : Option ℕ → Accesses L}
      → ((n : Option ℕ) → Improves (x n) (y n))
      → Improves (Looks home x) (Looks home y)
  ends : {l : L} → Improves (Then l) (Then l)
  fails : {x : Accesses L} → Improves x Fails

pub itself : {L : Type 0} (x : Accesses L) → Improves x x
itself (Reads g i x) = reads (λ n. itself (x n))
itself (Writes g i n x) = writes (itself x)
itself (Loads home place x) = loads (λ v. itself (x v))
itself (Stores home place v x) = stores (itself x)
itself (Looks home x) = looks (λ n. itself (x n))
itself (Then l) = ends
itself Fails = fails

-- it does the same
pub equals : {L : Type 0} (x y : Accesses L) → x ≡ y → Improves x y
equals x y e = subst (λ z. Improves x z) e (itself x)

pub then_too : {L : Type 0} {x y z : Accesses L} → Improves x y → Improves y z → Improves x z
then_too h fails = fails
then_too (reads h) (reads k) = reads (λ n. then_too (h n) (k n))
then_too (writes h) (writes k) = writes (then_too h k)
then_too (loads h) (loads k) = loads (λ v. then_too (h v) (k v))
then_too (stores h) (stores k) = stores (then_too h k)
then_too (looks h) (looks k) = looks (λ n. then_too (h n) (k n))
then_too ends ends = ends

-- what does better than a form that amounts to another amounts to that
pub better :
    {F A G B : Type 0} {r : Relation F A G B} {w : Held F A G B} {a : Activation F G} {credit : ℕ} {t s : Memory}
    {x y : Accesses (Last A)} {z : Accesses (Last B)}
    → Improves x y → Amounts r w a credit t s y z → Amounts r w a credit t s x z
better h (source_reads k) = source_reads (λ v same. better h (k v same))
better h (source_loads k) = source_loads (λ v e. better h (k v e))
better h (source_looks k) = source_looks (better h k)
better h (source_stores frame k) = source_stores frame (λ room. better h (k room))
better h fails_too = fails_too
better (reads h) (both_read k) = both_read (λ v same. better (h v) (k v same))
better (writes h) (both_write same k) = both_write same (better h k)
better (loads h) (both_load v there k) = both_load v there (λ x e. better (h (v x)) (k x e))
better (loads h) (target_loads v there k) = target_loads v there (better (h v) k)
better (looks h) (target_looks k) = target_looks (better (h _) k)
better (stores h) (both_store room frame frame' k) = both_store room frame frame' (λ r. better h (k r))
better (stores h) (target_stores room frame k) = target_stores room frame (better h k)
better ends (onward x rest price k) = onward x rest price k
better ends (at_last l) = at_last l

module _ {L : Type 0} where
  pub given : {V : Type 0} (o : Option V) (x y : V → Accesses L) → ((v : V) → Improves (x v) (y v)) →
      Improves (with_value o x) (with_value o y)
  given None x y h = fails
  given (Some v) x y h = h v

  pub asks : {V : Type 0} (q : Query V) (x y : V → Accesses L) → ((v : V) → Improves (x v) (y v)) →
      Improves (asking q x) (asking q y)
  asks (asks_word g i more) x y h = reads (λ n. asks (more n) x y h)
  asks (asks_place home place more) x y h = loads (λ v. asks (more v) x y h)
  asks (asks_length home more) x y h = looks (λ n. asks (more n) x y h)
  asks (answers v) x y h = h v
  asks no_answer x y h = fails

  pub one_of : (x y x' y' : Accesses L) → Improves x x' → Improves y y' → (is : Bool) →
      Improves (either x y is) (either x' y' is)
  one_of x y x' y' h k true = h
  one_of x y x' y' h k false = k

  pub words : (v : Value) (x y : ℕ → Accesses L) → ((n : ℕ) → Improves (x n) (y n)) →
      Improves (on_word v x) (on_word v y)
  words (Number n) x y h = h n
  words (Pointer home p) x y h = fails
  words (Hidden what) x y h = fails

  pub pointers : (v : Value) (x y : Home → ℕ → Accesses L) → ((home : Home) (p : ℕ) → Improves (x home p) (y home p)) →
      Improves (on_pointer v x) (on_pointer v y)
  pointers (Number n) x y h = fails
  pointers (Pointer home p) x y h = h home p
  pointers (Hidden what) x y h = fails

  pub truths : (v : Value) (x y : Bool → Accesses L) → ((is : Bool) → Improves (x is) (y is)) →
      Improves (on_truth v x) (on_truth v y)
  truths (Number n) x y h = h _
  truths (Pointer home p) x y h = h true
  truths (Hidden what) x y h = fails

  -- expressions, operands and conditions, where what follows does better
  mutual
    pub value_better : (f : Frame) (e : Expr) (x y : Value → Accesses L) → ((v : Value) → Improves (x v) (y v)) →
        Improves (value f e x) (value f e y)
    value_better f (temporary t) x y h = given (usable_in (slice_get f.temporaries t)) x y h
    value_better f (operation o es) x y h = values_better f es _ _ (λ vs. asks (operate (within f) o vs) x y h)
    value_better f (load m es) x y h = values_better f es _ _ (λ vs. asks (load_by (within f) m vs) _ _
        (λ v. given (usable v) x y h))
    value_better f (if_ c a b) x y h = test_better f c _ _ (λ is. one_of (value f a x) (value f b x) (value f a y)
        (value f b y) (value_better f a x y h) (value_better f b x y h) is)

    pub values_better : (f : Frame) (es : Exprs) (x y : List Value → Accesses L) →
        ((vs : List Value) → Improves (x vs) (y vs)) → Improves (values f es x) (values f es y)
    values_better f no_more x y h = h []
    values_better f (one_more e es) x y h = value_better f e _ _ (λ v. values_better f es _ _ (λ vs. h (v ∷ vs)))

    pub test_better : (f : Frame) (c : Test) (x y : Bool → Accesses L) → ((is : Bool) → Improves (x is) (y is)) →
        Improves (test f c x) (test f c y)
    test_better f (holds c es) x y h = values_better f es _ _ (λ vs. asks (decide c vs) x y h)
    test_better f (always is) x y h = h is
    test_better f (if_test a b c) x y h = test_better f a _ _ (λ is. one_of (test f b x) (test f c x) (test f b y)
        (test f c y) (test_better f b x y h) (test_better f c x y h) is)
