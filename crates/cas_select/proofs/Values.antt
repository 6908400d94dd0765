-- What Selection makes of expressions, conditions and addresses does what they do.
use Rattle.std.proofs.Common.{◌≡◌, ℕ, Option, Some, None, Bool, true, false, if◌then◌else◌, nat_eq, refl, sym, ap, ◌∙◌}
use Rattle.std.specs.Prelude.{◌||◌, not, slice_get}
use Rattle.cas_runs.specs.Naming.{same_home, Value, Number, Pointer, Hidden, usable, usable_in}
use Rattle.cas_runs.specs.Access.{Accesses, with_value}
use Rattle.cas_syntax.specs.declared.tree.UnaryOperator.{UnaryOperator}
use Rattle.cas_syntax.specs.declared.tree.UnaryOperator.TheVariants as un
use Rattle.cas_step.specs.Operators.{truth, is_true}
use Rattle.cas_mid.specs.declared.tree.Unop.TheVariants.{OnWord, Narrow}
use Rattle.cas_mid.specs.declared.tree.Binop.{Binop}
use Rattle.cas_mid.specs.declared.tree.Binop.TheVariants.{OnWords, PointerPlus, PlusPointer, PointerMinus, PointerDifference, Compare}
use Rattle.cas_mid.specs.Operators.{binary_word, place_at, only_if, unary_word, on_word, on_pointer, on_index, on_truth, either, binary}
use Rattle.cas_mid.specs.Trees as cminor
use Rattle.cas_mid.specs.Trees.{Expression, Target}
use Rattle.cas_mid.specs.Language.{Frame, Location, in_global, in_block}
use Rattle.cas_mid.specs.Expressions.{value_of, location_of}
use Rattle.cas_mid.specs.Cminor.{stack_address}
use Rattle.cas_sel.specs.Operations.{held_at}
use Rattle.cas_sel.specs.Query.{asking}
use Rattle.cas_sel.specs.Trees as sel
use Rattle.cas_sel.specs.CminorSel.{value, test, location}
use Rattle.cas_select.specs.Operators as made
use Rattle.cas_select.specs.Operators.{constant}
use Rattle.cas_select.specs.Addresses.{first_word, element, address, load_at}
use Rattle.cas_select.specs.Conditions.{agreeing, value_test, made_if, made_if_test, is_condition, agrees_by, agrees}
use Rattle.cas_select.specs.Makes.{made as made_expr, made_test, made_address}
use Rattle.cas_select.proofs.Improving.{Improves, reads, loads, fails, itself, equals, then_too, given, one_of, words, pointers, truths, value_better}
use Rattle.cas_select.proofs.Choosing.{unop_is, binop_is}
use Rattle.cas_select.proofs.Places.{address_is, element_is, load_is}
use Rattle.cas_select.proofs.Deciding.{compared_better, value_test_is, if_is, if_test_is, binop_test_is}
use Rattle.cas_select.proofs.Words.{not_not, true_is}

-- what is shown of a condition
abbrev Tests : (L : Type 0) → Frame → Expression → Type 0
Tests L f c = (meant : Bool) (x y : Bool → Accesses L) → ((t : Bool) → Improves (x (agreeing t meant)) (y t)) →
    Improves (test f (made_test meant c) x) (value_of stack_address f c (λ v. on_truth v y))

module _ {L : Type 0} (f : Frame) where
  -- a load and an element, by what pointers and indices are
  load_so : (a : sel.Expr) (next : Value → Accesses L) → Improves (value f (load_at (address a)) next)
      (value f a (λ v. on_pointer v (λ home p. asking (held_at (in_block home p)) (λ u. with_value (usable u) next))))
  load_so a next = then_too (load_is f next (address a))
      (address_is f (λ l. asking (held_at l) (λ v. with_value (usable v) next)) a)

  -- the branches of an If that is its condition, or its falsehood
  branches : (meant is : Bool) (m n : Bool) → agrees_by m n ≡ Some is → (x y : Bool → Accesses L) →
      ((t : Bool) → Improves (x (agreeing t meant)) (y t)) → (t : Bool) →
      Improves (x (agreeing t (agreeing is meant))) (either (y m) (y n) t)
  branches true true true false e x y h true = h true
  branches true true true false e x y h false = h false
  branches false true true false e x y h true = h true
  branches false true true false e x y h false = h false
  branches true false false true e x y h true = h false
  branches true false false true e x y h false = h true
  branches false false false true e x y h true = h false
  branches false false false true e x y h false = h true
  branches meant false true false e x y h t = absurd (cc e)
  branches meant true false true e x y h t = absurd (cc e)
  branches meant is true true e x y h t = absurd (cc e)
  branches meant is false false e x y h t = absurd (cc e)

  -- a value that is tested, where what follows does better
  tested : (meant : Bool) (x y : Bool → Accesses L) → ((t : Bool) → Improves (x (agreeing t meant)) (y t)) →
      (a : sel.Expr) (z : Accesses L) → Improves (value f a (λ v. on_truth v y)) z →
      Improves (test f (value_test meant a) x) z
  tested meant x y h a z k = then_too (value_test_is f x meant a)
      (then_too (value_better f a _ _ (λ v. truths v _ _ h)) k)

  not_truth : (meant : Bool) (x y : Bool → Accesses L) → ((t : Bool) → Improves (x (agreeing t meant)) (y t)) →
      (t : Bool) → Improves (x (agreeing t (not meant))) (y (not t))
  not_truth true x y h true = h false
  not_truth true x y h false = h true
  not_truth false x y h true = h false
  not_truth false x y h false = h true

  only_better : (b : Bool) (x y : Accesses L) → Improves x y → Improves (only_if b x) (only_if b y)
  only_better true x y h = h
  only_better false x y h = fails

  binary_better : (o : Binop) (u v : Value) (x y : Value → Accesses L) → ((v : Value) → Improves (x v) (y v)) →
      Improves (binary o u v x) (binary o u v y)
  binary_better (OnWords o s) u v x y h =
      words u _ _ (λ m. words v _ _ (λ n. given (binary_word o s m n) _ _ (λ i. h (Number i))))
  binary_better (PointerPlus s) u v x y h =
      pointers u _ _ (λ home p. words v _ _ (λ n. given (place_at _) _ _ (λ q. h (Pointer home q))))
  binary_better (PlusPointer s) u v x y h =
      pointers v _ _ (λ home p. words u _ _ (λ n. given (place_at _) _ _ (λ q. h (Pointer home q))))
  binary_better (PointerMinus s) u v x y h =
      pointers u _ _ (λ home p. words v _ _ (λ n. given (place_at _) _ _ (λ q. h (Pointer home q))))
  binary_better PointerDifference u v x y h =
      pointers u _ _ (λ a p. pointers v _ _ (λ b r. only_better (same_home a b) _ _ (h _)))
  binary_better (Compare o) u v x y h = compared_better _ _ (λ is. h _) o u v

  -- expressions of Cminor, where what follows does better
  value_of_better : (e : Expression) (x y : Value → Accesses L) → ((v : Value) → Improves (x v) (y v)) →
      Improves (value_of stack_address f e x) (value_of stack_address f e y)
  value_of_better (cminor.word n) x y h = h _
  value_of_better (cminor.temporary t) x y h = given (usable_in (slice_get f.temporaries t)) x y h
  value_of_better (cminor.own n) x y h = h _
  value_of_better (cminor.global g) x y h = reads (λ n. h _)
  value_of_better (cminor.element g s a) x y h = value_of_better a _ _
      (λ v. words v _ _ (λ i. given (place_at _) _ _ (λ q. reads (λ n. h _))))
  value_of_better (cminor.load a) x y h = value_of_better a _ _
      (λ v. pointers v _ _ (λ home p. loads (λ u. given (usable u) x y h)))
  value_of_better (cminor.unop o a) x y h = value_of_better a _ _ (λ v. words v _ _ (λ n. h _))
  value_of_better (cminor.binop o a b) x y h =
      value_of_better a _ _ (λ u. value_of_better b _ _ (λ v. binary_better o u v x y h))
  value_of_better (cminor.if_ c a b) x y h = value_of_better c _ _ (λ v. truths v _ _ (λ t. one_of _ _ _ _
      (value_of_better a x y h) (value_of_better b x y h) t))

  not_is : (a : Expression) (y : Bool → Accesses L) →
      Improves (value_of stack_address f a (λ v. on_truth v (λ t. y (not t))))
      (value_of stack_address f a (λ v. on_word v (λ n. on_truth (Number (unary_word (OnWord un.Not) n)) y)))
  not_is a y = value_of_better a _ _ by
    where
      by : (v : Value) → Improves (on_truth v (λ t. y (not t)))
          (on_word v (λ n. on_truth (Number (unary_word (OnWord un.Not) n)) y))
      by (Number n) = equals _ _ (ap y (not_not (nat_eq n 0) ∙ sym (true_is (nat_eq n 0))))
      by (Pointer home p) = fails
      by (Hidden what) = fails

  abbrev Truth : Expression → (Bool → Accesses L) → Accesses L
  Truth e y = value_of stack_address f e (λ v. on_truth v y)

  if_value : (c a b : Expression) (next : Value → Accesses L) → Tests L f c →
      Improves (value f (made_expr a) next) (value_of stack_address f a next) →
      Improves (value f (made_expr b) next) (value_of stack_address f b next) →
      Improves (value f (made_if (made_test true c) (made_expr a) (made_expr b)) next)
      (value_of stack_address f (cminor.if_ c a b) next)
  if_value c a b next tests h k =
      then_too (if_is f (λ t. next (Number (truth t))) (made_test true c) (made_expr a) (made_expr b) next)
      (tests true _ (λ t. either (value_of stack_address f a next) (value_of stack_address f b next) t)
      (λ t. one_of (value f (made_expr a) next) (value f (made_expr b) next) (value_of stack_address f a next)
      (value_of stack_address f b next) h k t))

  module _ (meant : Bool) (x y : Bool → Accesses L) (h : (t : Bool) → Improves (x (agreeing t meant)) (y t)) where
    agreed : (a b : Expression) (is : Bool) → agrees a b ≡ Some is → (t : Bool) →
        Improves (x (agreeing t (agreeing is meant))) (either (Truth a y) (Truth b y) t)
    agreed (cminor.word m) (cminor.word n) is e t = branches meant is (is_true m) (is_true n) e x y h t
    agreed _ _ is e t = absurd (cc e)

    module _ (c a b : Expression) (tests : Tests L f c) (left : Improves (test f (made_test meant a) x) (Truth a y))
        (right : Improves (test f (made_test meant b) x) (Truth b y))
        (whole : Improves (value f (made_if (made_test true c) (made_expr a) (made_expr b)) (λ v. on_truth v y))
        (Truth (cminor.if_ c a b) y)) where
      if_among : (is : Bool) → Improves (test f (if is
          then made_if_test (made_test true c) (made_test meant a) (made_test meant b)
          else value_test meant (made_if (made_test true c) (made_expr a) (made_expr b))) x)
          (Truth (cminor.if_ c a b) y)
      if_among true = then_too (if_test_is f x (made_test true c) (made_test meant a) (made_test meant b))
          (tests true _ (λ t. either (Truth a y) (Truth b y) t)
          (λ t. one_of _ _ _ _ left right t))
      if_among false = tested meant x y h (made_if (made_test true c) (made_expr a) (made_expr b)) _ whole

      if_so : (is : Option Bool) → agrees a b ≡ is → Improves (test f (elim is [
        | Some is ↦ made_test (agreeing is meant) c
        | None ↦ if is_condition a || is_condition b
            then made_if_test (made_test true c) (made_test meant a) (made_test meant b)
            else value_test meant (made_if (made_test true c) (made_expr a) (made_expr b))
      ]) x) (Truth (cminor.if_ c a b) y)
      if_so None e = if_among (is_condition a || is_condition b)
      if_so (Some is) e = tests (agreeing is meant) x (λ t. either (Truth a y) (Truth b y) t) (agreed a b is e)

  mutual
    pub made_is : (e : Expression) (next : Value → Accesses L) →
        Improves (value f (made_expr e) next) (value_of stack_address f e next)
    made_is (cminor.word n) next = itself _
    made_is (cminor.temporary t) next = itself _
    made_is (cminor.own offset) next = itself _
    made_is (cminor.global g) next = itself _
    made_is (cminor.element g s a) next =
        then_too (load_is f next (element g s (made_expr a)))
        (then_too (element_is f (λ l. asking (held_at l) (λ v. with_value (usable v) next)) g s (made_expr a))
        (made_is a _))
    made_is (cminor.load a) next = then_too (load_so (made_expr a) next) (made_is a _)
    made_is (cminor.unop o a) next = then_too (unop_is next f o (made_expr a)) (made_is a _)
    made_is (cminor.binop o a b) next =
        then_too (binop_is next f o (made_expr a) (made_expr b))
        (then_too (value_better f (made_expr a) _ _ (λ u. made_is b _)) (made_is a _))
    made_is (cminor.if_ c a b) next =
        if_value c a b next (λ m x y h. made_test_is m c x y h) (made_is a next) (made_is b next)

    pub made_test_is : (meant : Bool) (e : Expression) (x y : Bool → Accesses L) →
        ((t : Bool) → Improves (x (agreeing t meant)) (y t)) →
        Improves (test f (made_test meant e) x) (value_of stack_address f e (λ v. on_truth v y))
    made_test_is meant (cminor.word n) x y h = tested meant x y h (constant n) _ (itself _)
    made_test_is meant (cminor.temporary t) x y h = tested meant x y h (sel.temporary t) _ (itself _)
    made_test_is meant (cminor.own offset) x y h = tested meant x y h (made.stack_address offset) _ (itself _)
    made_test_is meant (cminor.global g) x y h = tested meant x y h (load_at (first_word g)) _ (itself _)
    made_test_is meant (cminor.element g s a) x y h =
        tested meant x y h (load_at (element g s (made_expr a))) _
        (then_too (load_is f (λ v. on_truth v y) (element g s (made_expr a)))
        (then_too (element_is f (λ l. asking (held_at l) (λ v. with_value (usable v) (λ v. on_truth v y))) g s
        (made_expr a)) (made_is a _)))
    made_test_is meant (cminor.load a) x y h =
        tested meant x y h (load_at (address (made_expr a))) _
        (then_too (load_so (made_expr a) (λ v. on_truth v y)) (made_is a _))
    made_test_is meant (cminor.unop (OnWord un.Not) a) x y h =
        then_too (made_test_is (not meant) a x (λ t. y (not t)) (not_truth meant x y h)) (not_is a y)
    made_test_is meant (cminor.unop o a) x y h =
        tested meant x y h (made.made_unop o (made_expr a)) _
        (then_too (unop_is (λ v. on_truth v y) f o (made_expr a)) (made_is a _))
    made_test_is meant (cminor.binop o a b) x y h =
        then_too (binop_test_is x f meant o (made_expr a) (made_expr b))
        (then_too (value_better f (made_expr a) _ _ (λ u. value_better f (made_expr b) _ _
        (λ v. binary_better o u v _ _ (λ w. truths w _ _ h))))
        (then_too (value_better f (made_expr a) _ _ (λ u. made_is b _)) (made_is a _)))
    made_test_is meant (cminor.if_ c a b) x y h =
        if_so meant x y h c a b (λ m x' y' h'. made_test_is m c x' y' h') (made_test_is meant a x y h)
        (made_test_is meant b x y h)
        (if_value c a b (λ v. on_truth v y) (λ m x' y' h'. made_test_is m c x' y' h') (made_is a _) (made_is b _))
        (agrees a b) refl

  pub address_made : (m : Target) (next : Location → Accesses L) →
      Improves (location f (made_address m) next) (location_of stack_address f m next)
  address_made (cminor.to_global g) next = itself _
  address_made (cminor.to_element g s a) next = then_too (element_is f next g s (made_expr a)) (made_is a _)
  address_made (cminor.to_pointer a) next = then_too (address_is f next (made_expr a)) (made_is a _)

  pub location_better : (m : Target) (x y : Location → Accesses L) → ((l : Location) → Improves (x l) (y l)) →
      Improves (location_of stack_address f m x) (location_of stack_address f m y)
  location_better (cminor.to_global g) x y h = h _
  location_better (cminor.to_element g s a) x y h =
      value_of_better a _ _ (λ v. words v _ _ (λ i. given (place_at _) _ _ (λ q. h _)))
  location_better (cminor.to_pointer a) x y h = value_of_better a _ _ (λ v. pointers v _ _ (λ home p. h _))
