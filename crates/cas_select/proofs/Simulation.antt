-- Selection's parts do the same as what they are made of: what Selection makes does what Cminor's form does in the
-- target, and that form does the same in both languages.
use Rattle.std.proofs.Common.{◌≡◌, ℕ, ◌<◌, List, [], ◌∷◌, Option, Some, None, Bool, true, false, if◌then◌else◌, length, slice_get, nat_eq, nat_lt, nat_le, refl, sym, subst}
use Rattle.std.specs.Prelude.{not}
use Rattle.cas_runs.specs.Naming.{Home, Value, Number, Pointer, Hidden, Memory, usable, usable_in, same_home}
use Rattle.cas_runs.specs.Access.{Accesses, Looks, Fails, with_value, length_of}
use Rattle.cas_runs.specs.Calls.{Last}
use Rattle.cas_runs.specs.Held.{Activation, Held, Amounts, both_read, both_load, both_write, both_store, source_looks, target_looks, goes_held, at_last, fails_too}
use Rattle.cas_runs.specs.Unit.{Setting}
use Rattle.cas_runs.specs.Passing.{Relation}
use Rattle.cas_runs.specs.Unmoved.{Unmoved, bare, places}
use Rattle.cas_syntax.specs.declared.tree.BinaryOperator.{BinaryOperator}
use Rattle.cas_syntax.specs.declared.tree.BinaryOperator.TheVariants as bin
use Rattle.cas_mid.specs.declared.tree.Binop.{Binop}
use Rattle.cas_mid.specs.declared.tree.Binop.TheVariants.{OnWords, PointerPlus, PlusPointer, PointerMinus, PointerDifference, Compare}
use Rattle.cas_mid.specs.declared.tree.CminorFun.{CminorFun}
use Rattle.cas_mid.specs.Operators.{binary_word, place_at, on_word, on_pointer, on_truth, only_if, apart, equal, ordered, compared, binary, either}
use Rattle.cas_mid.specs.Trees as tree
use Rattle.cas_mid.specs.Trees.{Expression, Target}
use Rattle.cas_mid.specs.Language.{Continuation, Frame, Location, in_global, in_block, goes, stores, statement, with_temporary}
use Rattle.cas_mid.specs.Expressions.{value_of, location_of}
use Rattle.cas_mid.specs.Cminor.{CminorState, stack_address, cminor_parts, cminor}
use Rattle.cas_mid.specs.Translating.{RestIsMade, MatchFrames, ValueAlike, TestAlike, StatementAlike, PartsAlike, FramesAlike}
use Rattle.cas_sel.specs.declared.tree.SelFun.{SelFun}
use Rattle.cas_sel.specs.Trees.{Expr, Test, Address}
use Rattle.cas_sel.specs.CminorSel.{SelState, sel_parts, cminorsel}
use Rattle.cas_sel.specs.CminorSel as sel
use Rattle.cas_select.specs.Makes.{made, made_condition, made_address}
use Rattle.cas_select.specs.Match.{NoneSet, selection, SameFrames, same_frames, MatchStates, matches, IsMade}
use Rattle.cas_select.proofs.Improving.{Improves, itself, then_too, better, value_better}
use Rattle.cas_select.proofs.Values.{made_is, made_test_is, address_made, location_better}

-- the pass, by what it makes and where both begin a step
abbrev pub selects : Unmoved SelFun SelState CminorFun CminorState
selects = record {
  target = cminorsel;
  source = cminor;
  made = IsMade;
  match_states = λ setting ts ss act x t y s. MatchStates act x t y s;
}

abbrev pub TForm : Type 0
TForm = Accesses (Last SelState)

abbrev pub SForm : Type 0
SForm = Accesses (Last CminorState)

module _ (setting : Setting) (ts : List SelFun) (ss : List CminorFun) (made_so : SelFun → CminorFun → Type 0) where
  abbrev pub R : Relation SelFun SelState CminorFun CminorState
  R = bare selects setting ts ss made_so

  abbrev pub held : Held SelFun SelState CminorFun CminorState
  held = places selects setting ts ss

  module _ (act : Activation SelFun CminorFun) (m : Memory) where
    abbrev Does : TForm → SForm → Type 0
    Does x y = Amounts R held act 0 m m x y

    word_too : (v : Value) (x : ℕ → TForm) (y : ℕ → SForm) → ((n : ℕ) → Does (x n) (y n)) →
        Does (on_word v x) (on_word v y)
    word_too (Number n) x y h = h n
    word_too (Pointer home p) x y h = fails_too
    word_too (Hidden what) x y h = fails_too

    pointer_too : (v : Value) (x : Home → ℕ → TForm) (y : Home → ℕ → SForm) →
        ((home : Home) (p : ℕ) → Does (x home p) (y home p)) → Does (on_pointer v x) (on_pointer v y)
    pointer_too (Number n) x y h = fails_too
    pointer_too (Pointer home p) x y h = h home p
    pointer_too (Hidden what) x y h = fails_too

    truth_too : (v : Value) (x : Bool → TForm) (y : Bool → SForm) → ((is : Bool) → Does (x is) (y is)) →
        Does (on_truth v x) (on_truth v y)
    truth_too (Number n) x y h = h _
    truth_too (Pointer home p) x y h = h true
    truth_too (Hidden what) x y h = fails_too

    given_too : {V : Type 0} (o : Option V) (x : V → TForm) (y : V → SForm) → ((v : V) → Does (x v) (y v)) →
        Does (with_value o x) (with_value o y)
    given_too None x y h = fails_too
    given_too (Some v) x y h = h v

    either_too : (x x' : TForm) (y y' : SForm) → Does x y → Does x' y' → (is : Bool) →
        Does (either x x' is) (either y y' is)
    either_too x x' y y' h k true = h
    either_too x x' y y' h k false = k

    only_too : (b : Bool) (x : TForm) (y : SForm) → Does x y → Does (only_if b x) (only_if b y)
    only_too true x y h = h
    only_too false x y h = fails_too

    if_too : (b : Bool) (x x' : TForm) (y y' : SForm) → Does x y → Does x' y' →
        Does (if b then x else x') (if b then y else y')
    if_too true x x' y y' h k = h
    if_too false x x' y y' h k = k

    module _ (x : Bool → TForm) (y : Bool → SForm) (h : (is : Bool) → Does (x is) (y is)) where
      apart_too : (n : Option ℕ) (p : ℕ) (k : Option ℕ) (r : ℕ) → Does (apart n p k r x) (apart n p k r y)
      apart_too None p k r = fails_too
      apart_too (Some n) p None r = fails_too
      apart_too (Some n) p (Some k) r = if_too _ Fails (x false) Fails (y false) fails_too (h false)

      equal_too : (u v : Value) → Does (equal u v x) (equal u v y)
      equal_too (Number i) (Number n) = h _
      equal_too (Number i) (Pointer b r) = h _
      equal_too (Pointer a p) (Number n) = h _
      equal_too (Pointer a p) (Pointer b r) =
          if_too (same_home a b) _ _ _ _ (h (nat_eq p r))
          (target_looks (source_looks (target_looks (source_looks
          (apart_too (length_of (m a)) p (length_of (m b)) r)))))
      equal_too (Hidden what) v = fails_too
      equal_too (Number i) (Hidden what) = fails_too
      equal_too (Pointer a p) (Hidden what) = fails_too

      ordered_too : (less : ℕ → ℕ → Bool) (u v : Value) → Does (ordered less u v x) (ordered less u v y)
      ordered_too less u v = pointer_too u _ _ (λ a p. pointer_too v _ _
          (λ b r. only_too (same_home a b) _ _ (h _)))

    compared_too : (o : BinaryOperator) (u v : Value) (x : Bool → TForm) (y : Bool → SForm) →
        ((is : Bool) → Does (x is) (y is)) → Does (compared o u v x) (compared o u v y)
    compared_too bin.Eq u v x y h = equal_too x y h u v
    compared_too bin.Ne u v x y h = equal_too (λ is. x (not is)) (λ is. y (not is)) (λ is. h (not is)) u v
    compared_too bin.Lt u v x y h = ordered_too x y h (λ p r. nat_lt p r) u v
    compared_too bin.Le u v x y h = ordered_too x y h (λ p r. nat_le p r) u v
    compared_too bin.Gt u v x y h = ordered_too x y h (λ p r. nat_lt r p) u v
    compared_too bin.Ge u v x y h = ordered_too x y h (λ p r. nat_le r p) u v
    compared_too _ u v x y h = fails_too

    binary_too : (o : Binop) (u v : Value) (x : Value → TForm) (y : Value → SForm) →
        ((v : Value) → Does (x v) (y v)) → Does (binary o u v x) (binary o u v y)
    binary_too (OnWords o s) u v x y h =
        word_too u _ _ (λ i. word_too v _ _ (λ n. given_too (binary_word o s i n) _ _ (λ j. h (Number j))))
    binary_too (PointerPlus s) u v x y h =
        pointer_too u _ _ (λ home p. word_too v _ _ (λ n. given_too (place_at _) _ _ (λ q. h (Pointer home q))))
    binary_too (PlusPointer s) u v x y h =
        pointer_too v _ _ (λ home p. word_too u _ _ (λ n. given_too (place_at _) _ _ (λ q. h (Pointer home q))))
    binary_too (PointerMinus s) u v x y h =
        pointer_too u _ _ (λ home p. word_too v _ _ (λ n. given_too (place_at _) _ _ (λ q. h (Pointer home q))))
    binary_too PointerDifference u v x y h =
        pointer_too u _ _ (λ a p. pointer_too v _ _ (λ b r. only_too (same_home a b) _ _ (h _)))
    binary_too (Compare o) u v x y h = compared_too o u v _ _ (λ is. h _)

    -- the same expression of Cminor
    value_too : (f : Frame) (e : Expression) (x : Value → TForm) (y : Value → SForm) →
        ((v : Value) → Does (x v) (y v)) → Does (value_of stack_address f e x) (value_of stack_address f e y)
    value_too f (tree.word n) x y h = h _
    value_too f (tree.temporary t) x y h = given_too (usable_in (slice_get f.temporaries t)) x y h
    value_too f (tree.own n) x y h = h _
    value_too f (tree.global g) x y h = both_read (λ n same. h _)
    value_too f (tree.element g s a) x y h = value_too f a _ _
        (λ v. word_too v _ _ (λ i. given_too (place_at _) _ _ (λ q. both_read (λ n same. h _))))
    value_too f (tree.load a) x y h = value_too f a _ _ (λ v. pointer_too v _ _
        (λ home p. both_load (λ u. u) (λ u e. e) (λ u e. given_too (usable u) x y h)))
    value_too f (tree.unop o a) x y h = value_too f a _ _ (λ v. word_too v _ _ (λ n. h _))
    value_too f (tree.binop o a b) x y h =
        value_too f a _ _ (λ u. value_too f b _ _ (λ v. binary_too o u v x y h))
    value_too f (tree.if_ c a b) x y h = value_too f c _ _ (λ v. truth_too v _ _
        (λ t. either_too _ _ _ _ (value_too f a x y h) (value_too f b x y h) t))

    location_too : (f : Frame) (a : Target) (x : Location → TForm) (y : Location → SForm) →
        ((l : Location) → Does (x l) (y l)) → Does (location_of stack_address f a x) (location_of stack_address f a y)
    location_too f (tree.to_global g) x y h = h _
    location_too f (tree.to_element g s a) x y h =
        value_too f a _ _ (λ v. word_too v _ _ (λ i. given_too (place_at _) _ _ (λ q. h _)))
    location_too f (tree.to_pointer a) x y h = value_too f a _ _ (λ v. pointer_too v _ _ (λ home p. h _))

    -- a store
    module _ (f : Frame) (rest : Continuation Expr Address Test) (rest' : Continuation Expression Target Expression)
        (h : RestIsMade selection act.source rest rest') where
      stored : (l : Location) (v : Value) →
          Does (stores sel_parts l v (goes sel_parts f rest)) (stores cminor_parts l v (goes cminor_parts f rest'))
      stored (in_global g i) v = word_too v _ _ (λ n. both_write refl (at_last (goes_held (matches h))))
      stored (in_block home p) v = both_store (λ room. room) tt tt (λ room. at_last (goes_held (matches h)))

      store_too : (a : Target) (e : Expression) →
          Does (statement sel_parts f (tree.store (made_address a) (made e)) rest)
          (statement cminor_parts f (tree.store a e) rest')
      store_too a e =
          better (then_too (address_made f a _) (location_better f a _ _ (λ l. made_is f e _)))
          (location_too f a _ _ (λ l. value_too f e _ _ (λ v. stored l v)))

    value_alike : (f : Frame) (a : Expression) (x : Value → TForm) (y : Value → SForm) →
        ((v w : Value) → v ≡ w → Does (x v) (y w)) →
        Does (sel.value f (made a) x) (value_of stack_address f a y)
    value_alike f a x y h = better (made_is f a x) (value_too f a x y (λ v. h v v refl))

    test_alike : (f : Frame) (a : Expression) (x : Bool → TForm) (y : Bool → SForm) →
        ((is : Bool) → Does (x is) (y is)) →
        Does (sel.test f (made_condition a) x) (value_of stack_address f a (λ v. on_truth v y))
    test_alike f a x y h = better (made_test_is f true a x x (λ t. itself (x t)))
        (value_too f a _ _ (λ v. truth_too v _ _ h))

  abbrev pub Frames : MatchFrames SelFun CminorFun
  Frames act f m f' m' = SameFrames act f m f' m'

  values_at : (act : Activation SelFun CminorFun) (f f' : Frame) (m m' : Memory) → SameFrames act f m f' m' →
      (e : Expr) (a : Expression) → e ≡ made a →
      ValueAlike sel_parts cminor_parts selection Frames R held act f m f' m' e a
  values_at act f f' m m' (same_frames {f = g} {m = n}) e a same = λ x y h.
      subst (λ c. Amounts R held act 0 n n (sel.value g c x) (value_of stack_address g a y)) (sym same)
      (value_alike act n g a x y h)

  tests_at : (act : Activation SelFun CminorFun) (f f' : Frame) (m m' : Memory) → SameFrames act f m f' m' →
      (c : Test) (a : Expression) → c ≡ made_condition a →
      TestAlike sel_parts cminor_parts selection Frames R held act f m f' m' c a
  tests_at act f f' m m' (same_frames {f = g} {m = n}) c a same = λ x y h.
      subst (λ c. Amounts R held act 0 n n (sel.test g c x) (value_of stack_address g a (λ v. on_truth v y))) (sym same)
      (test_alike act n g a x y h)

  stores_at : (act : Activation SelFun CminorFun) (f f' : Frame) (m m' : Memory) → SameFrames act f m f' m' →
      (l : Address) (to : Target) → l ≡ made_address to → (e : Expr) (a : Expression) → e ≡ made a →
      StatementAlike sel_parts cminor_parts selection Frames R held act f m f' m' (tree.store l e) (tree.store to a)
  stores_at act f f' m m' (same_frames {f = g} {m = n}) l to same e a same' = λ rest rest' h.
      subst (λ c. Amounts R held act 0 n n (statement sel_parts g (tree.store c e) rest)
      (statement cminor_parts g (tree.store to a) rest')) (sym same)
      (subst (λ c. Amounts R held act 0 n n (statement sel_parts g (tree.store (made_address to) c) rest)
      (statement cminor_parts g (tree.store to a) rest')) (sym same') (store_too act n g rest rest' h to a))

  pub parts_alike : PartsAlike sel_parts cminor_parts selection Frames R held
  parts_alike = record {
    values = λ act f f' m m' match e a same. values_at act f f' m m' match e a same;
    tests = λ act f f' m m' match c a same. tests_at act f f' m m' match c a same;
    stores = λ act f f' m m' match l to same e a same'. stores_at act f f' m m' match l to same e a same';
    store_sets = λ act f f' m m' match u to none e a same. elim none [ ];
  }

  states_at : (act : Activation SelFun CminorFun) (f f' : Frame) (m m' : Memory) → SameFrames act f m f' m' →
      (rest : Continuation Expr Address Test) (rest' : Continuation Expression Target Expression) →
      RestIsMade selection act.source rest rest' →
      MatchStates act (record { frame = f; continuation = rest }) m (record { frame = f'; continuation = rest' }) m'
  states_at act f f' m m' same_frames rest rest' h = matches h

  sets_at : (act : Activation SelFun CminorFun) (f f' : Frame) (m m' : Memory) → SameFrames act f m f' m' →
      (u : ℕ) (v w : Value) → v ≡ w → u < length f'.temporaries →
      (u < length f.temporaries) × SameFrames act (with_temporary f u v) m (with_temporary f' u w) m'
  sets_at act f f' m m' (same_frames {f = g} {m = n}) u v w same le =
      (le, subst (λ x. SameFrames act (with_temporary g u v) n (with_temporary g u x) n) same same_frames)

  memory_at : (act : Activation SelFun CminorFun) (f f' : Frame) (m m' : Memory) → SameFrames act f m f' m' → m ≡ m'
  memory_at act f f' m m' same_frames = refl

  later_at : (act : Activation SelFun CminorFun) (f f' : Frame) (m m' : Memory) → SameFrames act f m f' m' →
      (n n' : Memory) → n ≡ n' → SameFrames act f n f' n'
  later_at act f f' m m' (same_frames {f = g} {m = k}) n n' same = subst (λ x. SameFrames act g n g x) same same_frames

  pub frames_alike : FramesAlike sel_parts cminor_parts selection Frames R held
  frames_alike = record {
    states = λ act f f' m m' match rest rest' h. states_at act f f' m m' match rest rest' h;
    sets = λ act f f' m m' match u v w same le. sets_at act f f' m m' match u v w same le;
    memory = λ act f f' m m' match. memory_at act f f' m m' match;
    later = λ act f f' m m' match n n' tk sk same. later_at act f f' m m' match n n' same;
    words = λ v n same. same;
  }
