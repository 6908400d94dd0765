-- Each step of Cminor's activations is one of Csharpminor's.
use Rattle.std.proofs.Common.{◌≡◌, ℕ, ◌+◌, ◌<◌, List, [], ◌∷◌, ◌⊎◌, inl, inr, Option, Some, None, Bool, true, false, if◌then◌else◌, nat_eq, length, slice_get, slice_set, refl, sym, ap, ◌∙◌, subst, arith, eqb-true, lt-ltb}
use Rattle.std.proofs.lemmas.Option.{slice_get_within}
use Rattle.cas_typed.specs.declared.tree.Signedness.{Signedness}
use Rattle.cas_step.specs.Operators.{number_of}
use Rattle.cas_runs.specs.Label.{NameBytes}
use Rattle.cas_runs.specs.Naming.{Home, Own, Theirs, Value, Number, Memory, usable, usable_in}
use Rattle.cas_runs.specs.Access.{Writes, Loads, Stores, Fails, with_value, value_in}
use Rattle.cas_runs.specs.Unit.{Setting}
use Rattle.cas_runs.specs.Passing.{Relation}
use Rattle.cas_runs.specs.Held.{Activation, Amounts, both_read, both_write, source_loads, source_stores, at_last, fails_too, goes_held, stored_at, set_in}
use Rattle.cas_runs.specs.Placing.{Spot, SameMoved, BlockMoved, ObjectMoved, KeepsUnplaced, IsPlacing}
use Rattle.cas_runs.proofs.Tests.{eq_self}
use Rattle.cas_runs.proofs.Cells.{set_same, set_other, set_length, get_inside}
use Rattle.cas_runs.proofs.Bringing.{stores_placed}
use Rattle.cas_runs.proofs.Placing.{with_here, with_elsewhere, same_or_not}
use Rattle.cas_runs.proofs.Amounting.{loads_match, stores_match}
use Rattle.cas_mid.specs.declared.tree.CsharpFun.{CsharpFun}
use Rattle.cas_mid.specs.declared.tree.CminorFun.{CminorFun}
use Rattle.cas_mid.specs.Trees as st
use Rattle.cas_mid.specs.Trees.{Expression, word, temporary, own, global, element, load, unop, binop, if_, Target, to_global, to_element, to_pointer}
use Rattle.cas_mid.specs.Operators.{unary_word, either, on_word, on_index, on_pointer, place_at}
use Rattle.cas_mid.specs.Language.{Frame, Continuation, goes, statement, with_temporary}
use Rattle.cas_mid.specs.Expressions.{value_of}
use Rattle.cas_mid.specs.Csharpminor.{CsharpState, csharpminor, csharp_parts, variable}
use Rattle.cas_mid.specs.Cminor.{CminorState, cminor, cminor_parts, stack_address}
use Rattle.cas_mid.specs.Translating.{RestIsMade, ValueAlike, TestAlike, StatementAlike, PartsAlike, FramesAlike}
use Rattle.cas_cminorgen.specs.Makes.{Place, in_block, in_temporary, offset_of, temporary_of, kept_in, loaded, made_expr}
use Rattle.cas_cminorgen.specs.Match.{places_of, placing, sizes, joined, FitsLoaded, Fits, IsExpression, IsTarget, is_global, is_element, is_pointer, IsInTemporary, is_kept, cminorgen_makes, IsKept, ValuesMatch, frame_of, MatchFrames, frames_match, states_match}
use Rattle.cas_cminorgen.proofs.Addresses.{Address, is_own, is_other, address}
use Rattle.cas_cminorgen.proofs.Plans.{in_temporary_is, one_temporary}
use Rattle.cas_cminorgen.proofs.Places.{taken_in, plan_is, placed_by}
use Rattle.cas_cminorgen.proofs.Values.{R, W, Moves, T, U, memory_keeps, Shift, shift, shift_own, shifted_pointer, words_along, usable_along, truths_along, pointers_along, binary_along, same_word}

module _ (setting : Setting) (ts : List CminorFun) (ss : List CsharpFun) (made : CminorFun → CsharpFun → Type 0)
    (is : IsPlacing cminor csharpminor made (record { place = placing ss; sizes = sizes ss })
    (joined ss setting.layout) setting.layout) where
  abbrev Rel : Relation CminorFun CminorState CsharpFun CsharpState
  Rel = R setting ts ss made is

  -- What is left alone.

  -- a word that is no longer in memory, or never was, for the target
  unplaced_stored : (t s : Memory) → Moves setting ts ss made is t s → (f : NameBytes) (a b : ℕ) →
      placing ss f b ≡ None → (p : ℕ) (x : Value) → Moves setting ts ss made is t (stored_at s (Own f a b) p x)
  unplaced_stored t s m f a b none p x = record {
    own = λ g c d to e. subst (λ o. BlockMoved (placing ss) to.offset (t (Own g c to.block)) o)
        (sym (elsewhere g c d to e)) (m.own g c d to e);
    theirs = λ k. subst (λ o. ObjectMoved (placing ss) (t (Theirs k)) o)
        (sym (with_elsewhere s (Own f a b) (Theirs k) (set_in (s (Own f a b)) p x) (λ e. cc e))) (m.theirs k);
    have_sizes = λ g c d ws e. size g c d ws (same_or_not (Own g c d) (Own f a b)) e;
  }
    where
      elsewhere : (g : NameBytes) (c d : ℕ) (to : Spot) → placing ss g d ≡ Some to →
          stored_at s (Own f a b) p x (Own g c d) ≡ s (Own g c d)
      elsewhere g c d to e = with_elsewhere s (Own f a b) (Own g c d) (set_in (s (Own f a b)) p x)
          (λ same. let names : g ≡ f = cc same in
          let blocks : d ≡ b = cc same in
          let there : placing ss f b ≡ Some to =
          subst (λ n. placing ss n b ≡ Some to) names (subst (λ n. placing ss g n ≡ Some to) blocks e) in
          cc (there, none))

      set_size : (o : Option (List Value)) → ((ws : List Value) → o ≡ Some ws → length ws ≡ sizes ss f b) →
          (ws : List Value) → set_in o p x ≡ Some ws → length ws ≡ sizes ss f b
      set_size None h ws e = absurd (cc e)
      set_size (Some vs) h ws e =
          let same : slice_set vs p x ≡ ws = cc e in
          subst (λ us. length us ≡ sizes ss f b) same (set_length vs p x ∙ h vs refl)

      size : (g : NameBytes) (c d : ℕ) (ws : List Value) →
          (Own g c d ≡ Own f a b) ⊎ (Own g c d ≡ Own f a b → ⊥) →
          stored_at s (Own f a b) p x (Own g c d) ≡ Some ws → length ws ≡ sizes ss g d
      size g c d ws (inl same) e =
          let names : g ≡ f = cc same in
          let blocks : d ≡ b = cc same in
          let here : set_in (s (Own f a b)) p x ≡ Some ws =
          sym (with_here s (Own f a b) (set_in (s (Own f a b)) p x))
          ∙ subst (λ h. stored_at s (Own f a b) p x h ≡ Some ws) same e in
          subst (λ n. length ws ≡ sizes ss n d) (sym names)
          (subst (λ n. length ws ≡ sizes ss f n) (sym blocks)
          (set_size (s (Own f a b)) (λ us i. m.have_sizes f a b us i) ws here))
      size g c d ws (inr differ) e =
          m.have_sizes g c d ws
          (sym (with_elsewhere s (Own f a b) (Own g c d) (set_in (s (Own f a b)) p x) differ) ∙ e)

  module _ (act : Activation CminorFun CsharpFun) where
    abbrev g : CsharpFun
    g = act.source

    abbrev Match : List Value → Memory → List Value → Memory → Type 0
    Match vs t vs' s = ValuesMatch ss g act.serial vs t vs' s

    -- a temporary of the target is no variable of the block
    unplaced : (vs vs' : List Value) (t s : Memory) → Match vs t vs' s → (v u : ℕ) →
        slice_get (places_of g) v ≡ Some (in_temporary u) → placing ss g.decl.name v ≡ None
    unplaced vs vs' t s m v u e = placed_by ss g.decl.name g m.is_found v (Some (in_temporary u)) e

    -- the memories change, but for the own variables that are temporaries
    values_later : (vs vs' : List Value) (t s t₂ s₂ : Memory) → Match vs t vs' s →
        KeepsUnplaced (placing ss) (act.serial + 1) s s₂ → Moves setting ts ss made is t₂ s₂ → Match vs t₂ vs' s₂
    values_later vs vs' t s t₂ s₂ m kept moves = record {
      is_found = m.is_found;
      variables = m.variables;
      count = m.count;
      old = m.old;
      kept = λ v u e.
          let was = m.kept v u e in
          record {
            value = was.value;
            other = was.other;
            in_variable = kept g.decl.name act.serial v (omega arith) (unplaced vs vs' t s m v u e) ∙ was.in_variable;
            in_temporary = was.in_temporary;
            same = was.same;
          };
      memory = moves;
    }

    -- a temporary of both gets a value
    values_set : (vs vs' : List Value) (t s : Memory) → Match vs t vs' s → (u : ℕ) (x x' : Value) →
        SameMoved (placing ss) x x' → u < length vs' →
        (u < length vs) × Match (slice_set vs u x) t (slice_set vs' u x') s
    values_set vs vs' t s m u x x' same less = (
      at_less,
      record {
        is_found = m.is_found;
        variables = m.variables;
        count = set_length vs' u x' ∙ m.count;
        old = λ i y e. old i y e (nat_eq u i) refl;
        kept = λ v i e.
            let was = m.kept v i e in
            let above = (in_temporary_is (taken_in g) (plan_is g) v i e).from in
            let count = m.count in
            record {
              value = was.value;
              other = was.other;
              in_variable = was.in_variable;
              in_temporary = set_other vs u i x (λ same. omega (arith, same, above, less, count)) ∙ was.in_temporary;
              same = was.same;
            };
        memory = m.memory;
      },
    )
      where
        at_less : u < length vs
        at_less = let here = get_inside vs' u less in let there = m.old u here.0 here.1 in
            slice_get_within vs u there.0 there.1

        old : (i : ℕ) (y : Value) → slice_get (slice_set vs' u x') i ≡ Some y → (b : Bool) → nat_eq u i ≡ b →
            (v : Value) × (slice_get (slice_set vs u x) i ≡ Some v) × SameMoved (placing ss) v y
        old i y e true f =
            let here : u ≡ i = eqb-true u i f in
            let set : slice_get (slice_set vs' u x') i ≡ Some x' =
            subst (λ k. slice_get (slice_set vs' u x') k ≡ Some x') here (set_same vs' u x' less) in
            let one : x' ≡ y = cc (set, e) in (
              x,
              subst (λ k. slice_get (slice_set vs u x) k ≡ Some x) here (set_same vs u x at_less),
              subst (λ k. SameMoved (placing ss) x k) one same,
            )
        old i y e false f =
            let differ : u ≡ i → ⊥ = λ h. let yes : nat_eq u i ≡ true =
            subst (λ n. nat_eq u n ≡ true) h (eq_self u) in cc (yes, f) in
            let was = m.old i y (sym (set_other vs' u i x' differ) ∙ e) in
            (was.0, set_other vs u i x differ ∙ was.1, was.2)

    -- the variable that a temporary is gets a value
    values_stored : (vs vs' : List Value) (t s : Memory) → Match vs t vs' s → (v u : ℕ) →
        slice_get (places_of g) v ≡ Some (in_temporary u) → (x x' : Value) → SameMoved (placing ss) x x' →
        Match (slice_set vs u x) t vs' (stored_at s (Own g.decl.name act.serial v) 0 x')
    values_stored vs vs' t s m v u e x x' same = record {
      is_found = m.is_found;
      variables = m.variables;
      count = m.count;
      old = λ i y f.
          let was = m.old i y f in
          let above = (in_temporary_is (taken_in g) (plan_is g) v u e).from in
          let below = slice_get_within vs' i y f in
          let count = m.count in
          (was.0, set_other vs u i x (λ h. omega (arith, h, above, below, count)) ∙ was.1, was.2);
      kept = λ w i f. by w i f (nat_eq v w) refl;
      memory = unplaced_stored t s m.memory g.decl.name act.serial v (unplaced vs vs' t s m v u e) 0 x';
    }
      where
        home : Home
        home = Own g.decl.name act.serial v

        by : (w i : ℕ) → slice_get (places_of g) w ≡ Some (in_temporary i) → (b : Bool) → nat_eq v w ≡ b →
            IsKept (placing ss) g act.serial (slice_set vs u x) (stored_at s home 0 x') w i
        by w i f true h =
            let here : v ≡ w = eqb-true v w h in
            let place : slice_get (places_of g) v ≡ Some (in_temporary i) =
            subst (λ k. slice_get (places_of g) k ≡ Some (in_temporary i)) (sym here) f in
            let one : Some (in_temporary u) ≡ Some (in_temporary i) = sym e ∙ place in
            let number : u ≡ i = cc one in
            let was = m.kept v u e in
            let inside = slice_get_within vs u was.value was.in_temporary in
            let now : stored_at s home 0 x' home ≡ Some (x' ∷ []) =
            with_here s home (set_in (s home) 0 x') ∙ ap (λ o. set_in o 0 x') was.in_variable in
            record {
              value = x;
              other = x';
              in_variable =
                  subst (λ k. stored_at s home 0 x' (Own g.decl.name act.serial k) ≡ Some (x' ∷ [])) here now;
              in_temporary = subst (λ k. slice_get (slice_set vs u x) k ≡ Some x) number (set_same vs u x inside);
              same = same;
            }
        by w i f false h =
            let was = m.kept w i f in
            let differ : v ≡ w → ⊥ = λ k. let yes : nat_eq v w ≡ true =
            subst (λ n. nat_eq v n ≡ true) k (eq_self v) in cc (yes, h) in
            let at = in_temporary_is (taken_in g) (plan_is g) v u e in
            record {
              value = was.value;
              other = was.other;
              in_variable = with_elsewhere s home (Own g.decl.name act.serial w) (set_in (s home) 0 x')
                  (λ k. let k' : w ≡ v = cc k in differ (sym k')) ∙ was.in_variable;
              in_temporary = set_other vs u i x
                  (λ k. differ (one_temporary (taken_in g) (plan_is g) v w u e
                  (subst (λ n. slice_get (places_of g) w ≡ Some (in_temporary n)) (sym k) f))) ∙ was.in_temporary;
              same = was.same;
            }

    -- Expressions.

    module _ (vs vs' : List Value) (t s : Memory) (m : Match vs t vs' s) where
      abbrev fr : Frame
      fr = frame_of g act.serial vs

      abbrev fr' : Frame
      fr' = frame_of g act.serial vs'

      abbrev ps : List Place
      ps = places_of g

      abbrev Does : T setting ts ss made is → U setting ts ss made is → Type 0
      Does x y = Amounts Rel (W setting ts ss made is) act 0 t s x y

      abbrev Alike : Expression → Expression → Type 0
      Alike e e' = (next : Value → T setting ts ss made is) (next' : Value → U setting ts ss made is) →
          ((v v' : Value) → SameMoved (placing ss) v v' → Does (next v) (next' v')) →
          Does (value_of stack_address fr e next) (value_of variable fr' e' next')

      -- a variable in the block has its place there
      block_shift : (n o : ℕ) → slice_get ps n ≡ Some (in_block o) →
          shift (placing ss) (Own g.decl.name act.serial n)
          ≡ Some (record { home = Own g.decl.name act.serial 0; offset = o })
      block_shift n o e = ap (λ x. shift_own g.decl.name act.serial x)
          (placed_by ss g.decl.name g m.is_found n (Some (in_block o)) e)

      own_same : (n o : ℕ) → slice_get ps n ≡ Some (in_block o) →
          SameMoved (placing ss) (stack_address fr (offset_of (slice_get ps n))) (variable fr' n)
      own_same n o e =
          let here : o + 0 ≡ o = omega arith in
          subst (λ x. SameMoved (placing ss) (stack_address fr (offset_of x)) (variable fr' n)) (sym e)
          (subst (λ i. SameMoved (placing ss) (stack_address fr i) (variable fr' n)) here
          (shifted_pointer (placing ss) (Own g.decl.name act.serial n) _ (block_shift n o e) 0))

      loads_along : (v v' : Value) → SameMoved (placing ss) v v' → (next : Value → T setting ts ss made is)
          (next' : Value → U setting ts ss made is) →
          ((u u' : Value) → SameMoved (placing ss) u u' → Does (next u) (next' u')) →
          Does (on_pointer v (λ home p. Loads home p (λ u. with_value (usable u) next)))
          (on_pointer v' (λ home p. Loads home p (λ u. with_value (usable u) next')))
      loads_along v v' e next next' along =
          pointers_along setting ts ss made is act t s m.memory v v' e _ _ (λ home to i p.
          loads_match Rel (W setting ts ss made is) act (λ n k. Unit {0}) (Moves setting ts ss made is)
          (memory_keeps setting ts ss made is)
          (λ t s home home' at at' v v' p. (
            tt,
            stores_placed cminor csharpminor setting (joined ss setting.layout) ts ss
                made (placing ss) (sizes ss) (λ f g n x y. Unit {0}) is act.serial s home home' at at' v' p,
          ))
          0 t s m.memory to.home home (to.offset + p) p (shifted_pointer (placing ss) home to i p) _ _
          (λ u u' same. usable_along setting ts ss made is act t s m.memory u u' same next next' along))

      index_along : (i : Signedness) (v v' : Value) → SameMoved (placing ss) v v' →
          (next : ℕ → T setting ts ss made is) (next' : ℕ → U setting ts ss made is) →
          ((q : ℕ) → Does (next q) (next' q)) → Does (on_index i v next) (on_index i v' next')
      index_along i v v' e next next' along =
          words_along setting ts ss made is act t s m.memory v v' e _ _ (λ n. by (place_at (number_of i n)))
        where
          by : (o : Option ℕ) → Does (with_value o next) (with_value o next')
          by None = fails_too
          by (Some q) = along q

      choice : {x y : T setting ts ss made is} {x' y' : U setting ts ss made is} (b : Bool) → Does x x' → Does y y' →
          Does (either x y b) (either x' y' b)
      choice true h k = h
      choice false h k = k

      load_along : (a : Expression) → Address ps a → FitsLoaded ps a (Fits ps a) →
          (Fits ps a → Alike (made_expr ps a) a) → Alike (loaded (kept_in ps a) (made_expr ps a)) (load a)
      load_along a (is_other is) h rest next next' along =
          subst (λ o. Does (value_of stack_address fr (loaded o (made_expr ps a)) next)
          (value_of variable fr' (load a) next')) (sym is.is_not_kept)
          (rest (is.fits h) _ _ (λ v v' e. loads_along v v' e next next' along))
      load_along a (is_own {n = n}) h rest next next' along = by h.0 h.1
        where
          Goal : Option Place → Type 0
          Goal o = Does (value_of stack_address fr (loaded (temporary_of o) (own (offset_of (slice_get ps n)))) next)
              (value_of variable fr' (load (own n)) next')

          by : (p : Place) → slice_get ps n ≡ Some p → Goal (slice_get ps n)
          by (in_block o) e =
              subst (λ x. Goal x) (sym e)
              (loads_along (stack_address fr (offset_of (slice_get ps n))) (variable fr' n) (own_same n o e) next next'
              along)
          by (in_temporary u) e =
              let kept = m.kept n u e in
              subst (λ x. Goal x) (sym e)
              (subst (λ x. Does (with_value (usable_in x) next) (value_of variable fr' (load (own n)) next'))
              (sym kept.in_temporary)
              (source_loads (λ x there.
              let here : value_in (Some (kept.other ∷ [])) 0 ≡ Some x =
              subst (λ o. value_in o 0 ≡ Some x) kept.in_variable there in
              let same : kept.other ≡ x = cc here in
              subst (λ y. Does (with_value (usable kept.value) next) (with_value (usable y) next')) same
              (usable_along setting ts ss made is act t s m.memory kept.value kept.other kept.same next next' along))))

      value_along : (e : Expression) → Fits ps e → Alike (made_expr ps e) e
      value_along (word n) h next next' along = along (Number n) (Number n) refl
      value_along (temporary u) h next next' along = by (slice_get vs' u) refl
        where
          by : (o : Option Value) → slice_get vs' u ≡ o →
              Does (with_value (usable_in (slice_get vs u)) next) (with_value (usable_in o) next')
          by None e = fails_too
          by (Some x) e =
              let was = m.old u x e in
              subst (λ o. Does (with_value (usable_in o) next) (with_value (usable x) next')) (sym was.1)
              (usable_along setting ts ss made is act t s m.memory was.0 x was.2 next next' along)
      value_along (own n) h next next' along = along _ _ (own_same n h.0 h.1)
      value_along (global g) h next next' along = both_read (λ n good. along (Number n) (Number n) refl)
      value_along (element g i a) h next next' along =
          value_along a h _ _ (λ v v' e. index_along i v v' e _ _ (λ q. both_read (λ n good.
          along (Number n) (Number n) refl)))
      value_along (load a) h next next' along = load_along a (address ps a) h (λ fits. value_along a fits) next next' along
      value_along (unop o a) h next next' along =
          value_along a h _ _ (λ v v' e. words_along setting ts ss made is act t s m.memory v v' e _ _
          (λ n. along (Number (unary_word o n)) (Number (unary_word o n)) refl))
      value_along (binop o a b) h next next' along =
          value_along a h.0 _ _ (λ u u' e. value_along b h.1 _ _ (λ v v' f.
          binary_along setting ts ss made is act t s m.memory o u v u' v' e f next next' along))
      value_along (if_ c a b) h next next' along =
          value_along c h.0 _ _ (λ v v' e. truths_along setting ts ss made is act t s m.memory v v' e _ _
          (λ b'. choice b' (value_along a h.1 next next' along) (value_along b h.2 next next' along)))

      -- what is made of an expression has its value
      expression_along : (e e' : Expression) → IsExpression ps e e' → Alike e e'
      expression_along e e' h next next' along =
          subst (λ x. Does (value_of stack_address fr x next) (value_of variable fr' e' next')) (sym h.is)
          (value_along e' h.fits next next' along)

      abbrev Rest : Type 0
      Rest = Continuation Expression Target Expression

      abbrev StepAlike : st.Statement Expression Target Expression → st.Statement Expression Target Expression → Type 0
      StepAlike b b' = (rest rest' : Rest) → RestIsMade cminorgen_makes g rest rest' →
          Does (statement cminor_parts fr b rest) (statement csharp_parts fr' b' rest')

      -- a word that is written
      writes_along : (f : NameBytes) (q : ℕ) (v v' : Value) → SameMoved (placing ss) v v' → (rest rest' : Rest) →
          RestIsMade cminorgen_makes g rest rest' →
          Does (on_word v (λ n. Writes f q n (goes cminor_parts fr rest)))
          (on_word v' (λ n. Writes f q n (goes csharp_parts fr' rest')))
      writes_along f q v v' e rest rest' h =
          words_along setting ts ss made is act t s m.memory v v' e _ _
          (λ n. both_write refl (at_last (goes_held (states_match (frames_match m) h))))

      -- a value that is stored
      stores_along : (home : Home) (to : Shift) → shift (placing ss) home ≡ Some to → (p : ℕ) (v v' : Value) →
          SameMoved (placing ss) v v' → (rest rest' : Rest) → RestIsMade cminorgen_makes g rest rest' →
          Does (Stores to.home (to.offset + p) v (goes cminor_parts fr rest))
          (Stores home p v' (goes csharp_parts fr' rest'))
      stores_along home to i p v v' e rest rest' h =
          stores_match Rel (W setting ts ss made is) act (λ n k. Unit {0}) (Moves setting ts ss made is)
          (memory_keeps setting ts ss made is)
          (λ t s home home' at at' v v' p. (
            tt,
            stores_placed cminor csharpminor setting (joined ss setting.layout) ts ss
                made (placing ss) (sizes ss) (λ f g n x y. Unit {0}) is act.serial s home home' at at' v' p,
          ))
          0 t s m.memory to.home home (to.offset + p) p (shifted_pointer (placing ss) home to i p) v v' e _ _
          (λ moves. at_last (goes_held (states_match (frames_match (values_later vs vs' t s _ _ m
          (stores_placed cminor csharpminor setting (joined ss setting.layout) ts ss made (placing ss) (sizes ss)
          (λ f g n x y. Unit {0}) is (act.serial + 1) s to.home home (to.offset + p) p v'
          (shifted_pointer (placing ss) home to i p)) moves)) h)))

      store_along : (b b' : Target) → IsTarget ps b b' → (e e' : Expression) → IsExpression ps e e' →
          StepAlike (st.store b e) (st.store b' e')
      store_along b b' (is_global {g = f}) e e' k rest rest' h =
          expression_along e e' k _ _ (λ v v' same. writes_along f 0 v v' same rest rest' h)
      store_along b b' (is_element {g = f} {s = i} {e = a} {e' = a'} x) e e' k rest rest' h =
          expression_along a a' x _ _ (λ u u' one. index_along i u u' one _ _ (λ q.
          expression_along e e' k _ _ (λ v v' same. writes_along f q v v' same rest rest' h)))
      store_along b b' (is_pointer {e = a} {e' = a'} x) e e' k rest rest' h =
          expression_along a a' x _ _ (λ u u' one.
          pointers_along setting ts ss made is act t s m.memory u u' one _ _ (λ home to i p.
          expression_along e e' k _ _ (λ v v' same. stores_along home to i p v v' same rest rest' h)))

      -- a store that sets a temporary
      set_along : (u : ℕ) (b' : Target) → IsInTemporary ps u b' → (e e' : Expression) → IsExpression ps e e' →
          StepAlike (st.set u e) (st.store b' e')
      set_along u b' (is_kept {v = n} place) e e' k rest rest' h =
          expression_along e e' k _ _ (λ v v' same.
          let inside : u < length vs = (let kept = m.kept n u place in
          slice_get_within vs u kept.value kept.in_temporary) in
          subst (λ (c : Bool). Does (if c then goes cminor_parts (with_temporary fr u v) rest else Fails)
          (Stores (Own g.decl.name act.serial n) 0 v' (goes csharp_parts fr' rest')))
          (sym (lt-ltb u (length vs) inside))
          (source_stores
          (λ f a b less none. with_elsewhere s (Own g.decl.name act.serial n) (Own f a b) _
          (λ one. let serials : a ≡ act.serial = cc one in omega (arith, serials, less)))
          (λ room. at_last (goes_held (states_match (frames_match
          (values_stored vs vs' t s m n u place v v' same)) h)))))

  abbrev Values : Activation CminorFun CsharpFun → Frame → Memory → Frame → Memory → Expression → Expression → Type 0
  Values a frame t frame' s e e' = ValueAlike cminor_parts csharp_parts cminorgen_makes (MatchFrames ss) Rel
      (W setting ts ss made is) a frame t frame' s e e'

  abbrev Tests : Activation CminorFun CsharpFun → Frame → Memory → Frame → Memory → Expression → Expression → Type 0
  Tests a frame t frame' s e e' = TestAlike cminor_parts csharp_parts cminorgen_makes (MatchFrames ss) Rel
      (W setting ts ss made is) a frame t frame' s e e'

  abbrev Steps : Activation CminorFun CsharpFun → Frame → Memory → Frame → Memory →
      st.Statement Expression Target Expression → st.Statement Expression Target Expression → Type 0
  Steps a frame t frame' s b b' = StatementAlike cminor_parts csharp_parts cminorgen_makes (MatchFrames ss) Rel
      (W setting ts ss made is) a frame t frame' s b b'

  values_go : (a : Activation CminorFun CsharpFun) (frame frame' : Frame) (t s : Memory) → MatchFrames ss a frame t frame' s →
      (e e' : Expression) → IsExpression (places_of a.source) e e' → Values a frame t frame' s e e'
  values_go a frame frame' t s (frames_match {vs = vs} {vs' = vs'} m) e e' k next next' along =
      expression_along a vs vs' t s m e e' k next next' along

  tests_go : (a : Activation CminorFun CsharpFun) (frame frame' : Frame) (t s : Memory) → MatchFrames ss a frame t frame' s →
      (e e' : Expression) → IsExpression (places_of a.source) e e' → Tests a frame t frame' s e e'
  tests_go a frame frame' t s (frames_match {vs = vs} {vs' = vs'} m) e e' k next next' along =
      expression_along a vs vs' t s m e e' k _ _
      (λ v v' same. truths_along setting ts ss made is a t s m.memory v v' same next next' along)

  stores_go : (a : Activation CminorFun CsharpFun) (frame frame' : Frame) (t s : Memory) → MatchFrames ss a frame t frame' s →
      (b b' : Target) → IsTarget (places_of a.source) b b' → (e e' : Expression) →
      IsExpression (places_of a.source) e e' → Steps a frame t frame' s (st.store b e) (st.store b' e')
  stores_go a frame frame' t s (frames_match {vs = vs} {vs' = vs'} m) b b' x e e' k rest rest' h =
      store_along a vs vs' t s m b b' x e e' k rest rest' h

  sets_go : (a : Activation CminorFun CsharpFun) (frame frame' : Frame) (t s : Memory) → MatchFrames ss a frame t frame' s →
      (u : ℕ) (b' : Target) → IsInTemporary (places_of a.source) u b' → (e e' : Expression) →
      IsExpression (places_of a.source) e e' → Steps a frame t frame' s (st.set u e) (st.store b' e')
  sets_go a frame frame' t s (frames_match {vs = vs} {vs' = vs'} m) u b' x e e' k rest rest' h =
      set_along a vs vs' t s m u b' x e e' k rest rest' h

  pub parts_alike : PartsAlike cminor_parts csharp_parts cminorgen_makes (MatchFrames ss) Rel (W setting ts ss made is)
  parts_alike = record { values = values_go; tests = tests_go; stores = stores_go; store_sets = sets_go }

  set_go : (a : Activation CminorFun CsharpFun) (frame frame' : Frame) (t s : Memory) → MatchFrames ss a frame t frame' s →
      (u : ℕ) (v v' : Value) → SameMoved (placing ss) v v' → u < length frame'.temporaries →
      (u < length frame.temporaries) × MatchFrames ss a (with_temporary frame u v) t (with_temporary frame' u v') s
  set_go a frame frame' t s (frames_match {vs = vs} {vs' = vs'} m) u v v' same less =
      let set = values_set a vs vs' t s m u v v' same less in (set.0, frames_match set.1)

  memory_go : (a : Activation CminorFun CsharpFun) (frame frame' : Frame) (t s : Memory) → MatchFrames ss a frame t frame' s →
      Moves setting ts ss made is t s
  memory_go a frame frame' t s (frames_match m) = m.memory

  later_go : (a : Activation CminorFun CsharpFun) (frame frame' : Frame) (t s : Memory) → MatchFrames ss a frame t frame' s →
      (t₂ s₂ : Memory) → KeepsUnplaced (placing ss) (a.serial + 1) s s₂ → Moves setting ts ss made is t₂ s₂ →
      MatchFrames ss a frame t₂ frame' s₂
  later_go a frame frame' t s (frames_match {vs = vs} {vs' = vs'} m) t₂ s₂ kept moves =
      frames_match (values_later a vs vs' t s t₂ s₂ m kept moves)

  pub frames_alike : FramesAlike cminor_parts csharp_parts cminorgen_makes (MatchFrames ss) Rel
      (W setting ts ss made is)
  frames_alike = record {
    states = λ a frame frame' t s match rest rest' h. states_match match h;
    sets = set_go;
    memory = memory_go;
    later = λ a frame frame' t s match t₂ s₂ tk sk moves. later_go a frame frame' t s match t₂ s₂ sk moves;
    words = λ v n e. same_word setting ts ss made is v n e;
  }
