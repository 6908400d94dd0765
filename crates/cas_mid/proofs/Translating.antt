-- Statements go along where expressions, addresses and conditions do, and cost no more.
use Rattle.std.proofs.Common.{◌≡◌, ℕ, zero, suc, ◌+◌, ◌≤◌, List, [], ◌∷◌, ◌++◌, Option, Some, None, Bool, true, false, if◌then◌else◌, length, nat_lt, refl, sym, subst, lt-ltb, ltb-true, arith}
use Rattle.cas_runs.specs.Naming.{Value, Number, Pointer, Hidden, Memory}
use Rattle.cas_runs.specs.Bounds.{total}
use Rattle.cas_runs.specs.Access.{Accesses, Fails}
use Rattle.cas_runs.specs.Calls.{Last}
use Rattle.cas_runs.specs.Passing.{Relation, AllMatch}
use Rattle.cas_runs.specs.Held.{Activation, Held, MatchIf, goes_held, takes_held, gives_held, puts_held, calls_held, returns_held, at_last, fails_too}
use Rattle.cas_mid.specs.Trees as tree
use Rattle.cas_mid.specs.Trees.{Statement, Statements}
use Rattle.cas_mid.specs.Operators.{on_word, either}
use Rattle.cas_mid.specs.Language.{begin, end_block, Continuation, begin_all, after_exit, Frame, State, Parts, at, goes, sets as set_in, resumed, jumps, values, statement, continues, with_temporary, argument_prices, operand_prices, statement_price, step_price, step_operands, weight_prices, all_weight_prices}
use Rattle.cas_mid.specs.Translating.{Makes, AreExpressions, no_expressions, more_expressions, IsMadeOf, skips, sets, stores, store_sets, calls, seqs, ifs, loops, blocks, exits, returns_nothing, returns, locks, unlocks, prints, AreMadeOf, no_statements, more_statements, RestIsMade, nothing_left, begins, ends, MatchFrames, DoesAlike, PartsAlike, FramesAlike, PricesAlike}

module _ {G E M C E' M' C' : Type 0} (made : Makes G E M C E' M' C') (g : G) where
  all_left :
      (bs : Statements E M C) (bs' : Statements E' M' C') → AreMadeOf made g bs bs'
      → (rest : Continuation E M C) (rest' : Continuation E' M' C') → RestIsMade made g rest rest'
      → RestIsMade made g (begin_all bs rest) (begin_all bs' rest')
  all_left bs bs' no_statements rest rest' h = h
  all_left bs bs' (more_statements a more) rest rest' h = begins a (all_left _ _ more rest rest' h)

  abbrev RestIsMadeIf : Option (Continuation E M C) → Option (Continuation E' M' C') → Type 0
  RestIsMadeIf None None = Unit {0}
  RestIsMadeIf None (Some rest') = ⊥
  RestIsMadeIf (Some rest) None = ⊥
  RestIsMadeIf (Some rest) (Some rest') = RestIsMade made g rest rest'

  leaves :
      (n : ℕ) (rest : Continuation E M C) (rest' : Continuation E' M' C') → RestIsMade made g rest rest'
      → RestIsMadeIf (after_exit n rest) (after_exit n rest')
  leaves n rest rest' nothing_left = tt
  leaves n rest rest' (begins a h) = leaves n _ _ h
  leaves zero rest rest' (ends h) = h
  leaves (suc n) rest rest' (ends h) = leaves n _ _ h

module _ {F G E M C E' M' C' : Type 0} (x : Parts E M C) (x' : Parts E' M' C') (made : Makes G E M C E' M' C')
    (match_frames : MatchFrames F G) (r : Relation F (State E M C) G (State E' M' C'))
    (w : Held F (State E M C) G (State E' M' C')) (parts : PartsAlike x x' made match_frames r w)
    (frames : FramesAlike x x' made match_frames r w) (a : Activation F G) where
  abbrev TForm : Type 0
  TForm = Accesses (Last (State E M C))

  abbrev SForm : Type 0
  SForm = Accesses (Last (State E' M' C'))

  abbrev Does : Memory → Memory → TForm → SForm → Type 0
  Does t s y z = DoesAlike x x' made match_frames r w a t s y z

  abbrev Rest : Continuation E M C → Continuation E' M' C' → Type 0
  Rest = RestIsMade made a.source

  module _ (fr fr' : Frame) (t s : Memory) (match : match_frames a fr t fr' s) where
    goes_along :
        (rest : Continuation E M C) (rest' : Continuation E' M' C') → Rest rest rest'
        → Does t s (goes x fr rest) (goes x' fr' rest')
    goes_along rest rest' h = at_last (goes_held (frames.states a fr fr' t s match rest rest' h))

    all_values :
        (es : List E) (es' : List E') → AreExpressions made a.source es es'
        → (next : List Value → TForm) (next' : List Value → SForm)
        → ((vs vs' : List Value) → AllMatch r vs vs' → Does t s (next vs) (next' vs'))
        → Does t s (values x fr es next) (values x' fr' es' next')
    all_values es es' no_expressions next next' along = along [] [] tt
    all_values es es' (more_expressions {e = e} {e' = e'} {es = more} {es' = more'} h hs) next next' along =
        parts.values a fr fr' t s match e e' h _ _ (λ v v' same. all_values more more' hs _ _
        (λ vs vs' all. along (v ∷ vs) (v' ∷ vs') (same, all)))

    -- a value that the source uses as a word
    words_along :
        (v v' : Value) → r.by.match_values v v' → (next : ℕ → TForm) (next' : ℕ → SForm)
        → ((n : ℕ) → Does t s (next n) (next' n)) → Does t s (on_word v next) (on_word v' next')
    words_along v (Number n) same next next' along =
        subst (λ u. Does t s (on_word u next) (next' n)) (sym (frames.words v n same)) (along n)
    words_along v (Pointer home p) same next next' along = fails_too
    words_along v (Hidden what) same next next' along = fails_too

    leave_along :
        (o : Option (Continuation E M C)) (o' : Option (Continuation E' M' C')) → RestIsMadeIf made a.source o o'
        → Does t s (jumps x fr o) (jumps x' fr' o')
    leave_along None None h = fails_too
    leave_along None (Some rest') h = absurd h
    leave_along (Some rest) None h = absurd h
    leave_along (Some rest) (Some rest') h = goes_along rest rest' h

    set_along :
        (u : ℕ) (v v' : Value) → r.by.match_values v v'
        → (rest : Continuation E M C) (rest' : Continuation E' M' C') → Rest rest rest'
        → Does t s (set_in x fr u v rest) (set_in x' fr' u v' rest')
    set_along u v v' same rest rest' h = by (nat_lt u (length fr'.temporaries)) refl
      where
        by : (b : Bool) → nat_lt u (length fr'.temporaries) ≡ b →
            Does t s (if nat_lt u (length fr.temporaries) then goes x (with_temporary fr u v) rest else Fails)
            (if b then goes x' (with_temporary fr' u v') rest' else Fails)
        by false e = fails_too
        by true e =
            let set = frames.sets a fr fr' t s match u v v' same (ltb-true u (length fr'.temporaries) e) in
            subst (λ (b : Bool). Does t s (if b then goes x (with_temporary fr u v) rest else Fails)
            (goes x' (with_temporary fr' u v') rest')) (sym (lt-ltb u (length fr.temporaries) set.0))
            (at_last (goes_held (frames.states a (with_temporary fr u v) (with_temporary fr' u v') t s set.1 rest rest'
            h)))

  none_if : (o : Option (State E M C)) (t s : Memory) → MatchIf r w a o t None s
  none_if None t s = tt
  none_if (Some y) t s = tt

  -- the caller goes on
  back_along :
      (fr fr' : Frame) (t s : Memory) → match_frames a fr t fr' s
      → (kept : Option ℕ) (rest : Continuation E M C) (rest' : Continuation E' M' C') → Rest rest rest'
      → (vs vs' : List Value) → AllMatch r vs vs'
      → MatchIf r w a (resumed x fr kept rest vs) t (resumed x' fr' kept rest' vs') s
  back_along fr fr' t s match None rest rest' h vs vs' same = frames.states a fr fr' t s match rest rest' h
  back_along fr fr' t s match (Some u) rest rest' h [] [] same = tt
  back_along fr fr' t s match (Some u) rest rest' h [] (v' ∷ vs') same = absurd same
  back_along fr fr' t s match (Some u) rest rest' h (v ∷ vs) [] same = absurd same
  back_along fr fr' t s match (Some u) rest rest' h (v ∷ vs) (v' ∷ vs') same =
      by (nat_lt u (length fr'.temporaries)) refl
    where
      by : (b : Bool) → nat_lt u (length fr'.temporaries) ≡ b →
          MatchIf r w a
          (if nat_lt u (length fr.temporaries) then Some (at x (with_temporary fr u v) rest) else None) t
          (if b then Some (at x' (with_temporary fr' u v') rest') else None) s
      by false e = none_if (if nat_lt u (length fr.temporaries) then Some (at x (with_temporary fr u v) rest) else None)
          t s
      by true e =
          let set = frames.sets a fr fr' t s match u v v' same.0 (ltb-true u (length fr'.temporaries) e) in
          subst (λ (b : Bool). MatchIf r w a (if b then Some (at x (with_temporary fr u v) rest) else None) t
          (Some (at x' (with_temporary fr' u v') rest')) s) (sym (lt-ltb u (length fr.temporaries) set.0))
          (frames.states a (with_temporary fr u v) (with_temporary fr' u v') t s set.1 rest rest' h)

  -- a statement's step
  statement_along :
      (fr fr' : Frame) (t s : Memory) → match_frames a fr t fr' s
      → {b : Statement E M C} {b' : Statement E' M' C'} → IsMadeOf made a.source b b'
      → (rest : Continuation E M C) (rest' : Continuation E' M' C') → Rest rest rest'
      → Does t s (statement x fr b rest) (statement x' fr' b' rest')
  statement_along fr fr' t s match skips rest rest' h = goes_along fr fr' t s match rest rest' h
  statement_along fr fr' t s match (sets {t = u} {e = e} {e' = e'} m) rest rest' h =
      parts.values a fr fr' t s match e e' m _ _ (λ v v' same. set_along fr fr' t s match u v v' same rest rest' h)
  statement_along fr fr' t s match (stores {m = m} {m' = m'} {e = e} {e' = e'} to value) rest rest' h =
      parts.stores a fr fr' t s match m m' to e e' value rest rest' h
  statement_along fr fr' t s match (store_sets {t = u} {m' = m'} {e = e} {e' = e'} to value) rest rest' h =
      parts.store_sets a fr fr' t s match u m' to e e' value rest rest' h
  statement_along fr fr' t s match (calls {t = kept} {es = es} {es' = es'} m) rest rest' h =
      all_values fr fr' t s match es es' m _ _ (λ vs vs' same. at_last (calls_held same
      (frames.memory a fr fr' t s match) (λ us us' all count t₂ s₂ tk sk memory.
      back_along fr fr' t₂ s₂ (frames.later a fr fr' t s match t₂ s₂ tk sk memory) kept rest rest' h us us' all)))
  statement_along fr fr' t s match (seqs {bs = bs} {bs' = bs'} m) rest rest' h =
      goes_along fr fr' t s match (begin_all bs rest) (begin_all bs' rest')
      (all_left made a.source bs bs' m rest rest' h)
  statement_along fr fr' t s match (ifs {c = c} {c' = c'} {a = b} {b = d} {a' = b'} {b' = d'} test left right)
      rest rest' h =
      parts.tests a fr fr' t s match c c' test _ _ turn
    where
      turn : (is : Bool) →
          Does t s (goes x fr (begin (either b d is) ∷ rest)) (goes x' fr' (begin (either b' d' is) ∷ rest'))
      turn true = goes_along fr fr' t s match (begin b ∷ rest) (begin b' ∷ rest') (begins left h)
      turn false = goes_along fr fr' t s match (begin d ∷ rest) (begin d' ∷ rest') (begins right h)
  statement_along fr fr' t s match (loops {a = b} {a' = b'} m) rest rest' h =
      goes_along fr fr' t s match (begin b ∷ begin (tree.loop b) ∷ rest) (begin b' ∷ begin (tree.loop b') ∷ rest')
      (begins m (begins (loops m) h))
  statement_along fr fr' t s match (blocks {a = b} {a' = b'} m) rest rest' h =
      goes_along fr fr' t s match (begin b ∷ end_block ∷ rest) (begin b' ∷ end_block ∷ rest') (begins m (ends h))
  statement_along fr fr' t s match (exits {n = n}) rest rest' h =
      leave_along fr fr' t s match (after_exit n rest) (after_exit n rest') (leaves made a.source n rest rest' h)
  statement_along fr fr' t s match returns_nothing rest rest' h =
      at_last (returns_held tt (frames.memory a fr fr' t s match))
  statement_along fr fr' t s match (returns {e = e} {e' = e'} m) rest rest' h =
      parts.values a fr fr' t s match e e' m _ _ (λ v v' same.
      at_last (returns_held (same, tt) (frames.memory a fr fr' t s match)))
  statement_along fr fr' t s match locks rest rest' h =
      at_last (takes_held (frames.states a fr fr' t s match rest rest' h))
  statement_along fr fr' t s match unlocks rest rest' h =
      at_last (gives_held (frames.states a fr fr' t s match rest rest' h))
  statement_along fr fr' t s match (prints {e = e} {e' = e'} m) rest rest' h =
      parts.values a fr fr' t s match e e' m _ _ (λ v v' same. words_along fr fr' t s match v v' same _ _
      (λ n. at_last (puts_held (frames.states a fr fr' t s match rest rest' h))))

  -- each step of the target is one of the source
  pub steps_along :
      (fr fr' : Frame) (t s : Memory) → match_frames a fr t fr' s
      → {rest : Continuation E M C} {rest' : Continuation E' M' C'} → Rest rest rest'
      → Does t s (continues x fr rest) (continues x' fr' rest')
  steps_along fr fr' t s match nothing_left = at_last (returns_held tt (frames.memory a fr fr' t s match))
  steps_along fr fr' t s match (begins m h) = statement_along fr fr' t s match m _ _ h
  steps_along fr fr' t s match (ends h) = goes_along fr fr' t s match _ _ h

pub total_append : (ms ns : List ℕ) → total (ms ++ ns) ≡ total ms + total ns
total_append [] ns = omega arith
total_append (m ∷ ms) ns = let rest = total_append ms ns in omega (arith, rest)

-- two lists that cost no more than two others, one after the other
pub append_least :
    (ms ns ms' ns' : List ℕ) → total ms ≤ total ms' → total ns ≤ total ns' → total (ms ++ ns) ≤ total (ms' ++ ns')
append_least ms ns ms' ns' h k =
    let t = total_append ms ns in let s = total_append ms' ns' in omega (arith, t, s, h, k)

module _ {G E M C E' M' C' : Type 0} (x : Parts E M C) (x' : Parts E' M' C') (made : Makes G E M C E' M' C')
    (cheap : PricesAlike x x' made) (g : G) where
  arguments_cheap :
      (es : List E) (es' : List E') → AreExpressions made g es es'
      → total (argument_prices x es) ≤ total (argument_prices x' es')
  arguments_cheap es es' no_expressions = omega arith
  arguments_cheap es es' (more_expressions {e = e} {e' = e'} {es = more} {es' = more'} h hs) =
      let both = append_least (x.value_prices e) (argument_prices x more) (x'.value_prices e')
      (argument_prices x' more')
      (cheap.values g e e' h) (arguments_cheap more more' hs) in
      omega (arith, both)

  -- what its expressions cost
  operands_cheap :
      {b : Statement E M C} {b' : Statement E' M' C'} → IsMadeOf made g b b'
      → statement_price x b + total (operand_prices x b) ≤ statement_price x' b' + total (operand_prices x' b')
  operands_cheap skips = omega arith
  operands_cheap (sets {e = e} {e' = e'} m) = let v = cheap.values g e e' m in omega (arith, v)
  operands_cheap (stores {m = m} {m' = m'} {e = e} {e' = e'} to value) =
      let both = append_least (x.location_prices m) (x.value_prices e) (x'.location_prices m') (x'.value_prices e')
      (cheap.locations g m m' to) (cheap.values g e e' value) in
      omega (arith, both)
  operands_cheap (store_sets {m' = m'} {e = e} {e' = e'} to value) =
      let v = cheap.values g e e' value in
      let s = total_append (x'.location_prices m') (x'.value_prices e') in
      omega (arith, v, s)
  operands_cheap (calls {es = es} {es' = es'} m) = let v = arguments_cheap es es' m in omega (arith, v)
  operands_cheap (seqs m) = omega arith
  operands_cheap (ifs {c = c} {c' = c'} test left right) = let v = cheap.tests g c c' test in omega (arith, v)
  operands_cheap (loops m) = omega arith
  operands_cheap (blocks m) = omega arith
  operands_cheap exits = omega arith
  operands_cheap returns_nothing = omega arith
  operands_cheap (returns {e = e} {e' = e'} m) = let v = cheap.values g e e' m in omega (arith, v)
  operands_cheap locks = omega arith
  operands_cheap unlocks = omega arith
  operands_cheap (prints {e = e} {e' = e'} m) = let v = cheap.values g e e' m in omega (arith, v)

  -- a step costs no more
  pub steps_cheap :
      {rest : Continuation E M C} {rest' : Continuation E' M' C'} → RestIsMade made g rest rest'
      → step_price x rest + total (step_operands x rest) ≤ step_price x' rest' + total (step_operands x' rest')
  steps_cheap nothing_left = omega arith
  steps_cheap (begins m h) = operands_cheap m
  steps_cheap (ends h) = omega arith

  mutual
    -- a statement with all its parts weighs no more
    pub weighs_least :
        {b : Statement E M C} {b' : Statement E' M' C'} → IsMadeOf made g b b'
        → total (weight_prices x b) ≤ total (weight_prices x' b')
    weighs_least skips = omega arith
    weighs_least (sets {e = e} {e' = e'} m) = let v = cheap.values g e e' m in omega (arith, v)
    weighs_least (stores {m = m} {m' = m'} {e = e} {e' = e'} to value) =
        let both = append_least (x.location_prices m) (x.value_prices e) (x'.location_prices m') (x'.value_prices e')
        (cheap.locations g m m' to) (cheap.values g e e' value) in
        omega (arith, both)
    weighs_least (store_sets {m' = m'} {e = e} {e' = e'} to value) =
        let v = cheap.values g e e' value in
        let s = total_append (x'.location_prices m') (x'.value_prices e') in
        omega (arith, v, s)
    weighs_least (calls {es = es} {es' = es'} m) = let v = arguments_cheap es es' m in omega (arith, v)
    weighs_least (seqs {bs = bs} {bs' = bs'} m) = let v = all_weigh_least bs bs' m in omega (arith, v)
    weighs_least (ifs {c = c} {c' = c'} {a = b} {b = d} {a' = b'} {b' = d'} test left right) =
        let both = append_least (x.test_prices c ++ weight_prices x b) (weight_prices x d)
        (x'.test_prices c' ++ weight_prices x' b') (weight_prices x' d')
        (append_least (x.test_prices c) (weight_prices x b) (x'.test_prices c') (weight_prices x' b')
        (cheap.tests g c c' test) (weighs_least left)) (weighs_least right) in
        omega (arith, both)
    weighs_least (loops m) = let v = weighs_least m in omega (arith, v)
    weighs_least (blocks m) = let v = weighs_least m in omega (arith, v)
    weighs_least exits = omega arith
    weighs_least returns_nothing = omega arith
    weighs_least (returns {e = e} {e' = e'} m) = let v = cheap.values g e e' m in omega (arith, v)
    weighs_least locks = omega arith
    weighs_least unlocks = omega arith
    weighs_least (prints {e = e} {e' = e'} m) = let v = cheap.values g e e' m in omega (arith, v)

    pub all_weigh_least :
        (bs : Statements E M C) (bs' : Statements E' M' C') → AreMadeOf made g bs bs'
        → total (all_weight_prices x bs) ≤ total (all_weight_prices x' bs')
    all_weigh_least bs bs' no_statements = omega arith
    all_weigh_least bs bs' (more_statements {a = b} {a' = b'} {bs = more} {bs' = more'} h hs) =
        append_least (weight_prices x b) (all_weight_prices x more) (weight_prices x' b') (all_weight_prices x' more')
        (weighs_least h) (all_weigh_least more more' hs)
