-- The graph that is made of a function stands for it.
use Rattle.std.proofs.Common.{◌≡◌, inl, ℕ, zero, suc, ◌+◌, ◌-◌, ◌≤◌, true, false, List, [], ◌∷◌, ◌++◌, Option, Some, None, length, slice_get, refl, ap, ◌∙◌, subst, arith}
use Rattle.cas_mid.specs.Trees as st
use Rattle.cas_sel.specs.declared.tree.Op.TheVariants.{Constant}
use Rattle.cas_sel.specs.Trees.{Expr, temporary, operation, load, if_, Exprs, no_more, one_more, Test, holds, always, if_test, Statement, Statements, Routine, listed}
use Rattle.cas_sel.specs.Rooms.{own_value, own_values, inner_values, all_inner_values, test_values, statement_values, all_statement_values}
use Rattle.cas_rtl.specs.Graph as graph
use Rattle.cas_rtl.specs.Graph.{Node, Graph}
use Rattle.cas_rtlgen.specs.Makes.{Body, body_of, Span, IsWithin, IsApart, AreApart, IsThere, AreThere, operates, loads, chooses, Into, moves, computes, FindsOne, in_place, computed, Finds, finds_none, finds_more, Decides, tests, always_left, always_right, tests_if, Does, skips, sets, stores, calls, in_order, branches, loops, blocks, leaves, leaves_none, returns_nothing, returns, locks, unlocks, prints, DoesAll, does_none, does_more, Zeros, no_zeros, one_zero, IsMadeGraph}
use Rattle.cas_rtlgen.specs.declared.draft.Way.TheVariants.{ComesInto, IsFound}
use Rattle.cas_rtlgen.specs.Making.{Piece, register, registers, value, all, decides, exit_to, statement, sequence, zeros, made_body, made_zeros, made_graph}

pub length_more : {X : Type 0} (xs ys : List X) → length (xs ++ ys) ≡ length xs + length ys
length_more [] ys = omega arith
length_more (x ∷ xs) ys = let rest = length_more xs ys in omega (arith, rest)

get_left : {X : Type 0} (xs ys : List X) (i : ℕ) (x : X) → slice_get xs i ≡ Some x → slice_get (xs ++ ys) i ≡ Some x
get_left [] ys i x e = absurd (cc e)
get_left (y ∷ xs) ys zero x e = e
get_left (y ∷ xs) ys (suc i) x e = get_left xs ys i x e

get_right : {X : Type 0} (xs ys : List X) (i : ℕ) → slice_get (xs ++ ys) (length xs + i) ≡ slice_get ys i
get_right [] ys i = ap (λ j. slice_get ys j) (let same : 0 + i ≡ i = omega arith in same)
get_right (x ∷ xs) ys i =
    ap (λ j. slice_get ((x ∷ xs) ++ ys) j)
    (let same : length (x ∷ xs) + i ≡ suc (length xs + i) = omega arith in same) ∙ get_right xs ys i

-- these are the nodes from this number on
record Part (nodes : List (Node ℕ)) (base : ℕ) (xs : List (Node ℕ)) : Type 0 where
  get : (i : ℕ) (x : Node ℕ) → slice_get xs i ≡ Some x → slice_get nodes (base + i) ≡ Some x

module _ (nodes : List (Node ℕ)) where
  at_base : (base base' : ℕ) (xs : List (Node ℕ)) → base ≡ base' → Part nodes base xs → Part nodes base' xs
  at_base base base' xs e p =
      record { get = λ i x h. subst (λ b. slice_get nodes (b + i) ≡ Some x) e (p.get i x h) }

  part_left : (base : ℕ) (xs ys : List (Node ℕ)) → Part nodes base (xs ++ ys) → Part nodes base xs
  part_left base xs ys p = record { get = λ i x e. p.get i x (get_left xs ys i x e) }

  part_right : (base : ℕ) (xs ys : List (Node ℕ)) → Part nodes base (xs ++ ys) → Part nodes (base + length xs) ys
  part_right base xs ys p = record {
    get = λ i x e. subst (λ j. slice_get nodes j ≡ Some x)
        (let same : base + (length xs + i) ≡ base + length xs + i = omega arith in same)
        (p.get (length xs + i) x (get_right xs ys i ∙ e));
  }

  part_after : (base : ℕ) (xs ys zs : List (Node ℕ)) → Part nodes base (xs ++ ys ++ zs) →
      Part nodes (base + length xs + length ys) zs
  part_after base xs ys zs p =
      at_base (base + length (xs ++ ys)) (base + length xs + length ys) zs
      (let more = length_more xs ys in omega (arith, more)) (part_right base (xs ++ ys) zs p)

  part_tail : (base : ℕ) (y : Node ℕ) (ys : List (Node ℕ)) → Part nodes base (y ∷ ys) → Part nodes (base + 1) ys
  part_tail base y ys p = record {
    get = λ i x e. subst (λ j. slice_get nodes j ≡ Some x)
        (let same : base + suc i ≡ base + 1 + i = omega arith in same) (p.get (suc i) x e);
  }

  part_head : (base : ℕ) (y : Node ℕ) (ys : List (Node ℕ)) → Part nodes base (y ∷ ys) → slice_get nodes base ≡ Some y
  part_head base y ys p =
      subst (λ j. slice_get nodes j ≡ Some y) (let same : base + 0 ≡ base = omega arith in same) (p.get 0 y refl)

abbrev span : (low high : ℕ) → Span
span low high = record { low = low; high = high }

module _ (b : Body) where
  abbrev N : List (Node ℕ)
  N = b.nodes

  abbrev P : ℕ → List (Node ℕ) → Type 0
  P base xs = Part N base xs

  inside : {low high one two : ℕ} → low ≤ one → two ≤ high → IsWithin (span one two) (span low high)
  inside from to = record { from = from; to = to }

  -- where a value is found
  found_apart : (low : ℕ) (e : Expr) (high : ℕ) → b.temporaries ≤ low → IsThere b e →
      IsApart (span (low + own_value e) high) (register e low)
  found_apart low (temporary t) high le there = inl (omega (arith, there, le))
  found_apart low (operation o es) high le there = inl (omega arith)
  found_apart low (load m es) high le there = inl (omega arith)
  found_apart low (if_ c x y) high le there = inl (omega arith)

  -- all that are taken before a number are apart from those from there on
  all_apart : (es : Exprs) (low one two : ℕ) → b.temporaries ≤ low → low + own_values es ≤ one → AreThere b es →
      AreApart (span one two) (registers es low)
  all_apart no_more low one two le ge there = tt
  all_apart (one_more (temporary t) es) low one two le ge there =
      let less = there.0 in (
        inl (omega (arith, less, le, ge)),
        all_apart es (low + 0) one two (omega (arith, le)) (omega (arith, ge)) there.1,
      )
  all_apart (one_more (operation o others) es) low one two le ge there =
      (inl (omega (arith, ge)), all_apart es (low + 1) one two (omega (arith, le)) (omega (arith, ge)) there.1)
  all_apart (one_more (load m others) es) low one two le ge there =
      (inl (omega (arith, ge)), all_apart es (low + 1) one two (omega (arith, le)) (omega (arith, ge)) there.1)
  all_apart (one_more (if_ c x y) es) low one two le ge there =
      (inl (omega (arith, ge)), all_apart es (low + 1) one two (omega (arith, le)) (omega (arith, ge)) there.1)

  mutual
    into_is : (e : Expr) (base next low r : ℕ) → b.temporaries ≤ low → low + inner_values e ≤ b.registers →
        P base (value e base next low r ComesInto).nodes →
        Into b (span low (low + inner_values e)) e (value e base next low r ComesInto).entry next r
    into_is (temporary t) base next low r le few p = moves (part_head N base _ _ p)
    into_is (operation o es) base next low r le few p =
        computes (operates (operands_are es (base + 1) base low le few (part_tail N base _ _ p))
        (part_head N base _ _ p))
    into_is (load m es) base next low r le few p =
        computes (loads (operands_are es (base + 1) base low le few (part_tail N base _ _ p)) (part_head N base _ _ p))
    into_is (if_ c x y) base next low r le few p =
        let one = value x base next low r ComesInto in
        let two = value y (base + length one.nodes) next (low + inner_values x) r ComesInto in
        let three = decides c (base + length one.nodes + length two.nodes) one.entry two.entry
        (low + inner_values x + inner_values y) in
        let front = part_left N base (one.nodes ++ two.nodes) three.nodes p in
        computes (chooses _ _ _ (inside (omega arith) (omega arith)) (inside (omega arith) (omega arith))
        (inside (omega arith) (omega arith))
        (decides_is c (base + length one.nodes + length two.nodes) one.entry two.entry
        (low + inner_values x + inner_values y) (omega (arith, le)) (omega (arith, few))
        (part_after N base one.nodes two.nodes three.nodes p))
        (into_is x base next low r le (omega (arith, few)) (part_left N base one.nodes two.nodes front))
        (into_is y (base + length one.nodes) next (low + inner_values x) r (omega (arith, le)) (omega (arith, few))
        (part_right N base one.nodes two.nodes front)))

    -- in a pseudo-register that is taken before
    one_is : (e : Expr) (base next low r : ℕ) → b.temporaries ≤ r → r + own_value e ≤ low →
        low + inner_values e ≤ b.registers → P base (value e base next low r IsFound).nodes →
        FindsOne b (span r (low + inner_values e)) e (value e base next low r IsFound).entry next (register e r)
    one_is (temporary t) base next low r le ge few p = in_place
    one_is (operation o es) base next low r le ge few p =
        computed (span low (low + inner_values (operation o es)))
        (operates (operands_are es (base + 1) base low (omega (arith, le, ge)) few (part_tail N base _ _ p))
        (part_head N base _ _ p)) (inside (omega (arith, ge)) (omega arith)) (omega arith) (omega (arith, ge))
        (omega (arith, ge, few))
    one_is (load m es) base next low r le ge few p =
        computed (span low (low + inner_values (load m es)))
        (loads (operands_are es (base + 1) base low (omega (arith, le, ge)) few (part_tail N base _ _ p))
        (part_head N base _ _ p)) (inside (omega (arith, ge)) (omega arith)) (omega arith) (omega (arith, ge))
        (omega (arith, ge, few))
    one_is (if_ c x y) base next low r le ge few p =
        let one = value x base next low r ComesInto in
        let two = value y (base + length one.nodes) next (low + inner_values x) r ComesInto in
        let three = decides c (base + length one.nodes + length two.nodes) one.entry two.entry
        (low + inner_values x + inner_values y) in
        let front = part_left N base (one.nodes ++ two.nodes) three.nodes p in
        computed (span low (low + inner_values (if_ c x y)))
        (chooses _ _ _ (inside (omega arith) (omega arith)) (inside (omega arith) (omega arith))
        (inside (omega arith) (omega arith))
        (decides_is c (base + length one.nodes + length two.nodes) one.entry two.entry
        (low + inner_values x + inner_values y) (omega (arith, le, ge)) (omega (arith, few))
        (part_after N base one.nodes two.nodes three.nodes p))
        (into_is x base next low r (omega (arith, le, ge)) (omega (arith, few))
        (part_left N base one.nodes two.nodes front))
        (into_is y (base + length one.nodes) next (low + inner_values x) r (omega (arith, le, ge)) (omega (arith, few))
        (part_right N base one.nodes two.nodes front)))
        (inside (omega (arith, ge)) (omega arith)) (omega arith) (omega (arith, ge)) (omega (arith, ge, few))

    all_are : (es : Exprs) (base next first low : ℕ) → b.temporaries ≤ first → first + own_values es ≤ low →
        low + all_inner_values es ≤ b.registers → P base (all es base next first low).nodes →
        Finds b (span first (low + all_inner_values es)) es (all es base next first low).entry next (registers es first)
    all_are no_more base next first low le ge few p = finds_none
    all_are (one_more e es) base next first low le ge few p =
        let rest = all es base next (first + own_value e) low in
        let head = value e (base + length rest.nodes) rest.entry (low + all_inner_values es) first IsFound in
        finds_more _ _
        (one_is e (base + length rest.nodes) rest.entry (low + all_inner_values es) first le (omega (arith, ge))
        (omega (arith, few)) (part_right N base rest.nodes head.nodes p)) (inside (omega arith) (omega arith))
        (all_are es base next (first + own_value e) low (omega (arith, le)) (omega (arith, ge)) (omega (arith, few))
        (part_left N base rest.nodes head.nodes p)) (inside (omega arith) (omega arith))
        (found_apart first e (low + all_inner_values es) le)

    operands_are : (es : Exprs) (base next low : ℕ) → b.temporaries ≤ low →
        low + (own_values es + all_inner_values es) ≤ b.registers →
        P base (all es base next low (low + own_values es)).nodes →
        Finds b (span low (low + (own_values es + all_inner_values es))) es
        (all es base next low (low + own_values es)).entry next (registers es low)
    operands_are no_more base next low le few p = finds_none
    operands_are (one_more e es) base next low le few p =
        let start = low + own_values (one_more e es) in
        let rest = all es base next (low + own_value e) start in
        let head = value e (base + length rest.nodes) rest.entry (start + all_inner_values es) low IsFound in
        finds_more _ _
        (one_is e (base + length rest.nodes) rest.entry (start + all_inner_values es) low le (omega arith)
        (omega (arith, few)) (part_right N base rest.nodes head.nodes p)) (inside (omega arith) (omega arith))
        (all_are es base next (low + own_value e) start (omega (arith, le)) (omega arith) (omega (arith, few))
        (part_left N base rest.nodes head.nodes p)) (inside (omega arith) (omega arith))
        (found_apart low e (start + all_inner_values es) le)

    decides_is : (c : Test) (base left right low : ℕ) → b.temporaries ≤ low → low + test_values c ≤ b.registers →
        P base (decides c base left right low).nodes →
        Decides b (span low (low + test_values c)) c (decides c base left right low).entry left right
    decides_is (holds c es) base left right low le few p =
        tests (operands_are es (base + 1) base low le few (part_tail N base _ _ p)) (part_head N base _ _ p)
    decides_is (always true) base left right low le few p = always_left (part_head N base _ _ p)
    decides_is (always false) base left right low le few p = always_right (part_head N base _ _ p)
    decides_is (if_test x y z) base left right low le few p =
        let two = decides y base left right low in
        let three = decides z (base + length two.nodes) left right (low + test_values y) in
        let one = decides x (base + length two.nodes + length three.nodes) two.entry three.entry
        (low + test_values y + test_values z) in
        let front = part_left N base (two.nodes ++ three.nodes) one.nodes p in
        tests_if _ _ _ (inside (omega arith) (omega arith)) (inside (omega arith) (omega arith))
        (inside (omega arith) (omega arith))
        (decides_is x (base + length two.nodes + length three.nodes) two.entry three.entry
        (low + test_values y + test_values z) (omega (arith, le)) (omega (arith, few))
        (part_after N base two.nodes three.nodes one.nodes p))
        (decides_is y base left right low le (omega (arith, few)) (part_left N base two.nodes three.nodes front))
        (decides_is z (base + length two.nodes) left right (low + test_values y) (omega (arith, le))
        (omega (arith, few))
        (part_right N base two.nodes three.nodes front))

  exit_is : (exits : List ℕ) (k next : ℕ) (o : Option ℕ) → slice_get exits k ≡ o →
      Does b exits (st.exit k) (exit_to o next) next
  exit_is exits k next None e = leaves_none e
  exit_is exits k next (Some n) e = leaves e

  mutual
    stmt_is : (a : Statement) (exits : List ℕ) (base next low : ℕ) → b.temporaries ≤ low →
        low + statement_values a ≤ b.registers → P base (statement a exits base next low).nodes →
        Does b exits a (statement a exits base next low).entry next
    stmt_is st.skip exits base next low le few p = skips
    stmt_is (st.set t e) exits base next low le few p =
        sets (span low (low + inner_values e)) le (into_is e base next low t le few p)
    stmt_is (st.store a e) exits base next low le few p =
        let es = a.operands in
        let r = low + own_values es in
        let stored = value e (base + 1) base (r + own_value e) r IsFound in
        let ops = all es (base + 1 + length stored.nodes) stored.entry low (r + own_value e + inner_values e) in
        let tail = part_tail N base _ _ p in
        let up : b.temporaries ≤ r = omega (arith, le) in
        stores (span low (r + own_value e + inner_values e + all_inner_values es))
        (span r (r + own_value e + inner_values e)) le
        (all_are es (base + 1 + length stored.nodes) stored.entry low (r + own_value e + inner_values e) le
        (omega arith)
        (omega (arith, few)) (part_right N (base + 1) stored.nodes ops.nodes tail)) up
        (one_is e (base + 1) base (r + own_value e) r (omega (arith, le)) (omega arith) (omega (arith, few))
        (part_left N (base + 1) stored.nodes ops.nodes tail))
        (all_apart es low r (r + own_value e + inner_values e) le (omega arith)) (part_head N base _ _ p)
    stmt_is (st.call t name es) exits base next low le few p =
        calls (span low (low + (own_values (listed es) + all_inner_values (listed es)))) le
        (operands_are (listed es) (base + 1) base low le few (part_tail N base _ _ p)) (part_head N base _ _ p)
    stmt_is (st.seq bs) exits base next low le few p = in_order (seq_is bs exits base next low le few p)
    stmt_is (st.if_else c x y) exits base next low le few p =
        let one = statement x exits base next low in
        let two = statement y exits (base + length one.nodes) next (low + statement_values x) in
        let three = decides c (base + length one.nodes + length two.nodes) one.entry two.entry
        (low + statement_values x + statement_values y) in
        let front = part_left N base (one.nodes ++ two.nodes) three.nodes p in
        branches (span (low + statement_values x + statement_values y)
        (low + statement_values x + statement_values y + test_values c)) (omega (arith, le))
        (decides_is c (base + length one.nodes + length two.nodes) one.entry two.entry
        (low + statement_values x + statement_values y) (omega (arith, le)) (omega (arith, few))
        (part_after N base one.nodes two.nodes three.nodes p))
        (stmt_is x exits base next low le (omega (arith, few)) (part_left N base one.nodes two.nodes front))
        (stmt_is y exits (base + length one.nodes) next (low + statement_values x) (omega (arith, le))
        (omega (arith, few)) (part_right N base one.nodes two.nodes front))
    stmt_is (st.loop a) exits base next low le few p =
        loops (part_head N base _ _ p) (stmt_is a exits (base + 1) base low le few (part_tail N base _ _ p))
    stmt_is (st.block a) exits base next low le few p = blocks (stmt_is a (next ∷ exits) base next low le few p)
    stmt_is (st.exit k) exits base next low le few p = exit_is exits k next (slice_get exits k) refl
    stmt_is (st.return_ None) exits base next low le few p = returns_nothing (part_head N base _ _ p)
    stmt_is (st.return_ (Some e)) exits base next low le few p =
        returns (span low (low + own_value e + inner_values e)) le
        (one_is e (base + 1) base (low + own_value e) low le (omega arith) (omega (arith, few))
        (part_tail N base _ _ p))
        (part_head N base _ _ p)
    stmt_is (st.lock name) exits base next low le few p = locks (part_head N base _ _ p)
    stmt_is (st.unlock name) exits base next low le few p = unlocks (part_head N base _ _ p)
    stmt_is (st.print e) exits base next low le few p =
        prints (span low (low + own_value e + inner_values e)) le
        (one_is e (base + 1) base (low + own_value e) low le (omega arith) (omega (arith, few))
        (part_tail N base _ _ p))
        (part_head N base _ _ p)

    seq_is : (bs : Statements) (exits : List ℕ) (base next low : ℕ) → b.temporaries ≤ low →
        low + all_statement_values bs ≤ b.registers → P base (sequence bs exits base next low).nodes →
        DoesAll b exits bs (sequence bs exits base next low).entry next
    seq_is st.no_more exits base next low le few p = does_none
    seq_is (st.one_more a bs) exits base next low le few p =
        let rest = sequence bs exits base next low in
        let first = statement a exits (base + length rest.nodes) rest.entry (low + all_statement_values bs) in
        does_more
        (stmt_is a exits (base + length rest.nodes) rest.entry (low + all_statement_values bs) (omega (arith, le))
        (omega (arith, few)) (part_right N base rest.nodes first.nodes p))
        (seq_is bs exits base next low le (omega (arith, few)) (part_left N base rest.nodes first.nodes p))

  zeros_are : (t count base next : ℕ) → P base (zeros t count base next).nodes →
      Zeros b t count (zeros t count base next).entry next
  zeros_are t zero base next p = no_zeros
  zeros_are t (suc count) base next p =
      let rest = zeros (t + 1) count base next in
      let node = graph.op (Constant 0) [] t rest.entry in
      one_zero
      (part_head N (base + length rest.nodes) node [] (part_right N base rest.nodes (node ∷ []) p))
      (zeros_are (t + 1) count base next (part_left N base rest.nodes (node ∷ []) p))

module _ (g : Routine) where
  abbrev body : Piece
  body = made_body g

  abbrev begins : Piece
  begins = made_zeros g

  abbrev front : List (Node ℕ)
  front = graph.return_ None ∷ body.nodes

  abbrev last : Node ℕ
  last = graph.nop begins.entry

  abbrev ns : List (Node ℕ)
  ns = front ++ begins.nodes ++ (last ∷ [])

  abbrev b : Body
  b = body_of (made_graph g) g

  whole : Part ns 0 ns
  whole = record {
    get = λ i x e. subst (λ j. slice_get ns j ≡ Some x) (let same : i ≡ 0 + i = omega arith in same) e;
  }

  early : Part ns 0 (front ++ begins.nodes)
  early = part_left ns 0 (front ++ begins.nodes) (last ∷ []) whole

  -- what is made stands for the function
  pub graph_is : IsMadeGraph (made_graph g) g
  graph_is = record {
    name = refl;
    blocks = refl;
    parameters = refl;
    room = omega arith;
    ways = record {
      first = begins.entry;
      start = body.entry;
      last = 0;
      entry = part_head ns (1 + length body.nodes + length begins.nodes) last []
          (at_base ns (0 + length (front ++ begins.nodes)) (1 + length body.nodes + length begins.nodes) (last ∷ [])
          (let more = length_more front begins.nodes in omega (arith, more))
          (part_right ns 0 (front ++ begins.nodes) (last ∷ []) whole));
      zeros = zeros_are b g.parameters (g.temporaries - g.parameters) (1 + length body.nodes) body.entry
          (at_base ns (0 + length front) (1 + length body.nodes) begins.nodes (omega arith)
          (part_right ns 0 front begins.nodes early));
      does = stmt_is b g.body [] 1 0 g.temporaries (omega arith) (omega arith)
          (at_base ns (0 + 1) 1 body.nodes (omega arith)
          (part_tail ns 0 (graph.return_ None) body.nodes (part_left ns 0 front begins.nodes early)));
      end = refl;
    };
  }
