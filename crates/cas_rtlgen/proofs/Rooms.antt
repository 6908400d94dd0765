-- The graph that is made of a function has the function's room.
use Rattle.std.proofs.Common.{◌≡◌, ℕ, zero, suc, ◌+◌, ◌-◌, List, [], ◌∷◌, ◌++◌, Some, None, length, refl, ap, arith}
use Rattle.cas_mid.specs.Trees as st
use Rattle.cas_sel.specs.declared.tree.SelFun.{SelFun}
use Rattle.cas_sel.specs.declared.tree.Op.TheVariants.{Constant}
use Rattle.cas_sel.specs.Trees.{Expr, temporary, operation, load, if_, Exprs, no_more, one_more, Test, holds, always, if_test, Statement, Statements, listed}
use Rattle.cas_sel.specs.Rooms as sel
use Rattle.cas_sel.specs.Rooms.{own_value, own_values, inner_values, all_inner_values, test_values, statement_values, all_statement_values}
use Rattle.cas_sel.specs.Code.{sel_routine}
use Rattle.cas_rtl.specs.Graph as graph
use Rattle.cas_rtl.specs.Graph.{Node, Graph}
use Rattle.cas_rtl.specs.Rooms.{passed, room_of}
use Rattle.cas_rtlgen.specs.declared.draft.Way.{Way}
use Rattle.cas_rtlgen.specs.declared.draft.Way.TheVariants.{ComesInto, IsFound}
use Rattle.cas_rtlgen.specs.Making.{registers, of_temporary, value, all, decides, statement, sequence, zeros, made_body, made_zeros, made_graph}

passed_more : (xs ys : List (Node ℕ)) → passed (xs ++ ys) ≡ passed xs + passed ys
passed_more [] ys = omega arith
passed_more (x ∷ xs) ys = let rest = passed_more xs ys in omega (arith, rest)

of_temporary_passes : (t base next r : ℕ) (way : Way) → passed (of_temporary t base next r way).nodes ≡ 0
of_temporary_passes t base next r ComesInto = omega arith
of_temporary_passes t base next r IsFound = omega arith

mutual
  value_passes : (e : Expr) (base next low r : ℕ) (way : Way) → passed (value e base next low r way).nodes ≡ 0
  value_passes (temporary t) base next low r way = of_temporary_passes t base next r way
  value_passes (operation o es) base next low r way =
      let rest = all_pass es (base + 1) base low (low + own_values es) in omega (arith, rest)
  value_passes (load m es) base next low r way =
      let rest = all_pass es (base + 1) base low (low + own_values es) in omega (arith, rest)
  value_passes (if_ c a b) base next low r way =
      let one = value a base next low r ComesInto in
      let two = value b (base + length one.nodes) next (low + inner_values a) r ComesInto in
      let three = decides c (base + length one.nodes + length two.nodes) one.entry two.entry
      (low + inner_values a + inner_values b) in
      let both = passed_more one.nodes two.nodes in
      let whole = passed_more (one.nodes ++ two.nodes) three.nodes in
      let left = value_passes a base next low r ComesInto in
      let right = value_passes b (base + length one.nodes) next (low + inner_values a) r ComesInto in
      let test = test_passes c (base + length one.nodes + length two.nodes) one.entry two.entry
      (low + inner_values a + inner_values b) in
      omega (arith, both, whole, left, right, test)

  all_pass : (es : Exprs) (base next first low : ℕ) → passed (all es base next first low).nodes ≡ 0
  all_pass no_more base next first low = omega arith
  all_pass (one_more e es) base next first low =
      let rest = all es base next (first + own_value e) low in
      let head = value e (base + length rest.nodes) rest.entry (low + all_inner_values es) first IsFound in
      let both = passed_more rest.nodes head.nodes in
      let later = all_pass es base next (first + own_value e) low in
      let one = value_passes e (base + length rest.nodes) rest.entry (low + all_inner_values es) first IsFound in
      omega (arith, both, later, one)

  test_passes : (c : Test) (base left right low : ℕ) → passed (decides c base left right low).nodes ≡ 0
  test_passes (holds c es) base left right low =
      let rest = all_pass es (base + 1) base low (low + own_values es) in omega (arith, rest)
  test_passes (always is) base left right low = omega arith
  test_passes (if_test a b c) base left right low =
      let two = decides b base left right low in
      let three = decides c (base + length two.nodes) left right (low + test_values b) in
      let one = decides a (base + length two.nodes + length three.nodes) two.entry three.entry
      (low + test_values b + test_values c) in
      let both = passed_more two.nodes three.nodes in
      let whole = passed_more (two.nodes ++ three.nodes) one.nodes in
      let yes_ = test_passes b base left right low in
      let no_ = test_passes c (base + length two.nodes) left right (low + test_values b) in
      let test = test_passes a (base + length two.nodes + length three.nodes) two.entry three.entry
      (low + test_values b + test_values c) in
      omega (arith, both, whole, yes_, no_, test)

listed_length : (es : List Expr) (low : ℕ) → length (registers (listed es) low) ≡ length es
listed_length [] low = refl
listed_length (e ∷ es) low = ap suc (listed_length es (low + own_value e))

mutual
  statement_passes : (a : Statement) (exits : List ℕ) (base next low : ℕ) →
      passed (statement a exits base next low).nodes ≡ sel.passed a
  statement_passes st.skip exits base next low = omega arith
  statement_passes (st.set t e) exits base next low = value_passes e base next low t ComesInto
  statement_passes (st.store a e) exits base next low =
      let r = low + own_values a.operands in
      let stored = value e (base + 1) base (r + own_value e) r IsFound in
      let ops = all a.operands (base + 1 + length stored.nodes) stored.entry low (r + own_value e + inner_values e) in
      let both = passed_more stored.nodes ops.nodes in
      let one = value_passes e (base + 1) base (r + own_value e) r IsFound in
      let rest = all_pass a.operands (base + 1 + length stored.nodes) stored.entry low
      (r + own_value e + inner_values e) in
      omega (arith, both, one, rest)
  statement_passes (st.call t name es) exits base next low =
      let args = listed_length es low in
      let rest = all_pass (listed es) (base + 1) base low (low + own_values (listed es)) in
      omega (arith, args, rest)
  statement_passes (st.seq bs) exits base next low = sequence_passes bs exits base next low
  statement_passes (st.if_else c a b) exits base next low =
      let one = statement a exits base next low in
      let two = statement b exits (base + length one.nodes) next (low + statement_values a) in
      let three = decides c (base + length one.nodes + length two.nodes) one.entry two.entry
      (low + statement_values a + statement_values b) in
      let both = passed_more one.nodes two.nodes in
      let whole = passed_more (one.nodes ++ two.nodes) three.nodes in
      let left = statement_passes a exits base next low in
      let right = statement_passes b exits (base + length one.nodes) next (low + statement_values a) in
      let test = test_passes c (base + length one.nodes + length two.nodes) one.entry two.entry
      (low + statement_values a + statement_values b) in
      omega (arith, both, whole, left, right, test)
  statement_passes (st.loop a) exits base next low =
      let body = statement_passes a exits (base + 1) base low in omega (arith, body)
  statement_passes (st.block a) exits base next low = statement_passes a (next ∷ exits) base next low
  statement_passes (st.exit n) exits base next low = omega arith
  statement_passes (st.return_ None) exits base next low = omega arith
  statement_passes (st.return_ (Some e)) exits base next low =
      let one = value_passes e (base + 1) base (low + own_value e) low IsFound in omega (arith, one)
  statement_passes (st.lock name) exits base next low = omega arith
  statement_passes (st.unlock name) exits base next low = omega arith
  statement_passes (st.print e) exits base next low =
      let one = value_passes e (base + 1) base (low + own_value e) low IsFound in omega (arith, one)

  sequence_passes : (bs : Statements) (exits : List ℕ) (base next low : ℕ) →
      passed (sequence bs exits base next low).nodes ≡ sel.all_passed bs
  sequence_passes st.no_more exits base next low = omega arith
  sequence_passes (st.one_more a bs) exits base next low =
      let rest = sequence bs exits base next low in
      let head = statement a exits (base + length rest.nodes) rest.entry (low + all_statement_values bs) in
      let both = passed_more rest.nodes head.nodes in
      let later = sequence_passes bs exits base next low in
      let one = statement_passes a exits (base + length rest.nodes) rest.entry (low + all_statement_values bs) in
      omega (arith, both, later, one)

zeros_pass : (t count base next : ℕ) → passed (zeros t count base next).nodes ≡ 0
zeros_pass t zero base next = omega arith
zeros_pass t (suc count) base next =
    let rest = zeros (t + 1) count base next in
    let both = passed_more rest.nodes (graph.op (Constant 0) [] t rest.entry ∷ []) in
    let later = zeros_pass (t + 1) count base next in
    omega (arith, both, later)

pub same_room : (g : SelFun) → room_of (made_graph (sel_routine g)) ≡ sel.room_of (sel_routine g)
same_room g =
    let r = sel_routine g in
    let body = made_body r in
    let first = made_zeros r in
    let last : List (Node ℕ) = graph.nop first.entry ∷ [] in
    let whole = passed_more ((graph.return_ None ∷ body.nodes) ++ first.nodes) last in
    let front = passed_more (graph.return_ None ∷ body.nodes) first.nodes in
    let one = statement_passes r.body [] 1 0 r.temporaries in
    let none = zeros_pass r.parameters (r.temporaries - r.parameters) (1 + length body.nodes) body.entry in
    omega (arith, whole, front, one, none)
