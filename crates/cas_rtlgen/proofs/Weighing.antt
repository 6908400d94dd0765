-- The graph that is made of a function weighs no more than the function, and has no greater room.
use Rattle.std.proofs.Common.{◌≡◌, ℕ, zero, suc, ◌+◌, ◌-◌, ◌*◌, ◌≤◌, List, [], ◌∷◌, ◌++◌, Some, None, length, ap, arith}
use Rattle.cas_runs.specs.Bounds.{total, weight_of}
use Rattle.cas_mid.proofs.Translating.{total_append}
use Rattle.cas_mid.specs.Trees as st
use Rattle.cas_mid.specs.Language.{weight_prices, all_weight_prices}
use Rattle.cas_sel.specs.declared.tree.Op.TheVariants.{Constant}
use Rattle.cas_sel.specs.declared.tree.SelFun.{SelFun}
use Rattle.cas_sel.specs.Trees.{Expr, temporary, operation, load, if_, Exprs, no_more, one_more, Test, holds, always, if_test, Statement, Statements, listed}
use Rattle.cas_sel.specs.Rooms.{own_value, own_values, inner_values, all_inner_values, test_values, statement_values, all_statement_values}
use Rattle.cas_sel.specs.Code.{sel_routine}
use Rattle.cas_sel.specs.CminorSel.{sel_parts, cminorsel, value_prices, all_prices, test_prices}
use Rattle.cas_rtl.specs.Graph as graph
use Rattle.cas_rtl.specs.Graph.{Node, Graph, node_operands, each_argument}
use Rattle.cas_rtl.specs.Rtl.{rtl_prices, rtl}
use Rattle.cas_rtlgen.specs.declared.draft.Way.{Way}
use Rattle.cas_rtlgen.specs.declared.draft.Way.TheVariants.{ComesInto, IsFound}
use Rattle.cas_rtlgen.specs.Making.{register, registers, of_temporary, value, all, decides, statement, sequence, zeros, made_body, made_zeros, made_graph}
use Rattle.cas_rtlgen.proofs.Values.{operator_pays, reading, node_cost}
use Rattle.cas_rtlgen.proofs.Statements.{prices_listed}
use Rattle.cas_rtlgen.proofs.Entry.{registers_length}

abbrev weigh : List (Node ℕ) → ℕ
weigh ns = total (graph.all_prices rtl_prices ns)

weigh_one : (node : Node ℕ) (ns : List (Node ℕ)) → weigh (node ∷ ns) ≡ node_cost node + weigh ns
weigh_one node ns =
    let sum = total_append (node_operands rtl_prices node) (graph.all_prices rtl_prices ns) in omega (arith, sum)

weigh_more : (xs ys : List (Node ℕ)) → weigh (xs ++ ys) ≡ weigh xs + weigh ys
weigh_more [] ys = omega arith
weigh_more (x ∷ xs) ys =
    let rest = weigh_more xs ys in
    let one = weigh_one x xs in
    let both = weigh_one x (xs ++ ys) in
    omega (arith, rest, one, both)

-- a value that is found pays for being read too
abbrev spare : Way → ℕ
spare ComesInto = 0
spare IsFound = 2

spare_most : (way : Way) → spare way ≤ 2
spare_most ComesInto = omega arith
spare_most IsFound = omega arith

temporary_weight : (t base next r : ℕ) (way : Way) → weigh (of_temporary t base next r way).nodes + spare way ≤ 10
temporary_weight t base next r ComesInto = omega arith
temporary_weight t base next r IsFound = omega arith

mutual
  value_weight : (e : Expr) (base next low r : ℕ) (way : Way) →
      weigh (value e base next low r way).nodes + spare way ≤ total (value_prices e)
  value_weight (temporary t) base next low r way =
      let le = temporary_weight t base next r way in omega (arith, le)
  value_weight (operation o es) base next low r way =
      let le = all_weight es (base + 1) base low (low + own_values es) in
      let one = weigh_one (graph.op o (registers es low) r next)
      (all es (base + 1) base low (low + own_values es)).nodes in
      let pays = operator_pays o in
      let most = spare_most way in
      omega (arith, le, one, pays, most)
  value_weight (load m es) base next low r way =
      let le = all_weight es (base + 1) base low (low + own_values es) in
      let one = weigh_one (graph.load m (registers es low) r next)
      (all es (base + 1) base low (low + own_values es)).nodes in
      let most = spare_most way in
      omega (arith, le, one, most)
  value_weight (if_ c a b) base next low r way =
      let one = value a base next low r ComesInto in
      let two = value b (base + length one.nodes) next (low + inner_values a) r ComesInto in
      let three = decides c (base + length one.nodes + length two.nodes) one.entry two.entry
      (low + inner_values a + inner_values b) in
      let left = weigh_more (one.nodes ++ two.nodes) three.nodes in
      let left_two = weigh_more one.nodes two.nodes in
      let right = total_append (test_prices c ++ value_prices a) (value_prices b) in
      let right_two = total_append (test_prices c) (value_prices a) in
      let first = value_weight a base next low r ComesInto in
      let second = value_weight b (base + length one.nodes) next (low + inner_values a) r ComesInto in
      let third = test_weight c (base + length one.nodes + length two.nodes) one.entry two.entry
      (low + inner_values a + inner_values b) in
      let most = spare_most way in
      omega (arith, left, left_two, right, right_two, first, second, third, most)

  all_weight : (es : Exprs) (base next first low : ℕ) →
      weigh (all es base next first low).nodes + reading (registers es first) ≤ total (all_prices es)
  all_weight no_more base next first low = omega arith
  all_weight (one_more e es) base next first low =
      let rest = all es base next (first + own_value e) low in
      let head = value e (base + length rest.nodes) rest.entry (low + all_inner_values es) first IsFound in
      let left = weigh_more rest.nodes head.nodes in
      let right = total_append (value_prices e) (all_prices es) in
      let one_weight =
      value_weight e (base + length rest.nodes) rest.entry (low + all_inner_values es) first IsFound in
      let others = all_weight es base next (first + own_value e) low in
      omega (arith, left, right, one_weight, others)

  test_weight : (c : Test) (base i j low : ℕ) → weigh (decides c base i j low).nodes ≤ total (test_prices c) + 9
  test_weight (holds c es) base i j low =
      let le = all_weight es (base + 1) base low (low + own_values es) in
      let one = weigh_one (graph.test c (registers es low) i j) (all es (base + 1) base low (low + own_values es)).nodes
      in
      omega (arith, le, one)
  test_weight (always is) base i j low = omega arith
  test_weight (if_test a b c) base i j low =
      let two = decides b base i j low in
      let three = decides c (base + length two.nodes) i j (low + test_values b) in
      let one = decides a (base + length two.nodes + length three.nodes) two.entry three.entry
      (low + test_values b + test_values c) in
      let left = weigh_more (two.nodes ++ three.nodes) one.nodes in
      let left_two = weigh_more two.nodes three.nodes in
      let right = total_append (test_prices a ++ test_prices b) (test_prices c) in
      let right_two = total_append (test_prices a) (test_prices b) in
      let first = test_weight a (base + length two.nodes + length three.nodes) two.entry three.entry
      (low + test_values b + test_values c) in
      let second = test_weight b base i j low in
      let third = test_weight c (base + length two.nodes) i j (low + test_values b) in
      omega (arith, left, left_two, right, right_two, first, second, third)

abbrev price : Statement → ℕ
price a = total (weight_prices sel_parts a)

arguments_weight : (es : List Expr) (low : ℕ) →
    total (each_argument rtl_prices (registers (listed es) low)) ≡ reading (registers (listed es) low) + 8 * length es
arguments_weight [] low = omega arith
arguments_weight (e ∷ es) low = let rest = arguments_weight es (low + own_value e) in omega (arith, rest)

mutual
  stmt_weight : (a : Statement) (exits : List ℕ) (base next low : ℕ) →
      weigh (statement a exits base next low).nodes ≤ price a
  stmt_weight st.skip exits base next low = omega arith
  stmt_weight (st.set t e) exits base next low =
      let le = value_weight e base next low t ComesInto in omega (arith, le)
  stmt_weight (st.store a e) exits base next low =
      let es = a.operands in
      let r = low + own_values es in
      let stored = value e (base + 1) base (r + own_value e) r IsFound in
      let ops = all es (base + 1 + length stored.nodes) stored.entry low (r + own_value e + inner_values e) in
      let node = weigh_one (graph.store a.mode (registers es low) (register e r) next) (stored.nodes ++ ops.nodes) in
      let left = weigh_more stored.nodes ops.nodes in
      let right = total_append (all_prices es) (value_prices e) in
      let first = value_weight e (base + 1) base (r + own_value e) r IsFound in
      let second =
      all_weight es (base + 1 + length stored.nodes) stored.entry low (r + own_value e + inner_values e) in
      omega (arith, node, left, right, first, second)
  stmt_weight (st.call t name es) exits base next low =
      let le = all_weight (listed es) (base + 1) base low (low + own_values (listed es)) in
      let one = weigh_one (graph.call name (registers (listed es) low) t next)
      (all (listed es) (base + 1) base low (low + own_values (listed es))).nodes in
      let same = prices_listed es in
      let passed = arguments_weight es low in
      omega (arith, le, one, same, passed)
  stmt_weight (st.seq bs) exits base next low = let le = seq_weight bs exits base next low in omega (arith, le)
  stmt_weight (st.if_else c a b) exits base next low =
      let one = statement a exits base next low in
      let two = statement b exits (base + length one.nodes) next (low + statement_values a) in
      let three = decides c (base + length one.nodes + length two.nodes) one.entry two.entry
      (low + statement_values a + statement_values b) in
      let left = weigh_more (one.nodes ++ two.nodes) three.nodes in
      let left_two = weigh_more one.nodes two.nodes in
      let right = total_append (test_prices c ++ weight_prices sel_parts a) (weight_prices sel_parts b) in
      let right_two = total_append (test_prices c) (weight_prices sel_parts a) in
      let first = stmt_weight a exits base next low in
      let second = stmt_weight b exits (base + length one.nodes) next (low + statement_values a) in
      let third = test_weight c (base + length one.nodes + length two.nodes) one.entry two.entry
      (low + statement_values a + statement_values b) in
      omega (arith, left, left_two, right, right_two, first, second, third)
  stmt_weight (st.loop a) exits base next low =
      let le = stmt_weight a exits (base + 1) base low in
      let one = weigh_one (graph.nop (statement a exits (base + 1) base low).entry)
      (statement a exits (base + 1) base low).nodes in
      omega (arith, le, one)
  stmt_weight (st.block a) exits base next low =
      let le = stmt_weight a (next ∷ exits) base next low in omega (arith, le)
  stmt_weight (st.exit k) exits base next low = omega arith
  stmt_weight (st.return_ None) exits base next low = omega arith
  stmt_weight (st.return_ (Some e)) exits base next low =
      let le = value_weight e (base + 1) base (low + own_value e) low IsFound in
      let one = weigh_one (graph.return_ (Some (register e low)))
      (value e (base + 1) base (low + own_value e) low IsFound).nodes in
      omega (arith, le, one)
  stmt_weight (st.lock name) exits base next low = omega arith
  stmt_weight (st.unlock name) exits base next low = omega arith
  stmt_weight (st.print e) exits base next low =
      let le = value_weight e (base + 1) base (low + own_value e) low IsFound in
      let one = weigh_one (graph.out (register e low) next)
      (value e (base + 1) base (low + own_value e) low IsFound).nodes in
      omega (arith, le, one)

  seq_weight : (bs : Statements) (exits : List ℕ) (base next low : ℕ) →
      weigh (sequence bs exits base next low).nodes ≤ total (all_weight_prices sel_parts bs)
  seq_weight st.no_more exits base next low = omega arith
  seq_weight (st.one_more a bs) exits base next low =
      let rest = sequence bs exits base next low in
      let first = statement a exits (base + length rest.nodes) rest.entry (low + all_statement_values bs) in
      let left = weigh_more rest.nodes first.nodes in
      let right = total_append (weight_prices sel_parts a) (all_weight_prices sel_parts bs) in
      let one = stmt_weight a exits (base + length rest.nodes) rest.entry (low + all_statement_values bs) in
      let others = seq_weight bs exits base next low in
      omega (arith, left, right, one, others)

zeros_weight : (t count base next : ℕ) → weigh (zeros t count base next).nodes ≡ 11 * count
zeros_weight t zero base next = omega arith
zeros_weight t (suc count) base next =
    let rest = zeros (t + 1) count base next in
    let both = weigh_more rest.nodes (graph.op (Constant 0) [] t rest.entry ∷ []) in
    let others = zeros_weight (t + 1) count base next in
    omega (arith, both, others)

pub graph_weighs : {F : Type 0} (graph_of : F → Graph ℕ) (f : F) (g : SelFun) →
    graph_of f ≡ made_graph (sel_routine g) → weight_of (rtl graph_of).tariff f ≤ weight_of cminorsel.tariff g
graph_weighs graph_of f g made =
    let r = sel_routine g in
    let body = made_body r in
    let begins = made_zeros r in
    let front = graph.return_ None ∷ body.nodes in
    let one = weigh_more (front ++ begins.nodes) (graph.nop begins.entry ∷ []) in
    let two = weigh_more front begins.nodes in
    let zero_ones = zeros_weight r.parameters (r.temporaries - r.parameters) (1 + length body.nodes) body.entry in
    let le = stmt_weight r.body [] 1 0 r.temporaries in
    let few = registers_length 0 r.parameters in
    let nodes = ap (λ (v : Graph ℕ). weigh v.nodes) made in
    let passed = ap (λ (v : Graph ℕ). length v.parameters) made in
    omega (arith, one, two, zero_ones, le, few, nodes, passed)
