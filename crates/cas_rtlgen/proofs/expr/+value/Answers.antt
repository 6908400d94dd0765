use Rattle.std.proofs.Common.{◌≡◌, ◌+◌, ◌-◌, ◌<◌, length, drop, ap, sym, ◌∙◌, arith}
use Rattle.cas_sel.specs.Trees.{load}
use Rattle.cas_sel.specs.Code.{expression_of, list_of, test_of}
use Rattle.cas_sel.specs.Rooms.{own_value, own_values, inner_values, all_inner_values, test_values}
use Rattle.cas_sel.proofs.Lists.{operation_of, load_of, holds_of}
use Rattle.cas_rtlgen.specs.declared.draft.Way.TheVariants.{IsFound}
use Rattle.cas_rtlgen.specs.Drafts.{value_at, all_at}
use Rattle.cas_rtlgen.proofs.Drafts.{AreTaken, nodes_same, entry_same, taken_same, operation_at, load_at, holds_at, all_taken, all_more, all_more_nodes, list_before, own_left}
use Rattle.cas_rtlgen.proofs.expr.+value.Goals as goal

pub all-overflow_sub-register : goal.all-overflow_sub-register
all-overflow_sub-register t c =
    let xs = c.args.exprs.now in
    let k = c.each.left - 1 in
    let rest = c.each.invariant.register in
    let all = c.requires.taken in
    let own = c.own-register.ensures in
    let more = own_left xs k in
    let lt : k < length xs = omega (arith, c.each.invariant.within, c.each-test.true) in
    let is = ap own_values (list_before xs k c.each.left c.index-exprs-left.result (omega (arith, c.each-test.true)) lt
    c.index-exprs-left.is) in
    omega (arith, rest, all, own, more, is)

pub all-each-preserved : goal.all-each-preserved
all-each-preserved t c =
    let xs = c.args.exprs.now in
    let k = c.each.left - 1 in
    let within = c.each.invariant.within in
    let test = c.each-test.true in
    let lt : k < length xs = omega (arith, within, test) in
    let x = c.index-exprs-left.result in
    let is = list_before xs k c.each.left x (omega (arith, test)) lt c.index-exprs-left.is in
    let own = c.own-register.ensures in
    let left = c.each.invariant.register in
    let all = c.requires.taken in
    let less = own_left xs k in
    let more = ap own_values is in
    let start = c.each.register - c.own-register.result in
    let sum : start + own_value (expression_of x) ≡ c.each.register = omega (arith, own, left, all, less, more) in
    let piece = all_more c.args.draft.now c.each.draft (expression_of x) (list_of (drop k xs))
    (list_of (drop c.each.left xs)) c.args.next c.each.register start c.each.entry is sum c.each.invariant.nodes
    c.each.invariant.entry c.each.invariant.taken in
    let inner = ap all_inner_values is in
    let taken = c.each.invariant.taken in
    let one = c.in_ok-entry.ensures.taken in
    record {
      within = omega (arith, within);
      register = omega (arith, left, sum, more);
      nodes = all_more_nodes c.args.draft.now.nodes c.each.draft.nodes c.value.new.draft.nodes
          (all_at c.args.draft.now (list_of (drop c.each.left xs)) c.args.next c.each.register)
          (value_at c.each.draft (expression_of x) c.each.entry start IsFound)
          (all_at c.args.draft.now (list_of (drop k xs)) c.args.next start)
          c.each.invariant.nodes piece c.in_ok-entry.ensures.nodes;
      entry = c.in_ok-entry.ensures.entry ∙ ap (λ p. p.entry) piece;
      taken = omega (arith, inner, taken, one);
    }

pub decide-returns-in_ok-args-in-Holds : goal.decide-returns-in_ok-args-in-Holds
decide-returns-in_ok-args-in-Holds t c =
    let d = c.args.draft.now in
    let d1 = c.place_all.new.draft in
    let xs = c.deref.result.now in
    let ys = c.deref-in-Holds.result.now in
    let zs = c.in-Holds.operands.items in
    let args = c.in_ok-args-in-Holds.args in
    let are : AreTaken d d1 xs ys zs args = record {
      placed = c.deref.ensures.value;
      read = c.deref-in-Holds.ensures.value;
      registers = c.in_ok-args-in-Holds.ensures.registers;
      taken = c.in_ok-args-in-Holds.ensures.taken;
      nodes = c.in_ok-args-in-Holds.ensures.nodes;
    } in
    let is = ap test_of c.in-Holds.is ∙ holds_of c.in-Holds.condition c.in-Holds.operands in
    let piece = holds_at d d1 xs ys zs args are (test_of c.args.test.now) c.in-Holds.condition c.args.left c.args.right
    is in
    record {
      nodes = nodes_same c.on_operands.result _ are.nodes piece c.on_operands.ensures.nodes;
      entry = entry_same c.on_operands.result piece c.on_operands.ensures.entry;
      taken = taken_same c.on_operands.result _ (all_taken d d1 xs ys zs args are
          ∙ ap (λ x. d.taken + test_values x) (sym is))
          c.on_operands.ensures.taken;
    }

pub value-returns-in_ok-args-in-Operation : goal.value-returns-in_ok-args-in-Operation
value-returns-in_ok-args-in-Operation t c =
    let d = c.args.draft.now in
    let d1 = c.place_all.new.draft in
    let xs = c.deref.result.now in
    let ys = c.deref-in-Operation.result.now in
    let zs = c.in-Operation.operands.items in
    let args = c.in_ok-args-in-Operation.args in
    let are : AreTaken d d1 xs ys zs args = record {
      placed = c.deref.ensures.value;
      read = c.deref-in-Operation.ensures.value;
      registers = c.in_ok-args-in-Operation.ensures.registers;
      taken = c.in_ok-args-in-Operation.ensures.taken;
      nodes = c.in_ok-args-in-Operation.ensures.nodes;
    } in
    let is = ap expression_of c.in-Operation.is ∙ operation_of c.in-Operation.op c.in-Operation.operands in
    let piece = operation_at d d1 xs ys zs args are (expression_of c.args.expr.now)
    c.in-Operation.op c.args.next c.args.r
    c.args.way is in
    record {
      nodes = nodes_same c.on_operands.result _ are.nodes piece c.on_operands.ensures.nodes;
      entry = entry_same c.on_operands.result piece c.on_operands.ensures.entry;
      taken = taken_same c.on_operands.result _
          (all_taken d d1 xs ys zs args are ∙ ap (λ x. d.taken + inner_values x) (sym is)) c.on_operands.ensures.taken;
    }

pub value-returns-in_ok-args-in-Load : goal.value-returns-in_ok-args-in-Load
value-returns-in_ok-args-in-Load t c =
    let d = c.args.draft.now in
    let d1 = c.place_all-in-Load.new.draft in
    let xs = c.deref-in-Load.result.now in
    let ys = c.deref-in-Load-2.result.now in
    let zs = c.in-Load.operands.items in
    let args = c.in_ok-args-in-Load.args in
    let mode = c.in_ok-mode-in-Load.mode in
    let are : AreTaken d d1 xs ys zs args = record {
      placed = c.deref-in-Load.ensures.value;
      read = c.deref-in-Load-2.ensures.value;
      registers = c.in_ok-args-in-Load.ensures.registers;
      taken = c.in_ok-args-in-Load.ensures.taken;
      nodes = c.in_ok-args-in-Load.ensures.nodes;
    } in
    let is = ap expression_of c.in-Load.is ∙ load_of c.in-Load.mode c.in-Load.operands
    ∙ ap (λ m. load m (list_of zs)) (sym c.in_ok-mode-in-Load.ensures) in
    let piece = load_at d d1 xs ys zs args are (expression_of c.args.expr.now) mode c.args.next c.args.r c.args.way is
    in
    record {
      nodes = nodes_same c.on_operands-in-Load.result _ are.nodes piece c.on_operands-in-Load.ensures.nodes;
      entry = entry_same c.on_operands-in-Load.result piece c.on_operands-in-Load.ensures.entry;
      taken = taken_same c.on_operands-in-Load.result _
          (all_taken d d1 xs ys zs args are ∙ ap (λ x. d.taken + inner_values x) (sym is))
          c.on_operands-in-Load.ensures.taken;
    }
