use Rattle.std.proofs.Common.{◌≡◌, ◌+◌, ◌*◌, ◌++◌, ◌≤◌, length, drop}
use Rattle.cas_sel.specs.Code.{list_of}
use Rattle.cas_sel.specs.Rooms.{all_inner_values, own_values}
use Rattle.cas_rtlgen.specs.Drafts.{all_at}
use Rattle.cas_rtlgen.proofs.expr.+value.Given as goal

abbrev pub decreases-value : goal.decreases-value
decreases-value l = 3 * goal.size-value l

abbrev pub decreases-decide : goal.decreases-decide
decreases-decide l = 3 * goal.size-decide l

abbrev pub decreases-all : goal.decreases-all
decreases-all l = 3 * goal.size-all l + 1

abbrev pub decreases-on_operands : goal.decreases-on_operands
decreases-on_operands l = 3 * goal.size-on_operands l + 2

-- the nodes of the operands that come later have been made
abbrev pub invariant-all-each : goal.invariant-all-each
invariant-all-each l = record {
  within : l.left ≤ length l.exprs;
  register : l.register + own_values (list_of (drop l.left l.exprs)) ≡ l.fn.taken.end;
  nodes : l.draft.nodes ≡ l.initial.draft.nodes
      ++ (all_at l.initial.draft (list_of (drop l.left l.exprs)) l.next l.register).nodes;
  entry : l.entry ≡ (all_at l.initial.draft (list_of (drop l.left l.exprs)) l.next l.register).entry;
  taken : l.draft.taken ≡ l.initial.draft.taken + all_inner_values (list_of (drop l.left l.exprs));
}

abbrev pub decreases-all-each : goal.decreases-all-each
decreases-all-each l = l.left
