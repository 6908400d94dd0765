use Rattle.std.proofs.Common.{◌≡◌, ◌≤◌, ◌+◌, ◌*◌, ◌++◌, length, drop}
use Rattle.cas_sel.specs.Rooms.{all_statement_values}
use Rattle.cas_rtlgen.specs.Drafts.{sel_list, sequence_at}
use Rattle.cas_rtlgen.proofs.stmt.+statement.Given as goal

abbrev pub decreases-statement : goal.decreases-statement
decreases-statement l = 3 * goal.size-statement l

abbrev pub decreases-looped : goal.decreases-looped
decreases-looped l = 3 * goal.size-looped l + 1

abbrev pub decreases-sequence : goal.decreases-sequence
decreases-sequence l = 3 * goal.size-sequence l + 1

-- the nodes of the statements that come later have been made
abbrev pub invariant-sequence-each : goal.invariant-sequence-each
invariant-sequence-each l = record {
  within : l.left ≤ length l.stmts;
  nodes : l.draft.nodes ≡ l.initial.draft.nodes
      ++ (sequence_at l.initial.draft (sel_list (drop l.left l.stmts)) l.initial.exits l.next).nodes;
  entry : l.entry ≡ (sequence_at l.initial.draft (sel_list (drop l.left l.stmts)) l.initial.exits l.next).entry;
  taken : l.draft.taken ≡ l.initial.draft.taken + all_statement_values (sel_list (drop l.left l.stmts));
  exits : l.exits ≡ l.initial.exits;
}

abbrev pub decreases-sequence-each : goal.decreases-sequence-each
decreases-sequence-each l = l.left
