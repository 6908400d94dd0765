use Rattle.std.proofs.Common.{◌≡◌, ◌+◌, ◌++◌, drop}
use Rattle.cas_sel.specs.Code.{list_of}
use Rattle.cas_sel.specs.Rooms.{own_values}
use Rattle.cas_rtlgen.specs.Making.{registers}
use Rattle.cas_rtlgen.proofs.expr.place_all.Given as goal

-- those of the operands that are left follow
abbrev pub invariant-loop-expr : goal.invariant-loop-expr
invariant-loop-expr l = record {
  registers : l.args ++ registers (list_of (drop l.expr-index l.exprs)) l.draft.taken
      ≡ registers (list_of l.exprs) l.initial.draft.taken;
  taken : l.draft.taken + own_values (list_of (drop l.expr-index l.exprs))
      ≡ l.initial.draft.taken + own_values (list_of l.exprs);
  nodes : l.draft.nodes ≡ l.initial.draft.nodes;
}
