use Rattle.std.proofs.Common.{◌≡◌, ℕ, ◌+◌, ◌*◌, max, List, [], ◌++◌, drop}
use Rattle.cas_syntax.specs.Tree.{stmt_trees}
use Rattle.cas_type.proofs.Lists.{Walking}
use Rattle.cas_typed.specs.Scopes.{locals_of_list}
use Rattle.cas_type.proofs.body.+statement.Given as goal

abbrev pub decreases-statement : goal.decreases-statement
decreases-statement l = 4 * goal.size-statement l

abbrev pub decreases-part : goal.decreases-part
decreases-part l = 4 * goal.size-part l + 1

abbrev pub decreases-first_part : goal.decreases-first_part
decreases-first_part l = 4 * goal.size-first_part l + 2

abbrev pub decreases-optional_part : goal.decreases-optional_part
decreases-optional_part l = 4 * goal.size-optional_part l + 2

abbrev pub decreases-list : goal.decreases-list
decreases-list l = 4 * goal.size-list l + 1

abbrev pub decreases-block : goal.decreases-block
decreases-block l = 4 * goal.size-block l + 2

abbrev pub decreases-while_loop : goal.decreases-while_loop
decreases-while_loop l =
    4 * goal.size-part
    (record {
      the-lifetimes = ([], ([], ([], tt {0})));
      scopes = l.scopes;
      made = l.made;
      within = l.within;
      stmt =
          l.body;
    }) + 2

abbrev pub decreases-do_loop : goal.decreases-do_loop
decreases-do_loop l = 4 * goal.size-do_loop l + 2

abbrev pub decreases-branches : goal.decreases-branches
decreases-branches l =
    4 * max (goal.size-part
    (record {
      the-lifetimes = ([], ([], ([], tt {0})));
      scopes = l.scopes;
      made = l.made;
      within = l.within;
      stmt =
          l.first;
    }))
    (goal.size-optional_part
    (record {
      the-lifetimes = ([], ([], ([], tt {0})));
      scopes = l.scopes;
      made = l.made;
      within = l.within;
      stmt =
          l.second;
    })) + 3

abbrev pub decreases-for_loop : goal.decreases-for_loop
decreases-for_loop l =
    4 * max (goal.size-part
    (record {
      the-lifetimes = ([], ([], ([], tt {0})));
      scopes = l.scopes;
      made = l.made;
      within = l.within;
      stmt =
          l.body;
    }))
    (max (goal.size-first_part
    (record {
      the-lifetimes = ([], ([], ([], tt {0})));
      scopes = l.scopes;
      made = l.made;
      within = l.within;
      stmt =
          l.first;
    }))
    (goal.size-optional_part
    (record {
      the-lifetimes = ([], ([], ([], tt {0})));
      scopes = l.scopes;
      made = l.made;
      within = l.within;
      stmt =
          l.next;
    }))) + 3

-- the statements so far are walked through, and the locals of the rest are to come
abbrev pub invariant-list-loop-stmt : goal.invariant-list-loop-stmt
invariant-list-loop-stmt l = record {
  walking : Walking l.within.ret l.within.in_loop l.fn.scopes (stmt_trees l.stmts) l.fn.made.rows.items l.scopes
      (stmt_trees (drop l.stmt-index l.stmts)) l.made.rows.items l.numbers.items;
  locals : l.made.locals.items ++ locals_of_list (stmt_trees (drop l.stmt-index l.stmts))
      ≡ l.fn.made.locals.items ++ locals_of_list (stmt_trees l.stmts);
}
