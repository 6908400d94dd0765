use Rattle.std.proofs.Common.{◌≡◌, ◌<◌, ◌+◌, ◌^◌, drop}
use Rattle.cas_syntax.specs.Tree.{stmt_trees}
use Rattle.cas_type.specs.Parts.{capped}
use Rattle.cas_typed.specs.Counts.{nodes_of_stmts}
use Rattle.cas_type.proofs.counts.+count.Given as goal

abbrev pub invariant-count_stmts-loop-inner : goal.invariant-count_stmts-loop-inner
invariant-count_stmts-loop-inner l = record {
  counted : capped (l.count + nodes_of_stmts (stmt_trees (drop l.inner-index l.stmts))) ≡ capped
      (l.before + nodes_of_stmts (stmt_trees l.stmts));
  within : l.count < 2 ^ 64;
}
