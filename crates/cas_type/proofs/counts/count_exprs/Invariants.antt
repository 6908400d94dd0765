use Rattle.std.proofs.Common.{◌≡◌, ◌<◌, ◌+◌, ◌^◌, length, map}
use Rattle.cas_syntax.specs.Tree.{expr_tree}
use Rattle.cas_type.specs.Parts.{capped}
use Rattle.cas_typed.specs.Counts.{nodes_of_exprs}
use Rattle.cas_type.proofs.counts.count_exprs.Given as goal

abbrev pub invariant-each : goal.invariant-each
invariant-each l = record {
  counted : capped (l.count + nodes_of_exprs (map expr_tree l.rest)) ≡ capped
      (l.before + nodes_of_exprs (map expr_tree l.exprs));
  within : l.count < 2 ^ 64;
}

abbrev pub decreases-each : goal.decreases-each
decreases-each l = length l.rest
