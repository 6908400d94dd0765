use Rattle.std.proofs.Common.{◌≡◌, ◌+◌, ◌-◌, ◌≤◌, length, map}
use Rattle.std.specs.List.{sum_by}
use Rattle.cas_command.specs.Parts.{item_view}
use Rattle.cas_command.proofs.values.are_few.Given as goal

abbrev pub invariant-each : goal.invariant-each
invariant-each l = record {
  within : l.left ≤ 10000000;
  summed : sum_by (λ item. item.1) (map item_view l.rest) + (10000000 - l.left) ≡ sum_by (λ item. item.1)
      (map item_view l.items);
}

abbrev pub decreases-each : goal.decreases-each
decreases-each l = length l.rest
