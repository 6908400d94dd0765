use Rattle.std.proofs.Common.{◌≡◌, ◌++◌, length, map}
use Rattle.cas_step.specs.Step.{locals_of}
use Rattle.cas_memory.specs.Blocks.{locals_in}
use Rattle.cas_memory.specs.Spans.{AreSpans}
use Rattle.cas_memory.specs.Values.{value_of}
use Rattle.cas_memory.proofs.block.Block.new.Given as goal

abbrev pub invariant-each : goal.invariant-each
invariant-each l = record {
  whole : AreSpans 0 (length l.cells.items) l.spans.items;
  locals : locals_in l.spans.items (map value_of l.cells.items) ++ locals_of (map (λ v. v.ty) l.rest)
      (map value_of l.values) ≡ locals_of (map (λ v. v.ty) l.locals) (map value_of l.arguments);
}

abbrev pub decreases-each : goal.decreases-each
decreases-each l = length l.rest
