use Rattle.std.proofs.Common.{◌≡◌, false, length, replicate}
use Rattle.cas_type.proofs.Marks_lemmas.{marked_all}
use Rattle.cas_type.proofs.marks.marks.Given as goal

abbrev pub invariant-each : goal.invariant-each
invariant-each l = marked_all l.rest l.marks.items ≡ marked_all l.numbers (replicate l.count false)

abbrev pub decreases-each : goal.decreases-each
decreases-each l = length l.rest
