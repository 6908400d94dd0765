use Rattle.std.proofs.Common.{◌≡◌, ◌+◌, ◌++◌, length, map, sum}
use Rattle.cas_base.specs.Ty.{words_of_ty}
use Rattle.cas_type.specs.Parts.{marked_locals}
use Rattle.cas_type.proofs.marks.locals.Given as goal

abbrev pub invariant-each : goal.invariant-each
invariant-each l = record {
  locals : l.locals.items ++ marked_locals l.behind l.first l.rest ≡ marked_locals l.marks 0 l.tys;
  cells : l.first + sum (map words_of_ty l.rest) ≡ sum (map words_of_ty l.tys);
}

abbrev pub decreases-each : goal.decreases-each
decreases-each l = length l.behind
