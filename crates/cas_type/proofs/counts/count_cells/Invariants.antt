use Rattle.std.proofs.Common.{◌≡◌, ◌<◌, ◌+◌, ◌^◌, length, map, sum}
use Rattle.cas_base.specs.Ty.{words_of_ty}
use Rattle.cas_type.specs.Parts.{capped}
use Rattle.cas_type.proofs.counts.count_cells.Given as goal

abbrev pub invariant-each : goal.invariant-each
invariant-each l = record {
  counted : capped (l.count + sum (map words_of_ty l.rest)) ≡ capped (l.before + sum (map words_of_ty l.tys));
  within : l.count < 2 ^ 64;
}

abbrev pub decreases-each : goal.decreases-each
decreases-each l = length l.rest
