use Rattle.std.proofs.Common.{◌≡◌, ◌+◌, ◌++◌, length, count_by}
use Rattle.cas_link.specs.Rows.{FindSameNumber}
use Rattle.cas_link.specs.Parts.{is_run}
use Rattle.cas_link.specs.Code.{labels_from}
use Rattle.cas_link.proofs.code.add_labels.Given as goal

abbrev pub invariant-lines : goal.invariant-lines
invariant-lines l = record {
  found : FindSameNumber (l.labels ++ labels_from l.at l.rest) (l.initial.labels ++ labels_from l.place l.lines);
  counted : l.at + count_by is_run l.rest ≡ l.place + count_by is_run l.lines;
}

abbrev pub decreases-lines : goal.decreases-lines
decreases-lines l = length l.rest
