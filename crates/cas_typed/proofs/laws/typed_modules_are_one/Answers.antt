use Rattle.cas_typed.proofs.Later_rows.{rows_are_later}
use Rattle.cas_typed.proofs.Typed_once.{typed_once}
use Rattle.cas_typed.proofs.laws.typed_modules_are_one.Goals as goal

pub returns : goal.returns
returns c = record {
  one = typed_once;
  later = rows_are_later;
}
