use Rattle.cas_typed.proofs.Sorted.{IsTyped-sorted}
use Rattle.cas_typed.proofs.laws.typed_functions_are_sorted.Goals as goal

pub returns : goal.returns
returns c = IsTyped-sorted
