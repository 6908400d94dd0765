use Rattle.cas_typed.proofs.Later.{IsRow-later}
use Rattle.cas_typed.proofs.laws.parts_of_rows_are_later.Goals as goal

pub returns : goal.returns
returns c = IsRow-later
