use Rattle.cas_object_laws.proofs.Lines.{line_back}
use Rattle.cas_object_laws.proofs.laws.lines_are_read_back.Goals as goal

pub returns : goal.returns
returns c = line_back
