use Rattle.cas_object_spelling.proofs.Written.{line-spelt}
use Rattle.cas_object_spelling.proofs.laws.lines_have_one_text.Goals as goal

pub returns : goal.returns
returns c = line-spelt
