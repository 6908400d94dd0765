use Rattle.std.proofs.Common.{arith}
use Rattle.cas_object_spelling.proofs.Texts.{text-printed}
use Rattle.cas_object_spelling.proofs.laws.texts_are_printed.Goals as goal

pub returns : goal.returns
returns c = λ text units small e. text-printed text units (omega (arith, small)) e
