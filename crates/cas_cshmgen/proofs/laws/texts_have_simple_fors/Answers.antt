use Rattle.cas_cshmgen.proofs.Simple_fors.{texts_are_simple}
use Rattle.cas_cshmgen.proofs.laws.texts_have_simple_fors.Goals as goal

pub returns : goal.returns
returns c = λ text m read. texts_are_simple text m read
