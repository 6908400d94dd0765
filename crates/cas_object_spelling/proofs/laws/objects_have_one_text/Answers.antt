use Rattle.std.proofs.Common.{arith}
use Rattle.cas_object_spelling.proofs.Texts.{text-only}
use Rattle.cas_object_spelling.proofs.laws.objects_have_one_text.Goals as goal

pub returns : goal.returns
returns c = λ text other units small also e f.
    text-only text other units (omega (arith, small)) (omega (arith, also)) e f
