use Rattle.cas_object_laws.proofs.Wholes.{read-whole}
use Rattle.cas_object_laws.proofs.laws.objects_are_whole.Goals as goal

pub returns : goal.returns
returns c = read-whole
