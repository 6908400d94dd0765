use Rattle.cas_object_laws.proofs.Counts.{read-few}
use Rattle.cas_object_laws.proofs.laws.objects_are_few.Goals as goal

pub returns : goal.returns
returns c = read-few
