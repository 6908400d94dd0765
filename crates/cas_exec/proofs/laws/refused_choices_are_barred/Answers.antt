use Rattle.cas_exec.proofs.Refusing.{refused_barred}
use Rattle.cas_exec.proofs.laws.refused_choices_are_barred.Goals as goal

pub returns : goal.returns
returns c = refused_barred
