use Rattle.std.proofs.Common.{◌∙◌}
use Rattle.cas_base.specs.Ty.{same_ty}
use Rattle.cas_base.specs.contracts.kind.TyPartialEq.TheImpl.{eq-value as ty}
use Rattle.cas_base.proofs.TyLemmas.{pointwise_congr, ty-same}
use Rattle.cas_base.proofs.decl.same_types.Goals as goal

pub returns : goal.returns
returns c = c.eq.ensures ∙ pointwise_congr ty.it same_ty ty-same c.args.types.now c.args.others.now
