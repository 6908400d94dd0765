use Rattle.cas_type.proofs.Walk_lemmas.{one_function}
use Rattle.cas_type.proofs.module.walk_one.Goals as goal

pub returns-in-Ok-clause-walked : goal.returns-in-Ok-clause-walked
returns-in-Ok-clause-walked c = one_function c.args.scopes.now.decls c.args.item.now c.in-Define.fun c.in-Ok.function
    c.in-Define.is c.in-Ok.ensures.walked
