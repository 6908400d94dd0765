use Rattle.std.proofs.Common.{Ok, refl, ap}
use Rattle.cas_typed.specs.Faults.{then_}
use Rattle.cas_typed.specs.Resolved as t
use Rattle.cas_type.proofs.plain.type_lock.Goals as goal

pub returns : goal.returns
returns c = (_, ap (λ w. then_ w (λ found. Ok (t.lock c.args.place found))) c.in_ok-item.ensures, refl)
