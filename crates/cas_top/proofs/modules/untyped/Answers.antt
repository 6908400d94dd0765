use Rattle.cas_top.specs.Plan.{untyped}
use Rattle.cas_typed.specs.Faults.{fault, limit}
use Rattle.cas_top.proofs.modules.untyped.Goals as goal

pub returns-in-At : goal.returns-in-At
returns-in-At c = λ text m read has.
    let why = c.in-At in
    untyped m (fault why.code why.place why.kept) read (rw why.is at has)

pub returns-in-Limit : goal.returns-in-Limit
returns-in-Limit c = λ text m read has.
    let why = c.in-Limit in
    untyped m (limit why.place why.what why.counted) read (rw why.is at has)
