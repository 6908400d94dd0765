use Rattle.cas_joins.proofs.Linking.{thread_refines}
use Rattle.cas_joins.proofs.units_link.Goals as goal

pub returns : goal.returns
returns g c = thread_refines g.L.Linkable.family c.is_family.ensures g.L.Linkable.target g.L.Linkable.source
    c.units_refine.ensures c.decomposes.ensures c.composes.ensures
