use Rattle.cas_together.proofs.Ordering.{ordered}
use Rattle.cas_together.proofs.labels_lead.Goals as goal

pub returns : goal.returns
returns g c = ordered g.W.Worlds.edge g.W.Worlds.count g.W.Worlds.threads g.W.Worlds.moves g.W.Worlds.first
    g.W.Worlds.agrees c.go_along.ensures
