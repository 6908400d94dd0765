use Rattle.cas_top.proofs.worlds.turned.Goals as goal

pub returns : goal.returns
returns c = λ ms names is. c.in_ok-take_turns.ensures ms names _ (c.in_ok-world.ensures.first ms names is)
