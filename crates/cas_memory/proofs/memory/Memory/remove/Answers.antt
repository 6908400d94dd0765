use Rattle.std.proofs.Common.{◌<◌, length, subst}
use Rattle.cas_memory.proofs.Change_lemmas.{ascend_remove}
use Rattle.cas_memory.proofs.memory.Memory.remove.Goals as goal

pub invariant_of-self : goal.invariant_of-self
invariant_of-self c = ascend_remove c.self.inside.blocks.items c.remove.new.self.items c.in-Ok.at c.self.invariant
    (subst (λ bs. c.in-Ok.at < length bs) c.deref.ensures.value c.in-Ok.ensures.found.in_range) c.remove.ensures.items
