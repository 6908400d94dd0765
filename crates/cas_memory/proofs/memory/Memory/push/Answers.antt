use Rattle.std.proofs.Common.{sym, subst}
use Rattle.cas_memory.specs.Blocks.{AreBefore}
use Rattle.cas_memory.proofs.Change_lemmas.{ascend_push}
use Rattle.cas_memory.proofs.memory.Memory.push.Goals as goal

pub invariant_of-self-2 : goal.invariant_of-self-2
invariant_of-self-2 c =
    ascend_push c.self.inside.blocks.items c.push.new.self.items c.in_ok-block.block c.args.serial c.self.invariant
    (subst (AreBefore c.args.serial) (sym c.self.view_is) c.requires)
    c.in_ok-push.ensures.items c.in_ok-block.ensures.serial
