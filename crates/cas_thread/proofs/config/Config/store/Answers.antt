use Rattle.std.proofs.Common.{sym, ap, ◌∙◌}
use Rattle.cas_step.specs.Step.{memory_with}
use Rattle.cas_memory.specs.Values.{object_of, value_of}
use Rattle.cas_thread.proofs.Frames_kept.{before_with}
use Rattle.cas_thread.proofs.config.Config.store.Goals as goal

pub returns : goal.returns
returns c = λ modules h cont are.
    let o = object_of c.args.object in
    let v = value_of c.args.value in
    record {
      frames_are = are.frames_are;
      memory_is = ap (λ m. memory_with m o c.args.place v) are.memory_is ∙ sym c.store.ensures;
      fresh_is = are.fresh_is;
      before = before_with h.config.fresh h.config.memory o c.args.place v are.before;
    }
