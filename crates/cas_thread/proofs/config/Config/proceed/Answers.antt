use Rattle.std.proofs.Math.Logic.{∥∥₁_map}
use Rattle.cas_thread.specs.Frames.{IsAThread}
use Rattle.cas_thread.proofs.config.Config.proceed.Goals as goal

pub advance_newest-requires : goal.advance_newest-requires
advance_newest-requires c =
    ∥∥₁_map c.requires (λ (w : IsAThread c.args.modules.now c.args.self.now). (w.0.activations, w.1.frames_are))
