use Rattle.cas_thread.proofs.Frames_kept.{newest_popped}
use Rattle.cas_thread.proofs.config.advance_newest.Goals as goal

pub advance_frame-next-requires : goal.advance_frame-next-requires
advance_frame-next-requires c = newest_popped c.args.modules.now c.args.frames.now.items c.pop.new.self.items
    c.in-Some.frame c.in-Some.ensures.items c.requires
