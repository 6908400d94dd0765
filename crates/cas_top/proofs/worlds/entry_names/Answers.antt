use Rattle.cas_top.proofs.Turning.{name_at}
use Rattle.cas_top.proofs.worlds.entry_names.Goals as goal

pub entry_name-requires : goal.entry_name-requires
entry_name-requires c = name_at c.args.threads.now c.loop-thread.thread-index _ c.loop-thread-test.true c.requires
