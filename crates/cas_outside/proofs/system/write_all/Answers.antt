use Rattle.std.proofs.Common.{rules}
use Rattle.cas_outside.proofs.Streams.{more_written}
use Rattle.cas_outside.proofs.system.write_all.Goals as goal
use Rattle.cas_outside.proofs.system.write_all.Goals.{in-Ok, in-Err+in-Interrupted}

pub loop-preserved : goal.loop-preserved
loop-preserved g c = elim c.match-write.branch [
  | in-Ok w ↦ rw w.rest-is (more_written _ _ _ _ _ _ _ c.loop.invariant.1 c.loop.invariant.2 w.in-Ok.ensures.bytes)
  | in-Err+in-Interrupted w ↦ search rules
]
