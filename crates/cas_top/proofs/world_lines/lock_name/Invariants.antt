use Rattle.std.proofs.Common.{◌≡◌, length}
use Rattle.cas_top.specs.Worlds.{lock_name}
use Rattle.cas_top.proofs.world_lines.lock_name.Given as goal

abbrev pub invariant-rows : goal.invariant-rows
invariant-rows l = lock_name l.rest l.word ≡ lock_name l.cells l.word

abbrev pub decreases-rows : goal.decreases-rows
decreases-rows l = length l.rest
