use Rattle.std.proofs.Common.{◌≡◌, take}
use Rattle.cas_command.specs.Parts.{texts}
use Rattle.cas_top.proofs.worlds.entry_names.Given as goal

abbrev pub invariant-loop-thread : goal.invariant-loop-thread
invariant-loop-thread l = l.names.items ≡ texts (take l.thread-index l.threads)
