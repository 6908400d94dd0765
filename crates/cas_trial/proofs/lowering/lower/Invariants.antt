use Rattle.std.proofs.Common.{take}
use Rattle.cas_trial.specs.Lowering.Makes.{Makes}
use Rattle.cas_trial.proofs.lowering.lower.Given as goal

abbrev pub invariant-loop-instruction : goal.invariant-loop-instruction
invariant-loop-instruction l = Makes l.made.items (take l.instruction-index l.instruction-items)
