use Rattle.std.proofs.Common.{inr}
use Rattle.cas_top.proofs.refusal.say_fault.Goals as goal

-- src/refusal.rt:87:1
pub returns-in-Err : goal.returns-in-Err
returns-in-Err g c = inr (inr (c.say_memory.ensures.status, c.say_memory.ensures.tried))
