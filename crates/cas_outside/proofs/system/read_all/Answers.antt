use Rattle.std.proofs.Common.{arith, rules}
use Rattle.cas_outside.proofs.Streams.{gave_more}
use Rattle.cas_outside.proofs.system.read_all.Goals as goal

pub returns-then-len-count-clause-no_further : goal.returns-then-len-count-clause-no_further
returns-then-len-count-clause-no_further g c =
    gave_more _ _ _ _ _ _ _ c.loop.invariant.consumed c.in-Ok.ensures.bytes.0 c.in-Ok.ensures.bound.1 (search rules)

pub returns-then-is_err-clause-no_further : goal.returns-then-is_err-clause-no_further
returns-then-is_err-clause-no_further g c =
    gave_more _ _ _ _ _ _ _ c.loop.invariant.consumed c.in-Ok.ensures.bytes.0 c.in-Ok.ensures.bound.1 (search rules)
