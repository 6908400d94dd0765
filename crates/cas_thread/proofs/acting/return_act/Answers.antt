use Rattle.std.proofs.Common.{arith}
use Rattle.cas_thread.proofs.Acts_of.{done_act, quiet_act}
use Rattle.cas_thread.proofs.acting.return_act.Goals as goal

pub returns-then-frames-lt2 : goal.returns-then-frames-lt2
returns-then-frames-lt2 c = λ ts e h rs v s are is. done_act e h rs s ts c.args.frames.now v
    (omega (arith, c.if-frames-lt2.true)) are is

pub returns-else-frames-lt2 : goal.returns-else-frames-lt2
returns-else-frames-lt2 c = λ ts e h rs v s are is. quiet_act e h rs s ts c.args.frames.now v
    (omega (arith, c.if-frames-lt2.false)) are is
