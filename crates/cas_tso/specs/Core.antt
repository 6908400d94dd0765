-- A thread in code.
use Rattle.cas_tso.specs.State.{Thread}
use Rattle.cas_tso.specs.declared.thread.ThreadCore.TheInside.{Inside}

-- the thread that a core is
abbrev pub thread_in : Inside → Thread
thread_in c = record {
  cpu = c.cpu;
  buffer = c.buffer.items;
  counts = record { executed = c.executed; loads = c.loads; forwarded = c.forwarded; drains = c.drains; outs = c.outs };
  ended = c.end;
}
