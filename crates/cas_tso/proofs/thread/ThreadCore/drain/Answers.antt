use Rattle.std.proofs.Common.{◌≡◌, ◌+◌, slice_get, List, drop, sym, ap, ◌∙◌}
use Rattle.circular_buffer.specs.Buffer.{Buffer}
use Rattle.cas_tso.specs.State.{Thread}
use Rattle.cas_tso.specs.Step.{after_drain}
use Rattle.cas_tso.specs.declared.pending.Pending.{Pending}
use Rattle.cas_tso.proofs.Buffers.{first_and_rest}
use Rattle.cas_tso.proofs.thread.ThreadCore.drain.Goals as goal

pub returns-clause-taken : goal.returns-clause-taken
returns-clause-taken c =
    let x = c.in_ok-store.store in
    let d = c.self.inside in
    let is = c.self.view_is in
    let was : d.buffer.items ≡ c.args.self.now.buffer = ap (λ (t : Thread). t.buffer) is in
    λ p. (
      x.entered,
      drop 1 c.args.self.now.buffer,
      first_and_rest c.args.self.now.buffer x (ap (λ (l : List Pending). slice_get l 0) (sym was)
          ∙ sym c.in_ok-store.ensures.value),
      ap (λ (b : Buffer Pending). let u : Thread = record {
        cpu = d.cpu;
        buffer = b.items;
        counts = record {
          executed = d.executed;
          loads = d.loads;
          forwarded = d.forwarded;
          drains = d.drains + 1;
          outs =
              d.outs;
        };
        ended = d.end;
      } in u) c.pop_front.ensures.items ∙ ap (λ (t : Thread). after_drain t (drop 1 t.buffer)) is,
    )
