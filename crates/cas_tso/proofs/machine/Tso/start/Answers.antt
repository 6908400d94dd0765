use Rattle.std.proofs.Common.{◌≡◌, ◌*◌, ◌≤◌, ℕ, List, [], length, sym, ap, ◌∙◌, subst}
use Rattle.std.specs.Prelude.{vec_capacity}
use Rattle.cas_tso.specs.Counted.{IsKept}
use Rattle.cas_tso.specs.Run.{start_state}
use Rattle.cas_tso.specs.State.{State, Thread, setup}
use Rattle.cas_tso.proofs.Keeping.{start_kept}
use Rattle.cas_tso.proofs.machine.Tso.start.Goals as goal

pub invariant_of-result : goal.invariant_of-result
invariant_of-result c =
    let p = setup c.args.image.now c.args.options.now in
    let outs = c.args.options.now.outs in
    let output = c.in_ok-output.output in
    let em : c.in_ok-memory.memory.items ≡ p.image.words = c.in_ok-memory.ensures.items ∙ c.as_slice.ensures in
    let eo : output.items ≡ [] = c.in_ok-output.ensures.items in
    let et : c.in_ok-threads.threads.items ≡ (start_state p).threads = c.in_ok-threads.ensures in
    let is : (let u : State = record {
      memory = c.in_ok-memory.memory.items;
      output = output.items;
      threads =
          c.in_ok-threads.threads.items;
    } in u) ≡ start_state p =
    λ n. record { memory = em n; output = eo n; threads = et n } in
    let room : outs * length p.image.entries ≤ vec_capacity output =
    subst (λ (l : List ℕ). outs * length l ≤ vec_capacity output) c.as_slice-2.ensures c.in_ok-output.ensures.capacity
    in
    record {
      kept = subst (λ (u : State). IsKept p u) (sym is) (start_kept p);
      fuel = c.requires.fuel;
      room = subst (λ (n : ℕ). outs * n ≤ vec_capacity output)
          (sym (ap (λ (ts : List Thread). length ts) et ∙ (start_kept p).count)) room;
    }
