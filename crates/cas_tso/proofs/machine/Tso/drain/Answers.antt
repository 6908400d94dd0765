use Rattle.std.proofs.Common.{◌≡◌, ◌<◌, length, Some, None, slice_get, sym, refl, subst, arith}
use Rattle.std.specs.Prelude.{MatchResult, OnOk, vec_capacity}
use Rattle.cas_tso.specs.Machine.{Machine}
use Rattle.cas_tso.specs.Refusal.{StepsAs, part, refused_drain}
use Rattle.cas_tso.specs.State.{Thread}
use Rattle.cas_tso.specs.Inside.{machine_in}
use Rattle.cas_tso.specs.declared.refused.Choice.TheVariants as choice
use Rattle.cas_tso.proofs.Machines.{DrainsAnyhow, drains_moves, drains_steps, item_at, kept_after, on_err, on_ok, one_item, room_after, with_part}
use Rattle.cas_tso.proofs.machine.Tso.drain.Goals as goal

pub drain_oldest-requires : goal.drain_oldest-requires
drain_oldest-requires c =
    let d = c.self.inside in
    let lt : c.args.thread < length d.threads.items = subst (λ (u : Machine). c.args.thread < length u.state.threads)
    (sym c.self.view_is) c.requires in
    let at = item_at d.threads.items c.args.thread c.index_mut-core.result.now c.index_mut-core.ensures.value lt in
    let k = c.self.invariant.kept.threads c.args.thread c.index_mut-core.result.now at in
    let wide = c.self.invariant.kept.memory in
    let long = d.memory.ok.0 in
    λ j x e. let within = k.within j x e in omega arith

pub invariant_of-self : goal.invariant_of-self
invariant_of-self c =
    let d = c.self.inside in
    let i = c.args.thread in
    let lt : i < length d.threads.items = subst (λ (u : Machine). i < length u.state.threads) (sym c.self.view_is)
    c.requires in
    let core = c.index_mut-core.result.now in
    let at = item_at d.threads.items i core c.index_mut-core.ensures.value lt in
    let r = c.drain_oldest in
    let p = (machine_in d).setup in
    let s = (machine_in d).state in
    let before = part core s.memory s.output in
    let now = part r.new.core r.new.memory.items s.output in
    record {
      kept = kept_after p s i core r.new.core r.new.memory.items s.output r.result c.self.invariant.fuel
          c.self.invariant.kept at
          (on_ok r.result (λ (f : DrainsAnyhow core s.memory r.new.core r.new.memory.items). drains_moves p i before now
          (f p i s.output)) r.ensures.drains)
          (on_err r.result (λ (h : (r.new.core ≡ core) × (r.new.memory.items ≡ s.memory)). (h.0, h.1, refl))
          r.ensures.still);
      fuel = c.self.invariant.fuel;
      room = room_after d.threads.items i r.new.core d.options.outs (vec_capacity d.output) (vec_capacity d.output)
          refl c.self.invariant.room;
    }

pub returns-clause-answer : goal.returns-clause-answer
returns-clause-answer c = λ e at_e.
    let d = c.self.inside in
    let i = c.args.thread in
    let lt : i < length d.threads.items = subst (λ (u : Machine). i < length u.state.threads) (sym c.self.view_is)
    c.requires in
    let core = c.index_mut-core.result.now in
    let at = item_at d.threads.items i core c.index_mut-core.ensures.value lt in
    let at_now : slice_get c.args.self.now.state.threads i ≡ Some core =
    subst (λ (u : Machine). slice_get u.state.threads i ≡ Some core) c.self.view_is at in
    let is = one_item (slice_get c.args.self.now.state.threads i) core e at_now at_e in
    let f : Machine → Thread → Type 0 = λ u t. MatchResult c.drain_oldest.result (λ _. refused_drain t.buffer ≡ None)
    (λ why. refused_drain t.buffer ≡ Some why) in
    subst (λ (u : Machine). f u e) c.self.view_is
    (subst (λ (t : Thread). f (machine_in d) t) is c.drain_oldest.ensures.answer)

pub returns-clause-steps : goal.returns-clause-steps
returns-clause-steps c =
    let d = c.self.inside in
    let i = c.args.thread in
    let lt : i < length d.threads.items = subst (λ (u : Machine). i < length u.state.threads) (sym c.self.view_is)
    c.requires in
    let core = c.index_mut-core.result.now in
    let at = item_at d.threads.items i core c.index_mut-core.ensures.value lt in
    let r = c.drain_oldest in
    let p = (machine_in d).setup in
    let s = (machine_in d).state in
    let t = with_part s i r.new.core r.new.memory.items s.output in
    subst (λ (u : Machine). OnOk r.result (StepsAs u.setup u.state (choice.Drain i) t)) c.self.view_is
    (on_ok r.result
    (λ (f : DrainsAnyhow core s.memory r.new.core r.new.memory.items). drains_steps p s i core r.new.core
    r.new.memory.items s.output at (f p i s.output))
    r.ensures.drains)
