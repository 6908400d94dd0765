use Rattle.std.proofs.Common.{◌≡◌, ◌<◌, length, Some, None, slice_get, sym, subst, arith}
use Rattle.std.specs.Prelude.{MatchResult, OnOk, vec_capacity}
use Rattle.cas_tso.specs.Machine.{Machine}
use Rattle.cas_tso.specs.Refusal.{StepsAs, part, refused_run}
use Rattle.cas_tso.specs.State.{Thread}
use Rattle.cas_tso.specs.Inside.{machine_in}
use Rattle.cas_tso.specs.declared.refused.Choice.TheVariants as choice
use Rattle.cas_tso.proofs.Machines.{goes_moves, goes_steps, item_at, kept_after, on_ok, one_item, room_after, room_left, with_part}
use Rattle.cas_tso.proofs.machine.Tso.run.Goals as goal

pub run_next-requires-clause-fuel : goal.run_next-requires-clause-fuel
run_next-requires-clause-fuel c =
    let d = c.self.inside in
    let lt : c.args.thread < length d.threads.items = subst (λ (u : Machine). c.args.thread < length u.state.threads)
    (sym c.self.view_is) c.requires in
    let at = item_at d.threads.items c.args.thread c.index_mut-core.result.now c.index_mut-core.ensures.value lt in
    let k = c.self.invariant.kept.threads c.args.thread c.index_mut-core.result.now at in
    let small = c.self.invariant.fuel in
    λ runs. let less = k.running runs in omega arith

pub run_next-requires-clause-room : goal.run_next-requires-clause-room
run_next-requires-clause-room c =
    let d = c.self.inside in
    let lt : c.args.thread < length d.threads.items = subst (λ (u : Machine). c.args.thread < length u.state.threads)
    (sym c.self.view_is) c.requires in
    let core = c.index_mut-core.result.now in
    let at = item_at d.threads.items c.args.thread core c.index_mut-core.ensures.value lt in
    let sound = c.self.invariant in
    λ less. let left = room_left d.threads.items c.args.thread core d.options.outs at
    (λ j e at_j. (sound.kept.threads j e at_j).outs) less in
    let is = sound.kept.outputs in
    let long = d.output.ok.0 in
    let room = sound.room in
    omega arith

pub invariant_of-self : goal.invariant_of-self
invariant_of-self c =
    let d = c.self.inside in
    let lt : c.args.thread < length d.threads.items = subst (λ (u : Machine). c.args.thread < length u.state.threads)
    (sym c.self.view_is) c.requires in
    let core = c.index_mut-core.result.now in
    let at = item_at d.threads.items c.args.thread core c.index_mut-core.ensures.value lt in
    let r = c.run_next in
    let p = (machine_in d).setup in
    let s = (machine_in d).state in
    record {
      kept = kept_after p s c.args.thread core r.new.core r.new.memory.items r.new.output.items r.result
          c.self.invariant.fuel c.self.invariant.kept at
          (on_ok r.result (goes_moves p c.args.thread (part core s.memory s.output)
          (part r.new.core r.new.memory.items r.new.output.items)) r.ensures.goes)
          r.ensures.still;
      fuel = c.self.invariant.fuel;
      room = room_after d.threads.items c.args.thread r.new.core d.options.outs (vec_capacity d.output)
          (vec_capacity r.new.output) r.ensures.capacity c.self.invariant.room;
    }

pub returns-clause-answer : goal.returns-clause-answer
returns-clause-answer c = λ e at_e.
    let d = c.self.inside in
    let i = c.args.thread in
    let lt : i < length d.threads.items = subst (λ (u : Machine). i < length u.state.threads) (sym c.self.view_is)
    c.requires in
    let core = c.index_mut-core.result.now in
    let at = item_at d.threads.items i core c.index_mut-core.ensures.value lt in
    let at_now : slice_get c.args.self.now.state.threads i ≡ Some core =
    subst (λ (u : Machine). slice_get u.state.threads i ≡ Some core) c.self.view_is at in
    let is = one_item (slice_get c.args.self.now.state.threads i) core e at_now at_e in
    let f : Machine → Thread → Type 0 = λ u t. MatchResult c.run_next.result
    (λ _. refused_run u.setup.image t t.ended ≡ None) (λ why. refused_run u.setup.image t t.ended ≡ Some why) in
    subst (λ (u : Machine). f u e) c.self.view_is
    (subst (λ (t : Thread). f (machine_in d) t) is c.run_next.ensures.answer)

pub returns-clause-steps : goal.returns-clause-steps
returns-clause-steps c =
    let d = c.self.inside in
    let i = c.args.thread in
    let lt : i < length d.threads.items = subst (λ (u : Machine). i < length u.state.threads) (sym c.self.view_is)
    c.requires in
    let core = c.index_mut-core.result.now in
    let at = item_at d.threads.items i core c.index_mut-core.ensures.value lt in
    let r = c.run_next in
    let p = (machine_in d).setup in
    let s = (machine_in d).state in
    let t = with_part s i r.new.core r.new.memory.items r.new.output.items in
    subst (λ (u : Machine). OnOk r.result (StepsAs u.setup u.state (choice.Run i) t)) c.self.view_is
    (on_ok r.result (goes_steps p s i core r.new.core r.new.memory.items r.new.output.items at) r.ensures.goes)
