use Rattle.std.proofs.Common.{reverse, sym, ap, subst, ◌∙◌}
use Rattle.std.specs.Option.{option_map}
use Rattle.cas_step.specs.Step.{memory_keeping}
use Rattle.cas_memory.specs.Values.{value_of}
use Rattle.cas_thread.specs.Frames.{AreFrames, AreParts}
use Rattle.cas_thread.proofs.Returning.{given_back, given_back_end}
use Rattle.cas_thread.proofs.config.Config.return_value.Goals as goal

pub returns-in-Some-caller_of : goal.returns-in-Some-caller_of
returns-in-Some-caller_of c = λ modules e h rs s parts is returns.
    let self = c.args.self.now in
    let f = c.in-Some.frame in
    let v = option_map value_of c.args.value in
    let serial = c.in-Some-caller_of.serial in
    given_back modules e h rs s v self.frames.items c.pop.new.self.items f self.memory self.fresh
    c.in-Some.ensures.items parts is serial c.keep.new.memory
    (λ all are. c.in-Some-caller_of.ensures modules all
    (subst (λ fs. AreFrames modules (reverse fs) all) (sym c.deref.ensures.value) are))
    (λ m keeps. c.keep.ensures m (ap (λ left. memory_keeping left serial f.target v) c.remove.ensures ∙ keeps))
    returns

pub returns-in-Some : goal.returns-in-Some
returns-in-Some c = λ modules e h rs s parts is returns.
    let self = c.args.self.now in
    let w = given_back_end modules e h rs s (option_map value_of c.args.value) self.frames.items c.pop.new.self.items
    c.in-Some.frame self.memory self.fresh c.in-Some.ensures.items parts is
    (λ all are. c.in-None-caller_of.ensures modules all
    (subst (λ fs. AreFrames modules (reverse fs) all) (sym c.deref.ensures.value) are)) returns in
    (w.0, subst (λ m. AreParts modules c.pop.new.self.items m self.fresh s.next) (sym c.remove.ensures) w.1)
