use Rattle.std.proofs.Common.{arith, ◌≡◌, ℕ, ◌+◌, List, ◌∷◌, map, reverse, Some, sym, ap, subst, ◌∙◌}
use Rattle.std.proofs.Math.Logic.{∥∥₁_map}
use Rattle.cas_step.specs.Asks.{Value}
use Rattle.cas_step.specs.Step.{Activation, Block, Object, Step, locals_of}
use Rattle.cas_memory.specs.Values.{value_of}
use Rattle.cas_whole.specs.Whole.{function_at as stands_at}
use Rattle.cas_thread.specs.Frames.{AreFrames, AreParts, IsAThread}
use Rattle.cas_thread.specs.declared.config.Frame.{Frame}
use Rattle.cas_thread.proofs.Entering.{before_known, entered, found_there}
use Rattle.cas_thread.proofs.config.Config.enter.Goals as goal

pub push-requires : goal.push-requires
push-requires c = before_known c.args.modules.now c.args.self.now.frames.items c.args.self.now.memory
    c.args.self.now.fresh c.requires

pub advance_newest-requires : goal.advance_newest-requires
advance_newest-requires c = ∥∥₁_map c.requires (λ (w : IsAThread c.args.modules.now c.args.self.now). (
  w.0.activations,
  subst (λ (fs : List Frame). AreFrames c.args.modules.now (reverse fs) w.0.activations)
      (sym c.reserve.ensures.items) w.1.frames_are,
))

pub returns-in_ok-push-in-Some-clause-taken : goal.returns-in_ok-push-in-Some-clause-taken
returns-in_ok-push-in-Some-clause-taken c = λ ms h rs s m it typed thread is at steps.
    let ts = c.args.modules.now in
    let self = c.args.self.now in
    let f = c.in-Some.function.now in
    let made = c.in_ok-frame-in-Some in
    let frame = made.frame in
    let vs = map value_of c.args.values.now in
    let between = c.advance_newest.new.frames.items in
    let behind = c.push_reserved.new.self.items in
    let left = c.push.new.self in
    let next = c.in-Some-checked_add.fresh in
    let at_is = ap (λ (u : ℕ). stands_at (u, c.args.at.1)) (sym made.ensures.unit)
    ∙ ap (λ (p : ℕ). stands_at (frame.unit, p)) (sym made.ensures.place) in
    let goes = λ (all : List Activation) (are : AreFrames ts (reverse self.frames.items) all).
    c.advance_newest.ensures.frames all (subst (λ (fs : List Frame). AreFrames ts (reverse fs) all)
    (sym c.reserve.ensures.items) are) in
    let block = λ (ls : List (List (Value Object))). let b : Block =
    record { serial = self.fresh; locals = ls } in b ∷ self.memory in
    let left_is : left ≡ block (locals_of (map (λ v. v.ty) f.locals) vs) =
    c.in_ok-push-in-Some.ensures.pushed ∙ ap (λ ls. block (locals_of (map (λ v. v.ty) ls) vs)) c.as_slice.ensures in
    let next_is : next ≡ self.fresh + 1 = grind (arith, c.in-Some-checked_add.ensures, c.in-Some-checked_add.is) in (
      ap (λ (x : Step). Some x.act) steps,
      subst (AreParts ts behind left next) (ap (λ (x : Step). x.next) steps)
          (entered ts ms typed (stands_at c.args.at) f c.in-Some.ensures.some h frame self.frames.items between behind
          c.args.target vs self.memory left self.fresh next
          at_is (sym made.ensures.serial) (sym made.ensures.target) made.ensures.cont made.ensures.room thread is goes
          c.push_reserved.ensures.items left_is next_is),
    )

pub returns-in-None-clause-taken : goal.returns-in-None-clause-taken
returns-in-None-clause-taken c = λ ms h rs s m it typed thread is at steps.
    absurd (found_there c.args.modules.now ms c.args.at.0 c.args.at.1 m it typed at.unit_is at.function_is
    c.in-None.ensures.none)
