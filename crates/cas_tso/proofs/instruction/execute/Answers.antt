use Rattle.std.proofs.Common.{◌∙◌, ℕ, List, sym, ap, refl, subst}
use Rattle.cas_tso.specs.Refusal.{Goes, part}
use Rattle.cas_tso.specs.State.{setup}
use Rattle.cas_tso.specs.Step.{plain, stop_of, stored, stopped, unread}
use Rattle.cas_tso.proofs.instruction.execute.Goals as goal

pub returns-in-Plain-clause-goes : goal.returns-in-Plain-clause-goes
returns-in-Plain-clause-goes c = (plain, (λ x. x), (c.run.ensures, tt, refl, refl))

pub returns-in-None-clause-goes : goal.returns-in-None-clause-goes
returns-in-None-clause-goes c =
    let i = c.args.thread in
    let o = c.args.output.now.items in
    let before = c.args.core.now in
    subst (λ (m : List ℕ). Goes (setup c.args.image.now c.args.options.now) i (part before m o)
    (part c.load.new.core m o)) c.deref.ensures.value (c.load.ensures i o)

pub returns-in-Store-clause-goes : goal.returns-in-Store-clause-goes
returns-in-Store-clause-goes c = (stored c.in-Store.at c.in-Store.value, (λ x. x), (c.store.ensures, tt, refl, refl))

pub returns-in-Stack-clause-goes : goal.returns-in-Stack-clause-goes
returns-in-Stack-clause-goes c = (
  stopped unread _,
  (λ x. x),
  (
    (
      c.requires.running,
      ap (stop_of c.args.options.now c.args.core.now)
          (sym c.ask-asked.ensures.asked ∙ c.in-Stack.is),
      c.stop.ensures,
    ),
    tt,
    refl,
    refl,
  ),
)

pub returns-in-Bad-clause-goes : goal.returns-in-Bad-clause-goes
returns-in-Bad-clause-goes c = (
  stopped unread _,
  (λ x. x),
  (
    (
      c.requires.running,
      ap (stop_of c.args.options.now c.args.core.now)
          (sym c.ask-asked.ensures.asked ∙ c.in-Bad.is),
      c.stop-in-Bad.ensures,
    ),
    tt,
    refl,
    refl,
  ),
)
