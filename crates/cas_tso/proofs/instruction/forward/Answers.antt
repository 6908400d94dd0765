use Rattle.std.proofs.Common.{◌∙◌, sym, ap, refl, subst}
use Rattle.cas_tso.specs.Step.{IsPlain, from_buffer, forwarded, stop_of, stopped}
use Rattle.cas_tso.proofs.Going.{plain_after}
use Rattle.cas_tso.proofs.instruction.forward.Goals as goal

pub forward-requires-clause-plain : goal.forward-requires-clause-plain
forward-requires-clause-plain c =
    let d = c.args.core.now in
    subst IsPlain (sym c.ask-asked.ensures.asked)
    (plain_after c.args.image.now c.args.options.now d c.args.at c.args.word c.requires.load
    (ap (stop_of c.args.options.now d) (sym c.ask-asked.ensures.asked) ∙ (sym c.stop_of.ensures ∙ c.in-None.is)))

pub returns-in-Some : goal.returns-in-Some
returns-in-Some c = λ i m o. (
  stopped (from_buffer c.args.at c.args.word) c.in-Some.end,
  (λ x. x),
  (
    (
      c.requires.running,
      (
        c.requires.load,
        c.requires.newest,
        ap (stop_of c.args.options.now c.args.core.now) (sym c.ask-asked.ensures.asked)
            ∙ (sym c.stop_of.ensures ∙ c.in-Some.is),
      ),
      c.stop.ensures,
    ),
    tt,
    refl,
    refl,
  ),
)

pub returns-in-None : goal.returns-in-None
returns-in-None c = λ i m o. (forwarded c.args.at c.args.word, (λ x. x), (c.forward.ensures, tt, refl, refl))
