use Rattle.std.proofs.Common.{◌∙◌, sym, ap, refl, subst}
use Rattle.cas_tso.specs.Step.{IsPlain, from_memory, loaded, stop_of, stopped}
use Rattle.cas_tso.proofs.Going.{plain_after}
use Rattle.cas_tso.proofs.instruction.load.Goals as goal

pub load-requires-clause-plain : goal.load-requires-clause-plain
load-requires-clause-plain c =
    let d = c.args.core.now in
    subst IsPlain (sym c.ask-asked.ensures.asked)
    (plain_after c.args.image.now c.args.options.now d c.args.at c.word_at-word.result c.requires.load
    (ap (stop_of c.args.options.now d) (sym c.ask-asked.ensures.asked) ∙ (sym c.stop_of.ensures ∙ c.in-None.is)))

pub returns-in-Some : goal.returns-in-Some
returns-in-Some c = λ i o. (
  stopped (from_memory c.args.at c.word_at-word.result) c.in-Some.end,
  (λ x. x),
  (
    (
      c.requires.running,
      (
        c.requires.load,
        c.requires.newest,
        ap (stop_of c.args.options.now c.args.core.now) (sym c.ask-asked.ensures.asked)
            ∙ (sym c.stop_of.ensures ∙ c.in-Some.is),
      ),
      c.stop.ensures,
    ),
    c.word_at-word.ensures,
    refl,
    refl,
  ),
)

pub returns-in-None : goal.returns-in-None
returns-in-None c =
    λ i o. (loaded c.args.at c.word_at-word.result, (λ x. x), (c.load.ensures, c.word_at-word.ensures, refl, refl))
