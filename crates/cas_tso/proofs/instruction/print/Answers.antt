use Rattle.std.proofs.Common.{◌∙◌, length, sym, ap, refl}
use Rattle.cas_tso.specs.Step.{printed, stop_of, stopped, unread}
use Rattle.cas_tso.proofs.instruction.print.Goals as goal

pub returns-in-Some-clause-goes : goal.returns-in-Some-clause-goes
returns-in-Some-clause-goes c = λ m. (
  stopped unread c.in-Some.end,
  (λ x. x),
  (
    (
      c.requires.running,
      ap (stop_of c.args.options.now c.args.core.now) c.requires.out
          ∙ (sym c.stop_of.ensures ∙ c.in-Some.is),
      c.stop.ensures,
    ),
    tt,
    refl,
    refl,
  ),
)

pub returns-in-None-clause-goes : goal.returns-in-None-clause-goes
returns-in-None-clause-goes c = λ m. (
  printed (length c.args.output.now.items) c.args.word,
  (λ x. x),
  (c.print.ensures (length c.args.output.now.items), refl, refl, c.push_reserved.ensures.items),
)
