use Rattle.std.proofs.Common.{reverse, [], ◌∷◌, sym, ap, ◌∙◌}
use Rattle.std.proofs.lemmas.List.{reverse-append}
use Rattle.cas_thread.proofs.step.newest.Goals as goal

pub returns-clause-some : goal.returns-clause-some
returns-clause-some c =
    let rest = c.in_ok-frame.field-0-1.now in (
      reverse rest,
      ap reverse (sym c.deref.ensures.value ∙ c.in_ok-frame.ensures.cases.0)
          ∙ reverse-append rest (c.in_ok-frame.frame.now ∷ []),
    )
