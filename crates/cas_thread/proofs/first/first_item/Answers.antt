use Rattle.std.proofs.Common.{reverse, [], ◌∷◌, ap, ◌∙◌}
use Rattle.std.proofs.lemmas.List.{reverse-append}
use Rattle.cas_thread.proofs.first.first_item.Goals as goal

pub returns-clause-some : goal.returns-clause-some
returns-clause-some c =
    let rest = c.in_ok-item.field-0-1.now in
    (reverse rest, ap reverse c.in_ok-item.ensures.cases.0 ∙ reverse-append rest (c.in_ok-item.item.now ∷ []))
