use Rattle.std.proofs.Common.{◌≡◌, ◌∙◌, rules}
use borrow.Author.Tests.{tests}
use Rattle.std.proofs.lemmas.Iterator.{IsFirst-from_position}
use Rattle.std.proofs.lemmas.Iterator.Splits.{YieldsList-from_slice_split}
use Rattle.cas_base.proofs.NameTables.{IsFirstRow-from_position}
use Rattle.cas_base.proofs.names.first_row.Goals as goal

pub returns : goal.returns
returns c =
    IsFirstRow-from_position _ c.args.text.now c.position.result
    (IsFirst-from_position _ _ c.position.result (λ x. x ≡ c.args.text.now) (λ x. x ≡ c.args.text.now → ⊥)
    c.position.ensures.ran
    (YieldsList-from_slice_split _ _ c.args.rows.now (c.split.ensures.rest ∙ c.as_bytes.ensures.value)
    c.split.ensures.done c.split.ensures.closure (λ x r q k. search (rules, tests)))
    (λ x q k. search (rules, tests))
    (λ x q k. search (rules, tests)))
