use Rattle.std.proofs.Common.{◌∙◌, nat_eq, ap, rules}
use borrow.Author.Tests.{tests}
use Rattle.std.proofs.lemmas.Iterator.Splits.{YieldsList-from_slice_split}
use Rattle.std.proofs.lemmas.Iterator.Consumers.{count_from_yields_List}
use Rattle.cas_base.proofs.names.has_rows.Goals as goal

pub returns : goal.returns
returns c =
    ap (λ n. nat_eq n c.args.count) (count_from_yields_List c.split.result c.count.result c.count.ensures.ran
    (YieldsList-from_slice_split _ _ c.args.text.now (c.split.ensures.rest ∙ c.as_bytes.ensures.value)
    c.split.ensures.done c.split.ensures.closure (λ x r q k. search (rules, tests))))
