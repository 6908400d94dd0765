use Rattle.std.proofs.Common.{◌∙◌, ap}
use Rattle.cas_link.specs.Rows.{found_number}
use Rattle.cas_link.proofs.Finding.{lookup-numbers}
use Rattle.cas_link.proofs.table.Labels.find.Goals as goal

pub returns : goal.returns
returns c =
    c.copied.ensures
    ∙ c.get.ensures.value
    ∙ lookup-numbers c.args.label c.self.inside.table.entries
    ∙ ap (λ rows. found_number rows c.args.label) c.self.view_is
