use Rattle.std.proofs.Common.{◌∙◌, ap}
use Rattle.cas_link.specs.Rows.{found}
use Rattle.cas_link.proofs.Finding.{lookup-rows}
use Rattle.cas_link.proofs.table.Symbols.find.Goals as goal

pub returns : goal.returns
returns c =
    c.copied.ensures
    ∙ c.get.ensures.value
    ∙ lookup-rows c.args.name.now c.self.inside.table.entries
    ∙ ap (λ rows. found rows c.args.name.now) c.self.view_is
