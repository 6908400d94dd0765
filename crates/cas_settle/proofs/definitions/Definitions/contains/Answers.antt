use Rattle.std.proofs.Common.{◌∙◌, ap}
use Rattle.std.specs.List.{list_any}
use Rattle.std.specs.Str.{bytes_eq}
use Rattle.cas_settle.specs.Located.{names_in}
use Rattle.cas_settle.proofs.FindLemmas.{lookup-contains}
use Rattle.cas_settle.proofs.definitions.Definitions.contains.Goals as goal

pub returns : goal.returns
returns c =
    c.contains_key.ensures
    ∙ lookup-contains c.args.name.now c.self.inside.table.entries c.self.invariant.keyed
    ∙ ap (λ found. list_any (bytes_eq c.args.name.now) (names_in found)) c.self.view_is
