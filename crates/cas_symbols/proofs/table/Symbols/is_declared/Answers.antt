use Rattle.std.proofs.Common.{ap, ◌∙◌}
use Rattle.cas_symbols.proofs.Declared.{declared_there}
use Rattle.cas_typed.specs.Scopes.{item_named}
use Rattle.cas_symbols.proofs.table.Symbols.is_declared.Goals as goal

pub returns : goal.returns
returns c =
    let ds = c.args.self.now in
    c.is_some.ensures ∙ declared_there c.get.result ds c.args.name.now
    (c.get.ensures.meaning ∙ ap (item_named 0 ds) c.as_str.ensures.text)
