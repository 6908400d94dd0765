use Rattle.std.proofs.Common.{ap, ◌∙◌}
use Rattle.std.specs.List.{list_any}
use Rattle.std.specs.Str.{bytes_eq}
use Rattle.cas_type.proofs.Seen_lemmas.{any_newest}
use Rattle.cas_type.proofs.holds.Seen.has.Goals as goal

pub returns : goal.returns
returns c =
    c.contains.ensures
    ∙ (λ i. list_any (λ key. bytes_eq (c.as_str.ensures.text i) key.now) c.self.inside.names.keys)
    ∙ any_newest c.args.name.now c.self.inside.names.keys
    ∙ ap (list_any (bytes_eq c.args.name.now)) c.self.view_is
