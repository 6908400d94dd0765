use Rattle.std.proofs.Common.{ℕ, ◌==◌, ◌∙◌, ap, [], ◌∷◌, ◌++◌}
use Rattle.indexmap.proofs.CallerLemmas.{insert_entry-new}
use Rattle.cas_link.specs.Rows.{found_number}
use Rattle.cas_link.proofs.Finding.{lookup-numbers}
use Rattle.cas_link.proofs.table.Labels.push.Goals as goal

pub returns : goal.returns
returns c =
    c.in_ok-insert.ensures.entries
    ∙ insert_entry-new (λ (a b : ℕ). a == b) c.self.inside.table c.args.label c.args.place
    (lookup-numbers c.args.label c.self.inside.table.entries
    ∙ ap (λ rows. found_number rows c.args.label) c.self.view_is ∙ c.requires)
    ∙ ap (λ rows. rows ++ (c.args.label, c.args.place) ∷ []) c.self.view_is
