use Rattle.std.proofs.Common.{ℕ, List, ◌∙◌, ap, [], ◌∷◌, ◌++◌}
use Rattle.std.specs.Borrow.{Bor}
use Rattle.std.specs.Str.{bytes_eq}
use Rattle.std.proofs.lemmas.List.{map_push}
use Rattle.indexmap.proofs.CallerLemmas.{insert_entry-new}
use Rattle.cas_link.specs.Rows.{found}
use Rattle.cas_link.proofs.Finding.{lookup-rows, rows_of}
use Rattle.cas_link.proofs.table.Symbols.push.Goals as goal

pub returns : goal.returns
returns c =
    ap rows_of
    (c.in_ok-insert.ensures.entries
    ∙ insert_entry-new (λ (a b : Bor (List ℕ)). bytes_eq a.now b.now) c.self.inside.table c.args.name c.args.number
    (lookup-rows c.args.name.now c.self.inside.table.entries ∙ ap (λ rows. found rows c.args.name.now) c.self.view_is
    ∙ c.requires))
    ∙ map_push (λ (entry : Bor (List ℕ) × ℕ). (entry.0.now, entry.1)) c.self.inside.table.entries
    (c.args.name, c.args.number)
    ∙ ap (λ rows. rows ++ (c.args.name.now, c.args.number) ∷ []) c.self.view_is
