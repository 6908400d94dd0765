use Rattle.std.proofs.Common.{◌≡◌, ◌==◌, false, cond, List, ℕ, [], ◌∷◌, ◌++◌, ap, sym, ◌∙◌}
use Rattle.std.specs.List.{list_any}
use Rattle.cas_object.proofs.Counting.{any-turned}
use Rattle.cas_object.proofs.labels.Labels.note.Goals as goal

pub returns : goal.returns
returns c =
    let keys = c.self.inside.labels.keys in
    let m = c.args.label in
    let fresh : list_any (λ l. m == l) keys ≡ false =
    sym (any-turned m keys) ∙ (ap (list_any (λ l. l == m)) c.self.view_is ∙ c.requires) in
    c.in_ok-insert.ensures.keys
    ∙ (ap (λ b. cond b keys (keys ++ m ∷ [])) fresh ∙ ap (λ (ls : List ℕ). ls ++ m ∷ []) c.self.view_is)
