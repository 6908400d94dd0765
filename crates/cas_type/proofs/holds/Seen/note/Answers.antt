use Rattle.std.proofs.Common.{◌≡◌, false, ◌∷◌, ap, ◌∙◌}
use Rattle.std.specs.List.{list_any}
use Rattle.std.specs.Str.{bytes_eq}
use Rattle.cas_type.proofs.Seen_lemmas.{any_newest, newest_first, newest-push, kept_new}
use Rattle.cas_type.proofs.holds.Seen.note.Goals as goal

pub returns : goal.returns
returns c =
    let keys = c.self.inside.names.keys in
    let key = c.as_str.result in
    let fresh : list_any (λ k. bytes_eq key.now k.now) keys ≡ false =
    (λ i. list_any (λ k. bytes_eq (c.as_str.ensures.text i) k.now) keys)
    ∙ any_newest c.args.name.now keys
    ∙ ap (list_any (bytes_eq c.args.name.now)) c.self.view_is
    ∙ c.requires in
    ap newest_first (c.in_ok-insert.ensures.keys ∙ kept_new (list_any (λ k. bytes_eq key.now k.now) keys)
    keys key fresh)
    ∙ newest-push keys key
    ∙ (λ i. c.as_str.ensures.text i ∷ c.self.view_is i)
