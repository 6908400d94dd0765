use Rattle.std.proofs.Common.{cond, Some, None, ap, sym, ◌∙◌}
use Rattle.std.proofs.lemmas.Map.Text.{hash_map_updates_str}
use Rattle.std.specs.Map.{lookup}
use Rattle.std.specs.Str.{bytes_eq}
use Rattle.cas_type.proofs.locals.give_back.Goals as goal

pub returns-in-Some-get_mut : goal.returns-in-Some-get_mut
returns-in-Some-get_mut c = λ other.
    hash_map_updates_str c.args.name.now c.args.newest.now (c.get_mut.follows.lender c.in-Some.hidden)
    (Some c.in-Some.hidden) ((c.get_mut.follows.holds c.in-Some.hidden).3 c.requires) other
    ∙ ap (λ found. cond (bytes_eq c.args.name.now other) found
    (lookup (λ key. bytes_eq other key.now) c.args.newest.now.entries)) (sym c.in-Some.is)

pub returns-in-None : goal.returns-in-None
returns-in-None c = λ other.
    hash_map_updates_str c.args.name.now c.args.newest.now c.swap_remove.new.self None c.swap_remove.ensures.updates
    other
    ∙ ap (λ found. cond (bytes_eq c.args.name.now other) found
    (lookup (λ key. bytes_eq other key.now) c.args.newest.now.entries)) (sym c.in-None.is)
