use Rattle.std.proofs.Common.{◌≡◌, false, Some, ◌∙◌, sym, rules}
use Rattle.std.proofs.lemmas.Map.Text.{hash_map_updates_str}
use Rattle.cas_whole.proofs.Tables.{put_new}
use Rattle.cas_whole.proofs.names.put.Goals as goal

pub returns-in_ok-insert : goal.returns-in_ok-insert
returns-in_ok-insert c =
    let none : c.contains_key.result ≡ false = search rules in
    put_new c.args.table.now.entries c.insert.new.self.entries c.args.name.now c.args.entity
    (sym c.contains_key.ensures ∙ none)
    (hash_map_updates_str c.args.name.now c.args.table.now c.insert.new.self (Some c.args.entity)
    c.in_ok-insert.ensures.updates)
