use Rattle.std.proofs.Common.{◌≡◌, length, map, reverse, Some, ap, ◌∙◌, arith}
use Rattle.std.proofs.lemmas.Grind.{common_steps}
use Rattle.std.proofs.lemmas.Map.Text.{hash_map_updates_str}
use Rattle.cas_type.specs.View.{bound_of, newest_of}
use Rattle.cas_type.proofs.Locals_named.{hiding_with, newest_with}
use Rattle.cas_type.proofs.locals.Locals.push.Goals as goal

pub invariant_of-self-in-Ok : goal.invariant_of-self-in-Ok
invariant_of-self-in-Ok c =
    let held = c.self.inside in
    let stack = held.stack.items in
    let vs = map bound_of (reverse stack) in
    let counted : c.len-index.result ≡ length stack = grind (arith, common_steps) in
    record {
      hiding = hiding_with stack c.push.new.self.items _ c.in_ok-push.ensures.items
          (c.copied-hidden.ensures ∙ c.get.ensures.value ∙ c.self.invariant.newest c.as_str.result.now
          ∙ ap (newest_of vs) c.as_str.ensures.text)
          c.self.invariant.hiding;
      newest = newest_with stack c.push.new.self.items _ c.in_ok-push.ensures.items c.as_str-2.result.now
          c.len-index.result held.newest.entries c.insert.new.self.entries
          c.as_str-2.ensures.text counted
          (hash_map_updates_str c.as_str-2.result.now held.newest c.insert.new.self (Some c.len-index.result)
          c.in-Ok.ensures.updates)
          c.self.invariant.newest;
    }
