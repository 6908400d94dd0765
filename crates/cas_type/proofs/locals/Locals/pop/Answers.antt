use Rattle.std.proofs.Common.{cond, ap, ◌∙◌}
use Rattle.std.specs.Map.{lookup}
use Rattle.std.specs.Str.{bytes_eq}
use Rattle.cas_type.proofs.Locals_named.{hiding_without, is_there, newest_without}
use Rattle.cas_type.proofs.locals.Locals.pop.Goals as goal

pub give_back-requires : goal.give_back-requires
give_back-requires c =
    is_there c.pop.new.self.items c.self.inside.stack.items c.in-Some.local c.in-Some.ensures.items c.as_str.result.now
    c.as_str.ensures.text c.self.inside.newest.entries c.self.invariant.newest

pub invariant_of-self : goal.invariant_of-self
invariant_of-self c =
    let stack = c.pop.new.self.items in
    let before = c.self.inside.stack.items in
    let entries = c.self.inside.newest.entries in
    record {
      hiding = hiding_without stack before c.in-Some.local c.in-Some.ensures.items c.self.invariant.hiding;
      newest = newest_without stack before c.in-Some.local c.in-Some.ensures.items entries
          c.give_back.new.newest.entries
          (λ other. c.give_back.ensures other
          ∙ ap (λ key. cond (bytes_eq key other) c.in-Some.local.hidden
          (lookup (λ k. bytes_eq other k.now) entries)) c.as_str.ensures.text)
          c.self.invariant.hiding c.self.invariant.newest;
    }
