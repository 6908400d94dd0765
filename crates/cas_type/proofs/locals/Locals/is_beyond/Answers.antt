use Rattle.std.proofs.Common.{ap, sym, ◌∙◌}
use Rattle.cas_type.proofs.Locals_named.{beyond_is, is_beyond}
use Rattle.cas_type.proofs.locals.Locals.is_beyond.Goals as goal

pub returns-in-Some : goal.returns-in-Some
returns-in-Some c =
    ap (is_beyond c.args.older) (sym c.in-Some.is ∙ c.index.ensures)
    ∙ sym (beyond_is c.args.older c.args.self.now c.args.name.now)

pub returns-in-None : goal.returns-in-None
returns-in-None c =
    ap (is_beyond c.args.older) (sym c.in-None.is ∙ c.index.ensures)
    ∙ sym (beyond_is c.args.older c.args.self.now c.args.name.now)
