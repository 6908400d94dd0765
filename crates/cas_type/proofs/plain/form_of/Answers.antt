use Rattle.std.proofs.Common.{refl, ap}
use Rattle.cas_syntax.specs.Tree.{form_tree}
use Rattle.cas_typed.specs.Resolved.{skip}
use Rattle.cas_typed.specs.Walk.{walk}
use Rattle.cas_type.proofs.plain.form_of.Goals as goal

pub returns-in-Skip : goal.returns-in-Skip
returns-in-Skip c =
    let p = c.args.stmt.now.place in (
      skip p,
      ap (λ form. walk c.args.within.ret c.args.within.in_loop c.args.scopes.now (form_tree p form))
          c.in-Skip.is,
      refl,
    )
