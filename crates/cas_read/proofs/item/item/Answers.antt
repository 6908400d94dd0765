use Rattle.std.proofs.Common.{◌≡◌, [], ◌∷◌, None, arith}
use Rattle.std.proofs.lemmas.Grind.{common_steps}
use Rattle.cas_parse.specs.Frames.{WantKind, ReturnKind}
use Rattle.cas_read_expr.specs.Follow.{verdict}
use Rattle.cas_read.specs.FollowItems.{begins_item}
use Rattle.cas_read.proofs.item.item.Goals as goal

pub returns-in_default-clause-follows : goal.returns-in_default-clause-follows
returns-in_default-clause-follows c = λ items.
    let e : begins_item c.args.tokens.now c.args.defined items ≡ verdict c.args.tokens.now (WantKind None)
    (ReturnKind c.args.defined items ∷ []) = grind (arith, common_steps) in
    rw e (c.typed_function.ensures.follows items)
