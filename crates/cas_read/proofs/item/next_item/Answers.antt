use Rattle.std.proofs.Common.{◌≡◌, [], true, arith}
use Rattle.std.proofs.lemmas.Grind.{common_steps}
use Rattle.cas_parse.specs.Frames.{InItems}
use Rattle.cas_read_expr.specs.Follow.{verdict}
use Rattle.cas_read.specs.FollowItems.{begins_item}
use Rattle.cas_read.proofs.item.next_item.Goals as goal

pub returns-in_default-kind-clause-follows : goal.returns-in_default-kind-clause-follows
returns-in_default-kind-clause-follows c = λ items.
    let e : verdict c.args.tokens.now (InItems items) [] ≡ begins_item c.args.tokens.now true items =
    grind (arith, common_steps) in
    rw e (c.item-in_default-kind.ensures.follows items)
