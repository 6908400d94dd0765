use Rattle.std.proofs.Common.{◌≡◌, [], arith}
use Rattle.std.proofs.lemmas.Grind.{common_steps}
use Rattle.cas_parse.specs.Frames.{WantCells, MoreCells}
use Rattle.cas_read_expr.specs.Follow.{verdict}
use Rattle.cas_read.specs.FollowItems.{data_of}
use Rattle.cas_read.proofs.values.value_or_end.Goals as goal

pub returns-in_default-clause-follows : goal.returns-in_default-clause-follows
returns-in_default-clause-follows c = λ s d x n vs items.
    let e : verdict c.args.tokens.now (MoreCells (data_of s d c.args.kind) x n vs items) [] ≡ verdict c.args.tokens.now
    (WantCells (data_of s d c.args.kind) x n vs items) [] = grind (arith, common_steps) in
    rw e (c.further_value.ensures.follows s d x n vs items)
