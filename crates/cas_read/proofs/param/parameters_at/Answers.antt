use Rattle.std.proofs.Common.{◌≡◌, [], arith}
use Rattle.std.proofs.lemmas.Grind.{common_steps}
use Rattle.cas_parse.specs.Frames.{WantParameters, WantParameter}
use Rattle.cas_read_expr.specs.Follow.{verdict}
use Rattle.cas_read.proofs.param.parameters_at.Goals as goal

pub returns-in_default-clause-follows : goal.returns-in_default-clause-follows
returns-in_default-clause-follows c = λ o items.
    let e : verdict c.args.tokens.now (WantParameters o items) [] ≡ verdict c.args.tokens.now
    (WantParameter o [] [] items) [] = grind (arith, common_steps) in
    rw e (c.some_parameters.ensures.follows o items)
