use Rattle.std.proofs.Common.{◌≡◌, ◌∷◌, [], arith}
use Rattle.std.proofs.lemmas.Grind.{common_steps}
use Rattle.cas_parse.specs.Frames.{WantOutermost, WantArguments, Argument}
use Rattle.cas_read_expr.specs.Follow.{verdict}
use Rattle.cas_read_expr.proofs.call.arguments.Goals as goal

pub returns-in_default-clause-follows : goal.returns-in_default-clause-follows
returns-in_default-clause-follows c = λ caller st.
    let e : verdict c.args.tokens.now (WantArguments caller) st ≡ verdict c.args.tokens.now WantOutermost
    (Argument caller [] ∷ st) = grind (arith, common_steps) in
    rw e (c.some_arguments.ensures.follows caller st)
