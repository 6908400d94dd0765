use Rattle.std.proofs.Common.{◌≡◌, arith}
use Rattle.std.proofs.lemmas.Grind.{common_steps}
use Rattle.cas_syntax.specs.Tree.{to_name}
use Rattle.cas_parse.specs.Frames.{AfterName, AfterTarget}
use Rattle.cas_read_expr.specs.Follow.{verdict}
use Rattle.cas_read_stmt.proofs.simple.named.Goals as goal

pub returns-in_default-clause-follows : goal.returns-in_default-clause-follows
returns-in_default-clause-follows c = λ st.
    let x = c.args.name in
    let e : verdict c.args.tokens.now (AfterName x) st ≡ verdict c.args.tokens.now (AfterTarget x.place (to_name x))
    st = grind (arith, common_steps) in
    rw e (c.changed-in_default.ensures.follows st)
