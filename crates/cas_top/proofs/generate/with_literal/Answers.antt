use Rattle.cas_top.proofs.Form_laws.{with_more}
use Rattle.cas_top.proofs.generate.with_literal.Goals as goal

pub returns : goal.returns
returns c = λ a is. with_more a _ c.in-Some.code c.push.new.self c.args.value c.in-Some.is c.in_ok-push.ensures.items is
