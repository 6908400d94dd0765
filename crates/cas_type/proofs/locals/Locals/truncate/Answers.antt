use Rattle.std.proofs.Common.{◌≡◌, ◌-◌, ◌<◌, length, ap, ◌∙◌, arith}
use Rattle.std.proofs.lemmas.List.{length-drop}
use Rattle.cas_type.proofs.Locals_named.{oldest_next}
use Rattle.cas_type.proofs.locals.Locals.truncate.Goals as goal

pub loop-self-preserved : goal.loop-self-preserved
loop-self-preserved c =
    let old = c.loop-self.self in
    let some : c.args.len < length old = omega (arith, c.loop-self-test.true, c.len.ensures) in
    let one : length c.pop.new.self ≡ length old - 1 = ap length c.pop.ensures ∙ length-drop 1 old in
    record {
      oldest = oldest_next c.args.self.now old c.pop.new.self c.loop-self.invariant.oldest (omega (arith, some))
          c.pop.ensures;
      enough = omega (arith, some, one);
    }
