use Rattle.std.proofs.Common.{refl, ap}
use Rattle.cas_typed.specs.Resolved.{break_}
use Rattle.cas_typed.specs.Walk.{walk_leave}
use Rattle.cas_type.proofs.plain.type_break.Goals as goal

pub returns-then-in_loop : goal.returns-then-in_loop
returns-then-in_loop c =
    (break_ c.args.place, ap (λ l. walk_leave l c.args.place (break_ c.args.place)) c.if-in_loop.true, refl)
