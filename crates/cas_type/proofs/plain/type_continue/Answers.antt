use Rattle.std.proofs.Common.{refl, ap}
use Rattle.cas_typed.specs.Resolved.{continue_}
use Rattle.cas_typed.specs.Walk.{walk_leave}
use Rattle.cas_type.proofs.plain.type_continue.Goals as goal

pub returns-then-in_loop : goal.returns-then-in_loop
returns-then-in_loop c =
    (continue_ c.args.place, ap (λ l. walk_leave l c.args.place (continue_ c.args.place)) c.if-in_loop.true, refl)
