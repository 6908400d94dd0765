use Rattle.std.proofs.Common.{not, ◌&&◌, ◌∙◌, ap, sym, map, drop, ◌+◌}
use Rattle.cas_command.specs.Parts.{given_view}
use Rattle.cas_command.specs.Words as w
use Rattle.cas_command.proofs.Readings.{stand_once-place}
use Rattle.cas_command.proofs.options.stand_once.Goals as goal

pub returns-then-is_some : goal.returns-then-is_some
returns-then-is_some c =
    let at = stand_once-place c.args.options.now c.loop-place.place _ c.value_of.result c.loop-place-test.true
    c.value_of.ensures in
    ap (λ b. not b && w.stand_once (map given_view (drop (c.loop-place.place + 1) c.args.options.now)))
    c.if-is_some.ensures
    ∙ sym at ∙ c.loop-place.invariant

pub loop-place-preserved : goal.loop-place-preserved
loop-place-preserved c =
    let at = stand_once-place c.args.options.now c.loop-place.place _ c.value_of.result c.loop-place-test.true
    c.value_of.ensures in
    ap (λ b. not b && w.stand_once (map given_view (drop (c.loop-place.place + 1) c.args.options.now)))
    (sym c.if-is_some.false ∙ c.is_some.ensures)
    ∙ sym at ∙ c.loop-place.invariant
