use Rattle.std.proofs.Common.{◌≡◌, ◌∙◌, sym, true, false}
use Rattle.cas_pieces.proofs.Numerals.{digits-overflow}
use Rattle.cas_lock.proofs.step.is_value.Goals as goal

pub returns-in-Err : goal.returns-in-Err
returns-in-Err c =
    let all = sym c.if-not-are_digits.ensures in
    sym (rw all (digits-overflow c.args.text.now c.parse.result c.in-Err.field-0 c.args.value c.parse.ensures.value.0
    c.in-Err.is all c.requires c.ranges.value.fits))
