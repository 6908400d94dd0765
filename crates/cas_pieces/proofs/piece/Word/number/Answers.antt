use Rattle.std.proofs.Common.{sym}
use Rattle.cas_pieces.proofs.Numerals.{capped-overflow}
use Rattle.cas_pieces.proofs.piece.Word.number.Goals as goal

pub returns-in-Err : goal.returns-in-Err
returns-in-Err c =
    let text = c.as_str-text.result.now in
    sym (rw c.as_str-text.ensures.text at
    (capped-overflow text c.parse.result c.in-Err.field-0 c.parse.ensures.value.0 c.in-Err.is cc))
