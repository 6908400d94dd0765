use Rattle.std.proofs.Common.{refl}
use Rattle.cas_lex.proofs.Spellings.{reserved-table}
use Rattle.cas_lex.proofs.word.WordTable.new.Goals as goal

pub unreachable-requires : goal.unreachable-requires
unreachable-requires c = c.in-None.ensures.none.0 refl reserved-table
