use Rattle.cas_lex.proofs.Names.{name_utf8}
use Rattle.cas_lex.proofs.front.name_text.Goals as goal

pub unreachable-requires : goal.unreachable-requires
unreachable-requires c = c.in-Err.ensures.cases.0 (rw c.name_len-len.ensures.value (name_utf8 c.args.text.now))
