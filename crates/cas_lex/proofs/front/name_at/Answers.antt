use Rattle.cas_lex.proofs.Spellings.{name_at-no_row}
use Rattle.cas_lex.proofs.front.name_at.Goals as goal

pub returns-in-None : goal.returns-in-None
returns-in-None c = rw (name_at-no_row c.args.text.now c.in-None.ensures) c.plain_name.ensures
