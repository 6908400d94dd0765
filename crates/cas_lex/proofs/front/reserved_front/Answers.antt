use Rattle.std.proofs.Common.{◌∙◌, sym}
use Rattle.cas_lex.proofs.Spellings.{name_at-word, name_at-left_out}
use Rattle.cas_lex.proofs.front.reserved_front.Goals as goal

pub returns-in-Some : goal.returns-in-Some
returns-in-Some c =
    sym (name_at-word c.args.text.now c.args.row c.in-Some.word c.requires (sym c.word_at.ensures ∙ c.in-Some.is))

pub returns-in-None : goal.returns-in-None
returns-in-None c = sym (name_at-left_out c.args.text.now c.args.row c.requires (sym c.word_at.ensures ∙ c.in-None.is))
