use Rattle.cas_lex.proofs.Answers.{tokens-only, fault-only}
use Rattle.cas_lex.proofs.lexing.lex.Goals as goal

pub returns-clause-only_tokens : goal.returns-clause-only_tokens
returns-clause-only_tokens c = tokens-only c.args.text.now c.lexed.result c.lexed.ensures

pub returns-clause-only_fault : goal.returns-clause-only_fault
returns-clause-only_fault c = fault-only c.args.text.now c.lexed.result c.lexed.ensures
