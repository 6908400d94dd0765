use Rattle.cas_lex.specs.Lexed.{broken}
use Rattle.cas_lex.proofs.lexing.lexed.Goals as goal

pub returns-in-Err : goal.returns-in-Err
returns-in-Err c = broken c.args.text.now c.behind.result c.in-Err.ensures.cases.0 (cc (c.in-Err.ensures.valid_len))
