use Rattle.cas_top.proofs.Given_words.{given_ok}
use Rattle.cas_top.proofs.top.given_command.Goals as goal

pub returns-clause-within : goal.returns-clause-within
returns-clause-within c = given_ok c.command_of.result c.args.words.now c.command_of.ensures
