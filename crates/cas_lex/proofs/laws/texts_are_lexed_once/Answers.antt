use Rattle.cas_lex.proofs.Once.{HasTokens-once, HasTokens-no_fault, HasFault-once}
use Rattle.cas_lex.proofs.Total.{lexed-total}
use Rattle.cas_lex.proofs.laws.texts_are_lexed_once.Goals as goal

pub returns : goal.returns
returns c = record {
  either = lexed-total;
  one_list = HasTokens-once;
  one_fault = HasFault-once;
  not_both = HasTokens-no_fault;
}
