use Rattle.cas_parse.proofs.Texts.{module_or_fault, one_module, one_read_fault, no_module_and_fault}
use Rattle.cas_parse.proofs.laws.texts_are_read_once.Goals as goal

pub returns : goal.returns
returns c =
    record {
      either = module_or_fault;
      one_module = one_module;
      one_fault = one_read_fault;
      not_both =
          no_module_and_fault;
    }
