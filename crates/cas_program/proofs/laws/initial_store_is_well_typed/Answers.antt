use Rattle.cas_program.proofs.Starting.{guards_are_words, initial_store_is_well_typed}
use Rattle.cas_program.proofs.Valued.{initial_values_stand, locks_begin_free}
use Rattle.cas_program.proofs.laws.initial_store_is_well_typed.Goals as goal

pub returns-clause-words : goal.returns-clause-words
returns-clause-words c = initial_store_is_well_typed

pub returns-clause-guards : goal.returns-clause-guards
returns-clause-guards c = guards_are_words

pub returns-clause-values : goal.returns-clause-values
returns-clause-values c = initial_values_stand

pub returns-clause-locks : goal.returns-clause-locks
returns-clause-locks c = locks_begin_free
