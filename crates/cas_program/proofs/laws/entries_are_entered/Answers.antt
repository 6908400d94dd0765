use Rattle.cas_program.proofs.Entering.{entries_are_entered, entries_are_in_order, entries_hold_none}
use Rattle.cas_program.proofs.laws.entries_are_entered.Goals as goal

pub returns-clause-in_order : goal.returns-clause-in_order
returns-clause-in_order c = entries_are_in_order

pub returns-clause-entered : goal.returns-clause-entered
returns-clause-entered c = entries_are_entered

pub returns-clause-none_held : goal.returns-clause-none_held
returns-clause-none_held c = entries_hold_none
