use Rattle.cas_tso.proofs.Tallying.{counted, put_out, ticketed}
use Rattle.cas_tso.proofs.laws.counts_are_those_of_the_run.Goals as goal

pub returns-clause-counts : goal.returns-clause-counts
returns-clause-counts c = counted

pub returns-clause-output : goal.returns-clause-output
returns-clause-output c = put_out

pub returns-clause-tickets : goal.returns-clause-tickets
returns-clause-tickets c = ticketed
