use Rattle.cas_tso.proofs.Framing.{load_view, other_view, own_view, word_of_memory}
use Rattle.cas_tso.proofs.laws.views_follow_acts.Goals as goal

pub returns-clause-memory : goal.returns-clause-memory
returns-clause-memory c = word_of_memory

pub returns-clause-own : goal.returns-clause-own
returns-clause-own c = own_view

pub returns-clause-other : goal.returns-clause-other
returns-clause-other c = other_view

pub returns-clause-load : goal.returns-clause-load
returns-clause-load c = load_view
