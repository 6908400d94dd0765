use Rattle.cas_rtl.specs.Code.{rtl_graph}
use Rattle.cas_tailcall.proofs.Making.{none_left, same_weight, same_room}
use Rattle.cas_tailcall.proofs.laws.made_graphs_have_tail_calls.Goals as goal

pub returns-clause-calls : goal.returns-clause-calls
returns-clause-calls c = none_left

pub returns-clause-weight : goal.returns-clause-weight
returns-clause-weight c = λ f g made. same_weight rtl_graph f g made

pub returns-clause-room : goal.returns-clause-room
returns-clause-room c = same_room
