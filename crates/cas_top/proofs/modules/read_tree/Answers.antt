use Rattle.cas_top.specs.Plan.{misread}
use Rattle.cas_top.proofs.modules.read_tree.Goals as goal

pub returns-in-Err-At : goal.returns-in-Err-At
returns-in-Err-At c =
    let why = c.in-Err-At in
    misread why.code why.place (rw why.field-0-is at why.ensures.fault)
