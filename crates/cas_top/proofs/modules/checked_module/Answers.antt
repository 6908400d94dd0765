use Rattle.cas_top.specs.Plan.{unowned}
use Rattle.cas_top.proofs.modules.checked_module.Goals as goal

pub returns-in-Err-At : goal.returns-in-Err-At
returns-in-Err-At c =
    let (m, t, read, stands, good) = c.in_ok-typed.ensures.typed in
    let why = c.in-Err-At in
    record {
      checked = unowned m t (record { code = why.code; place = why.place; lock = why.lock }) read good
          ((rw why.field-0-is at why.ensures.fault) t stands);
    }
