use Rattle.std.proofs.Common.{◌≤◌, subst}
use Rattle.cas_tso.specs.Counted.{IsKept, most_fuel}
use Rattle.cas_tso.specs.Machine.{Machine}
use Rattle.cas_tso.proofs.machine.Tso.is_due.Goals as goal

pub returns-clause-kept : goal.returns-clause-kept
returns-clause-kept c = subst (λ (u : Machine). IsKept u.setup u.state) c.self.view_is c.self.invariant.kept

pub returns-clause-fuel : goal.returns-clause-fuel
returns-clause-fuel c = subst (λ (u : Machine). u.setup.options.fuel ≤ most_fuel) c.self.view_is c.self.invariant.fuel
