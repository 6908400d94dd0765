use Rattle.std.proofs.Common.{◌≤◌, List, subst}
use Rattle.std.specs.Bool.{MatchBool}
use Rattle.cas_tso.specs.Counted.{IsKept, most_fuel}
use Rattle.cas_tso.specs.Machine.{Machine}
use Rattle.cas_tso.specs.State.{Thread}
use Rattle.cas_tso.specs.Timed.{AreFinished, IsEnded}
use Rattle.cas_tso.proofs.machine.Tso.is_ended.Goals as goal

pub returns-clause-kept : goal.returns-clause-kept
returns-clause-kept c = subst (λ (u : Machine). IsKept u.setup u.state) c.self.view_is c.self.invariant.kept

pub returns-clause-fuel : goal.returns-clause-fuel
returns-clause-fuel c = subst (λ (u : Machine). u.setup.options.fuel ≤ most_fuel) c.self.view_is c.self.invariant.fuel

pub returns-clause-ended : goal.returns-clause-ended
returns-clause-ended c =
    let r = c.are_finished.result in
    subst (λ (u : Machine). MatchBool r (IsEnded u.state) (IsEnded u.state → ⊥)) c.self.view_is
    (subst (λ (ts : List Thread). MatchBool r (AreFinished ts) (AreFinished ts → ⊥))
    c.deref.ensures.value c.are_finished.ensures)
