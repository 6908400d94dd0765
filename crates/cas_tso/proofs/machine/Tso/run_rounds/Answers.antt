use Rattle.std.proofs.Common.{◌<◌, ◌∙◌, length, refl, sym, subst}
use Rattle.cas_tso.specs.Rounds.{Turns, no_round, one_round}
use Rattle.cas_tso.specs.State.{Setup}
use Rattle.cas_tso.specs.Timed.{IsEnded}
use Rattle.cas_tso.proofs.Rounding.{match_false, round_lighter, total}
use Rattle.cas_tso.proofs.machine.Tso.run_rounds.Goals as goal

pub rounds-init : goal.rounds-init
rounds-init c = record { setup = refl; rounds = no_round }

pub rounds-preserved : goal.rounds-preserved
rounds-preserved c =
    let inv = c.rounds.invariant in
    let m = c.rounds.self in
    let r = c.round in
    record {
      setup = r.ensures.setup ∙ inv.setup;
      rounds = one_round m.state r.new.self.state inv.rounds
          (match_false (IsEnded m.state) (IsEnded m.state → ⊥) c.is_ended.result c.rounds-test.true
          c.is_ended.ensures.ended)
          (subst (λ (p : Setup). Turns p c.args.hold m.state (length m.state.threads) r.new.self.state)
          inv.setup r.ensures.turns);
    }

pub rounds-smaller : goal.rounds-smaller
rounds-smaller c =
    let m = c.rounds.self in
    let r = c.round in
    subst (λ (p : Setup). total p r.new.self.state.threads < total m.setup m.state.threads) (sym r.ensures.setup)
    (round_lighter m.setup c.args.hold m.state r.new.self.state c.is_ended.ensures.fuel c.is_ended.ensures.kept
    r.ensures.turns
    (match_false (IsEnded m.state) (IsEnded m.state → ⊥) c.is_ended.result c.rounds-test.true c.is_ended.ensures.ended))
