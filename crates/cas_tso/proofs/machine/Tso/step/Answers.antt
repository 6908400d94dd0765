use Rattle.std.proofs.Common.{◌≡◌, Some, None, slice_get, sym, subst}
use Rattle.std.specs.Prelude.{MatchResult}
use Rattle.cas_tso.specs.Refusal.{refused_choice, thread_of}
use Rattle.cas_tso.specs.State.{Thread}
use Rattle.cas_tso.specs.declared.refused.Choice.{Choice}
use Rattle.cas_tso.proofs.machine.Tso.step.Goals as goal

pub returns-in-Run-clause-answer : goal.returns-in-Run-clause-answer
returns-in-Run-clause-answer c =
    let m = c.args.self.now in
    subst
    (λ (k : Choice). (t : Thread) → slice_get m.state.threads (thread_of k) ≡ Some t →
    MatchResult c.run.result (λ _. refused_choice m.setup.image t k ≡ None)
    (λ why. refused_choice m.setup.image t k ≡ Some why))
    (sym c.in-Run.is) c.run.ensures.answer
