use Rattle.std.proofs.Common.{◌≡◌, None, sym, ap, subst, ◌∙◌}
use Rattle.cas_thread.specs.Thread.{lock_of}
use Rattle.cas_turn.proofs.Stands_at.{holder_is, lock_taken}
use Rattle.cas_turn.specs.Standing.{holder_in}
use Rattle.std.specs.Prelude.{slice_get}
use Rattle.cas_turn.proofs.standing.wait_of.Goals as goal

pub returns-in-Some-holder_of-clause-waits : goal.returns-in-Some-holder_of-clause-waits
returns-in-Some-holder_of-clause-waits c = λ words ms names d s program thread is.
    let told = c.next_lock.ensures words ms names d s program thread is in
    let held = c.holder_of.ensures in (
      lock_taken s.act c.in-Some.lock (sym told ∙ c.in-Some.is),
      holder_is (slice_get c.args.holders.now c.in-Some.lock)
          c.in-Some-holder_of.holder (sym held ∙ c.in-Some-holder_of.is),
    )

pub returns-in-None-holder_of-clause-free : goal.returns-in-None-holder_of-clause-free
returns-in-None-holder_of-clause-free c = λ words ms names d s program thread is l takes.
    let told = c.next_lock.ensures words ms names d s program thread is in
    let same = sym c.in-Some.is ∙ told ∙ ap lock_of takes in
    let lock : c.in-Some.lock ≡ l = cc same in
    subst (λ n. holder_in (slice_get c.args.holders.now n) ≡ None) lock
    (sym c.holder_of.ensures ∙ c.in-None-holder_of.is)

pub returns-in-None-clause-free : goal.returns-in-None-clause-free
returns-in-None-clause-free c = λ words ms names d s program thread is l takes.
    let told = c.next_lock.ensures words ms names d s program thread is in
    let same = sym c.in-None.is ∙ told ∙ ap lock_of takes in
    absurd (cc same)
