use Rattle.std.proofs.Common.{arith, ◌≡◌, ◌<◌, ap, length, subst, sym, ◌∙◌}
use Rattle.std.proofs.lemmas.Result.{err_from_is_err_and}
use Rattle.cas_program.specs.Program.{env_of}
use Rattle.cas_turn.proofs.Rounds_lemmas.{neither, on_false, thread_more, threads_cut}
use Rattle.cas_turn.proofs.Worlds.{threads_length}
use Rattle.cas_turn.specs.World_of.{IsWorldOf}
use Rattle.cas_world.specs.Turns.{threads_from, turn, turns}
use Rattle.cas_turn.proofs.world.World.round.Goals as goal

pub returns-in_err-moved-clause-cut : goal.returns-in_err-moved-clause-cut
returns-in_err-moved-clause-cut c =
    let p = err_from_is_err_and c.from_residual.result c.from_residual.ensures.1 in
    rw p.1 (λ ms names w is.
    let v = turns (env_of ms) w (threads_from 0 c.loop-thread.thread) in
    let world = c.args.self.now in
    let here = c.loop-thread.invariant.1 ms names w is in
    let within : c.loop-thread.thread < length w.threads =
    omega (
      arith,
      c.loop-thread-test.true,
      c.threads-count.ensures,
      world.threads.ok.0,
      threads_length world.program
          world.threads.items w.threads is.threads_are,
    ) in
    threads_cut (env_of ms) w c.loop-thread.thread (length w.threads) (IsWorldOf c.takes_turn.new.self ms names) within
    (c.in_err-moved.ensures.cut ms names v here) (c.in_err-moved.ensures.wants ms names v here))

pub loop-thread-preserved : goal.loop-thread-preserved
loop-thread-preserved c = (
  cc,
  λ ms names w is.
      let e = env_of ms in
      let v = turns e w (threads_from 0 c.loop-thread.thread) in
      subst (IsWorldOf c.takes_turn.new.self ms names) (thread_more e w c.loop-thread.thread)
      (c.in_ok-moved.ensures.turn ms names v (c.loop-thread.invariant.1 ms names w is)),
  λ none ms names w is.
      let e = env_of ms in
      let v = turns e w (threads_from 0 c.loop-thread.thread) in
      let (before, here) = neither c.loop-thread.moved c.in_ok-moved.field-0 none in
      let still : turn e v c.loop-thread.thread ≡ v = (rw here at c.in_ok-moved.ensures.still) ms names v
      (c.loop-thread.invariant.1 ms names w is) in
      sym (thread_more e w c.loop-thread.thread) ∙ still ∙ c.loop-thread.invariant.2 before ms names w is,
)

pub returns-clause-round : goal.returns-clause-round
returns-clause-round c = λ ms names w is.
    let world = c.args.self.now in
    let end : c.loop-thread.thread ≡ length w.threads =
    omega (
      arith,
      c.loop-thread-test.false,
      c.loop-thread.auto.thread-end,
      c.threads-count.ensures,
      world.threads.ok.0,
      threads_length world.program world.threads.items w.threads is.threads_are,
    ) in
    subst (IsWorldOf c.loop-thread.self ms names) (ap (λ n. turns (env_of ms) w (threads_from 0 n)) end)
    (c.loop-thread.invariant.1 ms names w is)

pub returns-clause-still : goal.returns-clause-still
returns-clause-still c = on_false c.loop-thread.moved (λ none ms names w is.
    let world = c.args.self.now in
    let end : c.loop-thread.thread ≡ length w.threads =
    omega (
      arith,
      c.loop-thread-test.false,
      c.loop-thread.auto.thread-end,
      c.threads-count.ensures,
      world.threads.ok.0,
      threads_length world.program world.threads.items w.threads is.threads_are,
    ) in
    ap (λ n. turns (env_of ms) w (threads_from 0 n)) (sym end) ∙ c.loop-thread.invariant.2 none ms names w is)
