use Rattle.std.proofs.Common.{arith, ◌≡◌, ◌≤◌, length, subst, sym, ◌∙◌}
use Rattle.cas_program.specs.Program.{env_of}
use Rattle.cas_turn.proofs.Rounds_lemmas.{answered_stays, ended_stays, turn_taken}
use Rattle.cas_turn.proofs.Worlds.{no_thread, none_past}
use Rattle.cas_turn.specs.Answers.{Answers, activations_of}
use Rattle.cas_turn.specs.Shown.{AreWorldOf}
use Rattle.cas_world.specs.Turns.{state_of, turn}
use Rattle.cas_turn.proofs.world.World.takes_turn.Goals as goal

pub returns-then-thread-threads-clause-turn : goal.returns-then-thread-threads-clause-turn
returns-then-thread-threads-clause-turn c = λ ms names w is.
    let v = c.args.self.now in
    let past : length v.threads.items ≤ c.args.thread =
    omega (arith, c.if-thread-threads.true, c.threads.ensures, v.threads.ok.0) in
    let still : turn (env_of ms) w c.args.thread ≡ w =
    ended_stays (env_of ms) w c.args.thread (no_thread v.program v.threads.items c.args.thread
    (none_past v.threads.items c.args.thread past) (env_of ms) w is.threads_are) in
    subst (AreWorldOf v.program v.threads.items v.shared.words.items v.holders.items v.out.items ms names)
    (sym still) is

pub returns-then-thread-threads-clause-still : goal.returns-then-thread-threads-clause-still
returns-then-thread-threads-clause-still c = λ ms names w is.
    let v = c.args.self.now in
    let past : length v.threads.items ≤ c.args.thread =
    omega (arith, c.if-thread-threads.true, c.threads.ensures, v.threads.ok.0) in
    ended_stays (env_of ms) w c.args.thread (no_thread v.program v.threads.items c.args.thread
    (none_past v.threads.items c.args.thread past) (env_of ms) w is.threads_are)

pub returns-in-Ok-clause-turn : goal.returns-in-Ok-clause-turn
returns-in-Ok-clause-turn c = λ ms names w is.
    let v = c.step.new.self in
    turn_taken (env_of ms) w c.args.thread
    (AreWorldOf v.program v.threads.items v.shared.words.items v.holders.items v.out.items ms names)
    (c.in-Ok.ensures.taken ms names w is)

pub returns-in-Err-Memory-clause-wants : goal.returns-in-Err-Memory-clause-wants
returns-in-Err-Memory-clause-wants c = λ ms names w is.
    subst (Answers (activations_of w c.args.thread) (state_of (env_of ms) w c.args.thread)) c.in-Err-Memory.field-0-is
    (c.in-Err-Memory.ensures.answer ms names w is)

pub returns-in-Err-Ended-clause-turn : goal.returns-in-Err-Ended-clause-turn
returns-in-Err-Ended-clause-turn c = λ ms names w is.
    let v = c.step.new.self in
    let still = answered_stays (env_of ms) w c.args.thread c.in-Err-Ended.field-0
    (c.in-Err-Ended.ensures.answer ms names w is) (λ memory. cc (sym memory ∙ c.in-Err-Ended.field-0-is)) in
    subst (AreWorldOf v.program v.threads.items v.shared.words.items v.holders.items v.out.items ms names) (sym still)
    (c.in-Err-Ended.ensures.unmoved ms names w is)

pub returns-in-Err-Waits-clause-turn : goal.returns-in-Err-Waits-clause-turn
returns-in-Err-Waits-clause-turn c = λ ms names w is.
    let v = c.step.new.self in
    let still = answered_stays (env_of ms) w c.args.thread c.in-Err-Waits.field-0
    (c.in-Err-Waits.ensures.answer ms names w is) (λ memory. cc (sym memory ∙ c.in-Err-Waits.field-0-is)) in
    subst (AreWorldOf v.program v.threads.items v.shared.words.items v.holders.items v.out.items ms names) (sym still)
    (c.in-Err-Waits.ensures.unmoved ms names w is)

pub returns-in-Err-Bad-clause-turn : goal.returns-in-Err-Bad-clause-turn
returns-in-Err-Bad-clause-turn c = λ ms names w is.
    let v = c.step.new.self in
    let still = answered_stays (env_of ms) w c.args.thread c.in-Err-Bad.field-0
    (c.in-Err-Bad.ensures.answer ms names w is) (λ memory. cc (sym memory ∙ c.in-Err-Bad.field-0-is)) in
    subst (AreWorldOf v.program v.threads.items v.shared.words.items v.holders.items v.out.items ms names) (sym still)
    (c.in-Err-Bad.ensures.unmoved ms names w is)
