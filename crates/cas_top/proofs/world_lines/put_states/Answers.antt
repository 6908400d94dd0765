use Rattle.std.proofs.Common.{arith, ◌≡◌, ◌++◌, [], ◌∷◌, map, length, ap, subst, ◌∙◌}
use Rattle.cas_command.specs.Parts.{texts}
use Rattle.cas_program.specs.Program.{env_of}
use Rattle.cas_top.specs.Worlds.{state_line, thread_line}
use Rattle.cas_top.proofs.Turning.{line_more}
use Rattle.cas_turn.proofs.Worlds.{threads_length}
use Rattle.cas_turn.specs.Answers.{state_shown}
use Rattle.cas_world.specs.Turns.{state_of, threads_from}
use Rattle.cas_top.proofs.world_lines.put_states.Goals as goal

pub loop-thread-preserved : goal.loop-thread-preserved
loop-thread-preserved c = λ ms entries w is.
    let n = c.loop-thread.thread in
    let names = texts c.args.names.now in
    let f = thread_line names ms w in
    let old = c.args.lines.now.items in
    let cells = c.cells-cells.ensures ∙ ap (λ p. p.cells) c.program.ensures ∙ is.program.cells_are in
    let line = c.in_ok-state_line.ensures
    ∙ ap (λ s. state_line names c.cells-cells.result.now n s) (c.state-state.ensures ms entries w is)
    ∙ ap (λ k. state_line names k n (state_shown (state_of (env_of ms) w n))) cells in
    c.in_ok-push.ensures.items ∙ ap (λ l. l ++ c.in_ok-state_line.field-0 ∷ [])
    (c.loop-thread.invariant ms entries w is)
    ∙ ap (λ x. (old ++ map f (threads_from 0 n)) ++ x ∷ []) line ∙ line_more f old n

pub returns : goal.returns
returns c = λ ms entries w is.
    let world = c.args.world.now in
    let f = thread_line (texts c.args.names.now) ms w in
    let end : c.loop-thread.thread ≡ length w.threads =
    omega (
      arith,
      c.loop-thread-test.false,
      c.loop-thread.auto.thread-end,
      c.threads-thread-end.ensures,
      world.threads.ok.0,
      threads_length world.program world.threads.items w.threads is.threads_are,
    ) in
    subst (λ n. c.loop-thread.lines.items ≡ c.args.lines.now.items ++ map f (threads_from 0 n)) end
    (c.loop-thread.invariant ms entries w is)
