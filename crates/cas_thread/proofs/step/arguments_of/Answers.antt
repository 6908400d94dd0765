use Rattle.std.proofs.Common.{ℕ, List, reverse, sym, ap, subst, ◌∙◌}
use Rattle.cas_step.specs.Env.{FunctionAt}
use Rattle.cas_step.specs.Continuation.{effect_of}
use Rattle.cas_eval.specs.Answer.{EvalState, answer, eval_state, eval_context}
use Rattle.cas_program.specs.Program.{env_of}
use Rattle.cas_typed.specs.declared.typed.Typed.{Typed}
use Rattle.cas_thread.specs.Calls.{IsReadied}
use Rattle.cas_thread.specs.Frames.{rows_at}
use Rattle.cas_thread.specs.Continuations.{IsContinuation}
use Rattle.cas_thread.proofs.Acts_of.{readied}
use Rattle.cas_thread.proofs.Arounds.{around_same, newest_frame}
use Rattle.cas_thread.proofs.step.arguments_of.Goals as goal

pub returns-in-Some-first_call : goal.returns-in-Some-first_call
returns-in-Some-first_call c = λ ms names h program thread is words begins.
    let e = env_of ms in
    let ts = c.args.program.now.modules in
    let some = c.in-Some.ensures.some in
    let f = c.in-Some.frame.now in
    let cont = h.newest.cont in
    let frame = newest_frame ts (reverse c.args.config.now.frames.items) some.0 f h.config.activations h.older h.newest
    some.1 thread.frames_are is in
    let context = c.context_in-context in
    let r = eval_state context.result in
    let entities = λ (g : ℕ). context.ensures.items ms names g program
    ∙ ap (λ (x : FunctionAt). e.entity x.unit g) (sym frame.function) in
    let same = around_same e h r entities (context.ensures.words ∙ words)
    (context.ensures.memory ∙ sym thread.memory_is) (context.ensures.serial ∙ sym frame.serial) in
    let rows = c.rows_of-rows.ensures ∙ ap (λ (ts' : List Typed). rows_at ts' f.unit f.place) c.modules.ensures in
    let shows : IsContinuation c.rows_of-rows.result.now (reverse c.as_slice.result.now) cont =
    subst (λ xs. IsContinuation c.rows_of-rows.result.now (reverse xs) cont) (sym c.as_slice.ensures.value)
    (subst (λ rs. IsContinuation rs (reverse f.cont.items) cont) (sym rows) frame.cont) in
    let ret = (e.function h.newest.function).ret in
    subst (λ (x : EvalState). IsReadied (answer x (effect_of (eval_context x) ret cont)) c.check_arguments.result) same
    (readied r c.in-Some-first_call.called ret cont (c.in-Some-first_call.ensures.some cont shows)
    c.check_arguments.result c.check_arguments.ensures)
