use Rattle.std.proofs.Common.{ℕ, List, reverse, sym, ap, subst, ◌∙◌}
use Rattle.cas_step.specs.Env.{FunctionAt}
use Rattle.cas_eval.specs.Answer.{eval_state}
use Rattle.cas_program.specs.Program.{env_of}
use Rattle.cas_typed.specs.declared.typed.Typed.{Typed}
use Rattle.cas_thread.specs.Frames.{rows_at}
use Rattle.cas_thread.specs.Continuations.{IsContinuation}
use Rattle.cas_thread.proofs.Arounds.{around_same, first_there, newest_frame}
use Rattle.cas_thread.proofs.There.{is_there}
use Rattle.cas_thread.proofs.step.first.Goals as goal

pub returns-in-Some-function : goal.returns-in-Some-function
returns-in-Some-function c = λ ms names h program thread is words.
    let e = env_of ms in
    let ts = c.args.program.now.modules in
    let some = c.in-Some.ensures.some in
    let f = c.in-Some.frame.now in
    let frame = newest_frame ts (reverse c.args.config.now.frames.items) some.0 f h.config.activations h.older h.newest
    some.1 thread.frames_are is in
    let found = c.in-Some-function.ensures.found ms names program in
    let context = c.context_in-context in
    let r = eval_state context.result in
    let entities = λ (g : ℕ). context.ensures.items ms names g program
    ∙ ap (λ (x : FunctionAt). e.entity x.unit g) (sym frame.function) in
    let same = around_same e h r entities (context.ensures.words ∙ words)
    (context.ensures.memory ∙ sym thread.memory_is) (context.ensures.serial ∙ sym frame.serial) in
    let ret = sym found.ret ∙ ap (λ (x : FunctionAt). (e.function x).ret) (sym frame.function) in
    let rows = c.rows_of-rows.ensures ∙ ap (λ (ts' : List Typed). rows_at ts' f.unit f.place) c.modules.ensures in
    let shows : IsContinuation c.rows_of-rows.result.now (reverse c.as_slice.result.now) h.newest.cont =
    subst (λ xs. IsContinuation c.rows_of-rows.result.now (reverse xs) h.newest.cont) (sym c.as_slice.ensures.value)
    (subst (λ rs. IsContinuation rs (reverse f.cont.items) h.newest.cont) (sym rows) frame.cont) in
    first_there e h r c.in-Some-function.body.ret c.rows_of-rows.result.now (reverse c.as_slice.result.now)
    c.first_step.result same ret shows c.first_step.ensures

pub returns-in-None-function : goal.returns-in-None-function
returns-in-None-function c = λ ms names h program thread is words.
    let ts = c.args.program.now.modules in
    let some = c.in-Some.ensures.some in
    let f = c.in-Some.frame.now in
    let frame = newest_frame ts (reverse c.args.config.now.frames.items) some.0 f h.config.activations h.older h.newest
    some.1 thread.frames_are is in
    let w = is_there ts ms f.unit f.place program.typed frame.there in
    absurd (cc (c.in-None-function.ensures.there ms names w.0 w.1 program w.2))
