use Rattle.std.proofs.Common.{List, reverse, sym, ap, ◌∙◌}
use Rattle.cas_program.specs.Program.{env_of}
use Rattle.cas_step.specs.Step.{StepContext}
use Rattle.cas_typed.specs.declared.typed.Typed.{Typed}
use Rattle.cas_thread.specs.Frames.{rows_at}
use Rattle.cas_thread.proofs.Arounds.{newest_frame, none_newest}
use Rattle.cas_thread.proofs.Placing.{no_frames}
use Rattle.cas_thread.proofs.Print_acts.{on_false, step_puts_none}
use Rattle.cas_thread.proofs.Printed.{prints_shown}
use Rattle.cas_thread.proofs.Top.{newest_of, step_at}
use Rattle.cas_thread.proofs.printing.next_prints.Goals as goal

pub returns-in-Some-clause-first : goal.returns-in-Some-clause-first
returns-in-Some-clause-first c = λ ms names k a older program thread going.
    let some = c.in-Some.ensures.some in
    let f = c.in-Some.frame.now in
    let frame = newest_frame c.args.program.now.modules (reverse c.args.config.now.frames.items)
    some.0 f k.activations older a some.1 thread.frames_are going in
    let rows = c.rows_of-rows.ensures ∙ ap (λ (ts : List Typed). rows_at ts f.unit f.place) c.modules.ensures in
    prints_shown c.rows_of-rows.result.now c.as_slice.result.now _ f.cont.items a.cont c.first_prints.result rows
    c.as_slice.ensures.value frame.cont c.first_prints.ensures

pub returns-in-Some-clause-none : goal.returns-in-Some-clause-none
returns-in-Some-clause-none c = λ k thread ended.
    let some = c.in-Some.ensures.some in
    absurd (none_newest c.args.program.now.modules (reverse c.args.config.now.frames.items)
    some.0 c.in-Some.frame.now k.activations some.1 thread.frames_are ended)

pub returns-in-Some-clause-other : goal.returns-in-Some-clause-other
returns-in-Some-clause-other c = on_false c.first_prints.result (λ none words ms names k s program thread steps n.
    let e = env_of ms in
    let (a, older, going) = newest_of e words k s steps in
    let h : StepContext = record { config = k; newest = a; older = older; words = words } in
    let some = c.in-Some.ensures.some in
    let f = c.in-Some.frame.now in
    let frame = newest_frame c.args.program.now.modules (reverse c.args.config.now.frames.items)
    some.0 f k.activations older a some.1 thread.frames_are going in
    let rows = c.rows_of-rows.ensures ∙ ap (λ (ts : List Typed). rows_at ts f.unit f.place) c.modules.ensures in
    let first = prints_shown c.rows_of-rows.result.now c.as_slice.result.now _ f.cont.items a.cont c.first_prints.result
    rows c.as_slice.ensures.value frame.cont c.first_prints.ensures in
    step_puts_none e h s n (sym first ∙ none) (step_at e words k a older s going steps))

pub returns-in-None-clause-first : goal.returns-in-None-clause-first
returns-in-None-clause-first c = λ ms names k a older program thread going.
    absurd (no_frames c.args.program.now.modules (reverse c.args.config.now.frames.items)
    k.activations older a c.in-None.ensures.none thread.frames_are going)

pub returns-in-None-clause-other : goal.returns-in-None-clause-other
returns-in-None-clause-other c = λ words ms names k s program thread steps n.
    let (a, older, going) = newest_of (env_of ms) words k s steps in
    absurd (no_frames c.args.program.now.modules (reverse c.args.config.now.frames.items)
    k.activations older a c.in-None.ensures.none thread.frames_are going)
