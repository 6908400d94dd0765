use Rattle.std.proofs.Common.{List, reverse, sym, ap, subst, ◌∙◌}
use Rattle.std.proofs.Math.Logic.{∥∥₁_elim}
use Rattle.cas_base.specs.declared.place.Place.{Place}
use Rattle.cas_step.specs.Env.{FunctionAt}
use Rattle.cas_step.specs.Continuation.{place_of}
use Rattle.cas_step.specs.Step.{StepContext}
use Rattle.cas_program.specs.Program.{env_of}
use Rattle.cas_typed.specs.declared.typed.Typed.{Typed}
use Rattle.cas_thread.specs.Frames.{rows_at}
use Rattle.cas_thread.specs.Thread.{IsUnfinished}
use Rattle.cas_thread.specs.Continuations.{IsContinuation}
use Rattle.cas_thread.proofs.Arounds.{newest_frame}
use Rattle.cas_thread.proofs.Placing.{no_frames, stands_here}
use Rattle.cas_thread.proofs.There.{is_there}
use Rattle.cas_thread.proofs.Top.{newest_of, step_at}
use Rattle.cas_thread.proofs.place.place_of.Goals as goal

pub unreachable-requires : goal.unreachable-requires
unreachable-requires c = ∥∥₁_elim c.requires (λ x y. absurd x)
    (λ (w : IsUnfinished c.args.program.now c.args.config.now).
    let ts = c.args.program.now.modules in
    let some = c.in-Some.ensures.some in
    let f = c.in-Some.frame.now in
    let frame = newest_frame ts (reverse c.args.config.now.frames.items) some.0 f w.c.activations w.older w.newest
    some.1 w.is_thread.frames_are w.going in
    let x = is_there ts w.modules f.unit f.place w.is_program.typed frame.there in
    cc (c.in-None-function.ensures.there w.modules w.names x.0 x.1 w.is_program x.2))

pub unreachable-requires-in-None : goal.unreachable-requires-in-None
unreachable-requires-in-None c = ∥∥₁_elim c.requires (λ x y. absurd x)
    (λ (w : IsUnfinished c.args.program.now c.args.config.now).
    no_frames c.args.program.now.modules (reverse c.args.config.now.frames.items) w.c.activations w.older w.newest
    c.in-None.ensures.none w.is_thread.frames_are w.going)

pub returns : goal.returns
returns c = λ words ms names k s program thread steps.
    let e = env_of ms in
    let ts = c.args.program.now.modules in
    let n = newest_of e words k s steps in
    let h : StepContext = record { config = k; newest = n.0; older = n.1; words = words } in
    let cont = n.0.cont in
    let stands = stands_here e h s (step_at e words k n.0 n.1 s n.2 steps) in
    let some = c.in-Some.ensures.some in
    let f = c.in-Some.frame.now in
    let frame = newest_frame ts (reverse c.args.config.now.frames.items) some.0 f k.activations n.1 n.0 some.1
    thread.frames_are n.2 in
    let found = c.in-Some-function.ensures.found ms names program in
    let rows = c.rows_of-rows.ensures ∙ ap (λ (ts' : List Typed). rows_at ts' f.unit f.place) c.modules.ensures in
    let shows : IsContinuation c.rows_of-rows.result.now (reverse c.as_slice.result.now) cont =
    subst (λ xs. IsContinuation c.rows_of-rows.result.now (reverse xs) cont) (sym c.as_slice.ensures.value)
    (subst (λ rs. IsContinuation rs (reverse f.cont.items) cont) (sym rows) frame.cont) in
    let closing = sym found.closing ∙ ap (λ (x : FunctionAt). (e.function x).closing) (sym frame.function) in (
      ap (λ (x : FunctionAt). x.unit) (sym frame.function) ∙ stands.0,
      c.first_place-place.ensures cont shows ∙ ap (λ (q : Place). place_of q cont) closing ∙ stands.1,
    )
