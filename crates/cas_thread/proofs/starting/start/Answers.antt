use Rattle.std.proofs.Common.{◌≡◌, ℕ, List, [], ◌∷◌, Some, None, sym, ap, subst, ◌∙◌}
use Rattle.std.specs.Prelude.{slice_get}
use Rattle.std.proofs.Math.Logic.{∥∥₁_elim}
use Rattle.cas_step.specs.Asks.{word}
use Rattle.cas_step.specs.Env.{FunctionAt}
use Rattle.cas_step.specs.Step.{start}
use Rattle.cas_program.specs.Program.{env_of}
use Rattle.cas_typed.specs.Resolved.{TypedModuleTree}
use Rattle.cas_typed.specs.declared.typed.Typed.{Typed}
use Rattle.cas_whole.specs.Bodies.{typed_at}
use Rattle.cas_whole.specs.Program_of.{IsProgramOf}
use Rattle.cas_whole.specs.Whole.{function_at as stands_at}
use Rattle.cas_thread.specs.Thread.{IsThread}
use Rattle.cas_thread.proofs.Starts.{entry_found, entry_is, entry_is_there, ok_map}
use Rattle.cas_thread.proofs.starting.start.Goals as goal

pub unreachable-requires : goal.unreachable-requires
unreachable-requires c =
    let p = c.args.program.now in
    let at = c.in-Some.at in
    let entry : slice_get p.entries c.args.thread ≡ Some at =
    ap (λ (es : List (ℕ × ℕ)). slice_get es c.args.thread) (sym c.entries.ensures) ∙ sym c.in-Some.ensures in
    let none : typed_at p.modules at.0 at.1 ≡ None = ap (λ (ts : List Typed). typed_at ts at.0 at.1)
    (sym c.modules.ensures) ∙ c.in-None-function_at.ensures.none in
    ∥∥₁_elim p.program (λ x y. absurd x)
    (λ (w : (ms : List TypedModuleTree) × (names : List (List ℕ)) × IsProgramOf p ms names).
    entry_found p w.0 w.1 w.2 c.args.thread at entry c.entries_are_entered.ensures.none_held none)

pub unreachable-requires-in-None : goal.unreachable-requires-in-None
unreachable-requires-in-None c =
    let p = c.args.program.now in
    entry_is_there p.entries c.args.thread c.requires (ap (λ (es : List (ℕ × ℕ)). slice_get es c.args.thread)
    (sym c.entries.ensures) ∙ sym c.in-None.ensures)

pub returns : goal.returns
returns c =
    let p = c.args.program.now in
    let at = c.in-Some.at in
    let entry : slice_get p.entries c.args.thread ≡ Some at =
    ap (λ (es : List (ℕ × ℕ)). slice_get es c.args.thread) (sym c.entries.ensures) ∙ sym c.in-Some.ensures in
    let there = ap (λ (ts : List Typed). typed_at ts at.0 at.1) (sym c.modules.ensures)
    ∙ c.in-Some-function_at.ensures.some in
    ok_map c.started_at.result (λ config begins. λ ms names f program is.
    let found = entry_is p ms names program c.args.thread at entry in
    let same : stands_at at ≡ f = cc (found, is) in
    subst (λ (g : FunctionAt). IsThread p config (start (env_of ms) g (word c.args.thread ∷ []))) same
    (begins p.modules ms program.typed there)) c.started_at.ensures
