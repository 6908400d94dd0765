use Rattle.std.proofs.Common.{ℕ, List, [], ◌∷◌, ◌++◌, map, sym, ap, ◌∙◌}
use Rattle.cas_step.specs.Asks.{word}
use Rattle.cas_step.specs.Step.{Block, Object, locals_of}
use Rattle.cas_step.specs.Asks.{Value}
use Rattle.cas_whole.specs.Whole.{function_at as stands_at}
use Rattle.cas_thread.specs.declared.config.Frame.{Frame}
use Rattle.cas_thread.proofs.Starts.{starts_at}
use Rattle.cas_thread.proofs.starting.started_at.Goals as goal

pub returns : goal.returns
returns c = λ ts ms typed there.
    let f = c.args.function.now in
    let made = c.in_ok-frame in
    let frame = made.frame in
    let vs : List (Value Object) = word c.args.thread ∷ [] in
    let block = λ (ls : List (List (Value Object))) (m : List Block). let b : Block =
    record { serial = 0; locals = ls } in b ∷ m in
    let at_is = ap (λ (u : ℕ). stands_at (u, c.args.at.1)) (sym made.ensures.unit)
    ∙ ap (λ (p : ℕ). stands_at (frame.unit, p)) (sym made.ensures.place) in
    let frames_is = c.in_ok-push.ensures.items ∙ ap (λ (fs : List Frame). fs ++ frame ∷ [])
    c.new-frames.ensures.items in
    let memory_is = c.in_ok-push-2.ensures.pushed
    ∙ ap (λ ls. block (locals_of (map (λ v. v.ty) ls) vs) c.new-memory.result) c.as_slice.ensures
    ∙ ap (block (locals_of (map (λ v. v.ty) f.locals) vs)) c.new-memory.ensures in
    starts_at ts ms typed (stands_at c.args.at) f there frame c.push.new.self.items c.push-2.new.self vs
    at_is (sym made.ensures.serial) (sym made.ensures.target) made.ensures.cont made.ensures.room frames_is memory_is
