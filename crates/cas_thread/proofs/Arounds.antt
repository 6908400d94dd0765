-- Where the code evaluates is where the newest activation does.
use Rattle.std.proofs.Common.{◌≡◌, ℕ, List, [], ◌∷◌, Option, Result, ap, subst, ◌∙◌}
use Rattle.std.proofs.Math.Path.{fun_ext}
use Rattle.cas_base.specs.declared.kind.Ty.{Ty}
use Rattle.cas_typed.specs.declared.rows.StmtRow.{StmtRow}
use Rattle.cas_typed.specs.declared.typed.Typed.{Typed}
use Rattle.cas_step.specs.Env.{Env, Entity}
use Rattle.cas_step.specs.Continuation.{ContItem, effect_of}
use Rattle.cas_step.specs.Step.{Activation, Block, StepContext, entity_in, eval_context_of}
use Rattle.cas_eval.specs.Answer.{EvalState, answer, eval_context}
use Rattle.cas_eval.specs.declared.values.NoResult.{NoResult}
use Rattle.cas_thread.specs.Eval_state.{eval_state_in}
use Rattle.cas_thread.specs.Control.{after}
use Rattle.cas_thread.specs.Effects.{FirstStatementIs, IsCall, IsFirst, IsJump}
use Rattle.cas_thread.specs.Frames.{AreFrames, IsFrame}
use Rattle.cas_thread.specs.Continuations.{IsContinuation}
use Rattle.cas_thread.specs.declared.config.Frame.{Frame}
use Rattle.cas_thread.specs.declared.effect.First.{First}
use Rattle.cas_thread.specs.declared.continuation.ContItem as code

pub around_same : (e : Env) (h : StepContext) (r : EvalState) → ((g : ℕ) → r.entity g ≡ entity_in e h g) →
    r.words ≡ h.words → r.memory ≡ h.config.memory → r.serial ≡ h.newest.serial → r ≡ eval_state_in e h
around_same e h r entities words memory serial =
    ap (λ (f : ℕ → Option Entity). record { entity = f; words = r.words; memory = r.memory; serial = r.serial })
    (fun_ext entities)
    ∙ ap (λ (ws : List ℕ). record { entity = entity_in e h; words = ws; memory = r.memory; serial = r.serial }) words
    ∙ ap (λ (m : List Block). record { entity = entity_in e h; words = h.words; memory = m; serial = r.serial }) memory
    ∙ ap (λ (n : ℕ). record { entity = entity_in e h; words = h.words; memory = h.config.memory; serial = n }) serial

pub first_there : (e : Env) (h : StepContext) (r : EvalState) (ret : Ty) (rows : List StmtRow) (xs : List code.ContItem)
    (first : Result First NoResult) →
    r ≡ eval_state_in e h → ret ≡ (e.function h.newest.function).ret → IsContinuation rows xs h.newest.cont →
    ((it : List ContItem) → IsContinuation rows xs it →
    IsFirst (answer r (effect_of (eval_context r) ret it)) (λ is. after is it) (FirstStatementIs IsCall it)
    (FirstStatementIs IsJump it) first) →
    IsFirst (answer (eval_state_in e h) (effect_of (eval_context_of e h)
    (e.function h.newest.function).ret h.newest.cont)) (λ is. after is h.newest.cont)
    (FirstStatementIs IsCall h.newest.cont) (FirstStatementIs IsJump h.newest.cont) first
first_there e h r ret rows xs first eval_state returns shows is =
    let cont = h.newest.cont in
    subst (λ (t : Ty). IsFirst (answer (eval_state_in e h) (effect_of (eval_context_of e h) t cont))
    (λ truth. after truth cont) (FirstStatementIs IsCall cont) (FirstStatementIs IsJump cont) first) returns
    (subst (λ (x : EvalState). IsFirst (answer x (effect_of (eval_context x) ret cont)) (λ truth. after truth cont)
    (FirstStatementIs IsCall cont) (FirstStatementIs IsJump cont) first) eval_state (is cont shows))

-- the newest frame is the newest activation

first_frame : (ts : List Typed) (f : Frame) (rest : List Frame) (all older : List Activation) (a : Activation) →
    AreFrames ts (f ∷ rest) all → all ≡ a ∷ older → IsFrame ts f a
first_frame ts f rest [] older a are is = absurd are
first_frame ts f rest (b ∷ bs) older a are is = let same : b ≡ a = cc is in subst (IsFrame ts f) same are.0

pub newest_frame : (ts : List Typed) (xs rest : List Frame) (f : Frame) (all older : List Activation) (a : Activation) →
    xs ≡ f ∷ rest → AreFrames ts xs all → all ≡ a ∷ older → IsFrame ts f a
newest_frame ts xs rest f all older a first are is = first_frame ts f rest all older a
    (subst (λ fs. AreFrames ts fs all) first are) is

first_is_there : (ts : List Typed) (f : Frame) (rest : List Frame) (all : List Activation) →
    AreFrames ts (f ∷ rest) all → all ≡ [] → ⊥
first_is_there ts f rest [] are is = are
first_is_there ts f rest (a ∷ older) are is = cc is

pub none_newest : (ts : List Typed) (xs rest : List Frame) (f : Frame) (all : List Activation) → xs ≡ f ∷ rest →
    AreFrames ts xs all → all ≡ [] → ⊥
none_newest ts xs rest f all first are is = first_is_there ts f rest all (subst (λ fs. AreFrames ts fs all) first are)
    is
