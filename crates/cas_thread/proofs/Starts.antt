-- A thread at its start.
use Rattle.std.proofs.Common.{arith, ◌≡◌, ℕ, zero, suc, ◌<◌, List, [], ◌∷◌, length, map, reverse, Some, None, Result, Ok, Err, refl, sym, ap, subst, ◌∙◌, vec_capacity}
use Rattle.std.specs.Prelude.{IfOk, slice_get}
use Rattle.cas_typed.specs.Numbered.{IsFunctionOf}
use Rattle.cas_typed.specs.Resolved.{TypedFunTree, TypedModuleTree}
use Rattle.cas_typed.specs.declared.rows.TypedFun.{TypedFun}
use Rattle.cas_typed.specs.declared.typed.Typed.{Typed}
use Rattle.cas_step.specs.Asks.{Value}
use Rattle.cas_step.specs.Env.{FunctionAt}
use Rattle.cas_step.specs.Continuation.{begin_all}
use Rattle.cas_step.specs.Step.{Block, Object, locals_of, start}
use Rattle.cas_program.specs.Laws.{EntriesHoldNone}
use Rattle.cas_program.specs.Program.{env_of, entries_of}
use Rattle.cas_whole.specs.Bodies.{typed_at}
use Rattle.cas_whole.specs.Program_of.{IsProgramOf}
use Rattle.cas_whole.specs.Whole.{AreTyped, function_at as stands_at}
use Rattle.cas_whole.specs.declared.program.Program.{Program}
use Rattle.cas_thread.specs.Frames.{AreParts}
use Rattle.cas_thread.specs.Room.{Fits}
use Rattle.cas_thread.specs.Continuations.{IsContinuation}
use Rattle.cas_thread.specs.declared.config.Frame.{Frame}
use Rattle.cas_thread.proofs.Entering.{found_there, locals_are, new_frame_is}

-- the thread at the start of a function that is there
pub starts_at : (ts : List Typed) (ms : List TypedModuleTree) → AreTyped ts ms → (at : FunctionAt) (f : TypedFun) →
    typed_at ts at.unit at.place ≡ Some f →
    (frame : Frame) (frames : List Frame) (memory : List Block) (vs : List (Value Object)) →
    at ≡ record { unit = frame.unit; place = frame.place } → 0 ≡ frame.serial → None ≡ frame.target →
    ((it : TypedFunTree) → IsFunctionOf it f → IsContinuation f.rows (reverse frame.cont.items) (begin_all it.body []))
    →
    ((it : TypedFunTree) → IsFunctionOf it f → Fits (vec_capacity frame.cont) (begin_all it.body [])) →
    frames ≡ frame ∷ [] → memory ≡ record { serial = 0; locals = locals_of (map (λ v. v.ty) f.locals) vs } ∷ [] →
    AreParts ts frames memory 1 (start (env_of ms) at vs)
starts_at ts ms typed at f there frame frames memory vs at_is serial_is target_is cont room frames_is memory_is =
    let newest = new_frame_is ts ms typed at f there frame 0 None at_is serial_is target_is cont room in
    subst (λ (fs : List Frame). AreParts ts fs memory 1 (start (env_of ms) at vs)) (sym frames_is) (record {
      frames_are = (newest, tt);
      memory_is = ap (λ (ls : List (List (Value Object))). let b : Block = record { serial = 0; locals = ls } in b ∷ [])
          (locals_are ts ms typed at f there vs) ∙ sym memory_is;
      fresh_is = refl;
      before = (omega arith, tt);
    })

-- the entries

mapped : {X Y : Type 0} (g : X → Y) (xs : List X) (n : ℕ) (x : X) → slice_get xs n ≡ Some x →
    slice_get (map g xs) n ≡ Some (g x)
mapped g [] n x is = absurd (cc is)
mapped g (y ∷ ys) zero x is = let same : y ≡ x = cc is in ap (λ z. Some (g z)) same
mapped g (y ∷ ys) (suc n) x is = mapped g ys n x is

pub entry_is_there : {X : Type 0} (xs : List X) (n : ℕ) → n < length xs → slice_get xs n ≡ None → ⊥
entry_is_there [] n below is = omega arith
entry_is_there (x ∷ xs) zero below is = cc is
entry_is_there (x ∷ xs) (suc n) below is = entry_is_there xs n (omega arith) is

module _ (p : Program) (ms : List TypedModuleTree) (names : List (List ℕ)) (program : IsProgramOf p ms names) (n : ℕ)
    (at : ℕ × ℕ) (is : slice_get p.entries n ≡ Some at) where
  pub entry_is : slice_get (entries_of ms names) n ≡ Some (stands_at at)
  entry_is = subst (λ (fs : List FunctionAt). slice_get fs n ≡ Some (stands_at at)) program.entries_are
      (mapped stands_at p.entries n at is)

  pub entry_found : EntriesHoldNone → typed_at p.modules at.0 at.1 ≡ None → ⊥
  entry_found law none =
      let w = law ms names program.program n (stands_at at) entry_is in
      found_there p.modules ms at.0 at.1 w.0 w.1 program.typed w.2.unit_is w.2.function_is none

-- what holds of what there is
pub ok_map : {A E : Type 0} {P Q : A → Type 0} (r : Result A E) → ((a : A) → P a → Q a) → IfOk r P → IfOk r Q
ok_map (Ok a) f is = f a is
ok_map (Err e) f is = tt
