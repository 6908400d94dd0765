-- A call: what the definition's step leaves, and the thread that the code leaves.
use Rattle.std.proofs.Common.{arith, ◌≡◌, ℕ, zero, suc, ◌+◌, true, List, [], ◌∷◌, ◌++◌, map, reverse, Option, Some, None, refl, sym, ap, subst, ◌∙◌, vec_capacity}
use Rattle.std.specs.Prelude.{IsSome, slice_get}
use Rattle.std.proofs.lemmas.List.{reverse-append}
use Rattle.std.proofs.Math.Logic.{∥∥₁_elim}
use Rattle.std.specs.Coded.{×_prop, Unit-prop, le_prop}
use Rattle.cas_base.specs.declared.act.Act.TheVariants as act
use Rattle.cas_base.specs.declared.kind.Ty.{Ty}
use Rattle.cas_syntax.specs.Tree.{FunTree}
use Rattle.cas_typed.specs.Numbered.{IsFunctionOf}
use Rattle.cas_typed.specs.Resolved.{TypedFunTree, TypedModuleTree, TypedStmtList}
use Rattle.cas_typed.specs.declared.rows.StmtRow.{StmtRow}
use Rattle.cas_typed.specs.declared.rows.TypedFun.{TypedFun}
use Rattle.cas_typed.specs.declared.tree.Destination.{Destination}
use Rattle.cas_typed.specs.declared.typed.Typed.{Typed}
use Rattle.cas_step.specs.Asks.{Value}
use Rattle.cas_step.specs.Env.{Env, Entity, function, outside, shared, table, lock, FunctionAt, Function}
use Rattle.cas_step.specs.Continuation.{ContItem, begin_all}
use Rattle.cas_step.specs.Step.{Activation, Block, Config, StepContext, Object, Step, call_step, doing, locals_of, step_to, with_call}
use Rattle.cas_program.specs.Program.{body_item, env_of, function_in, function_of, function_with}
use Rattle.cas_memory.specs.Blocks.{AreBefore}
use Rattle.cas_whole.specs.Bodies.{typed_at}
use Rattle.cas_whole.specs.Whole.{AreTyped, function_at as stands_at}
use Rattle.cas_typed.specs.Whole.{AreFunctionsOf}
use Rattle.cas_thread.specs.Calls.{function_place}
use Rattle.cas_thread.specs.Control.{after}
use Rattle.cas_thread.specs.Frames.{AreFrames, AreParts, IsFrame, rows_at, rows_of}
use Rattle.cas_thread.specs.Room.{Fits}
use Rattle.cas_thread.specs.Stepping.{gone}
use Rattle.cas_thread.specs.Continuations.{IsContinuation}
use Rattle.cas_thread.specs.declared.config.Frame.{Frame}
use Rattle.cas_thread.proofs.Frames_kept.{before_later}
use Rattle.cas_thread.proofs.There.{typed_there}

-- what the environment says of a function that is there

with_locals : (it : TypedFunTree) (o : Option FunTree) → (function_with it o).locals ≡ map (λ v. v.ty) it.locals
with_locals it None = refl
with_locals it (Some f) = refl

with_body : (it : TypedFunTree) (o : Option FunTree) → (function_with it o).body ≡ it.body
with_body it None = refl
with_body it (Some f) = refl

function_is : (ms : List TypedModuleTree) (at : FunctionAt) (m : TypedModuleTree) (it : TypedFunTree) →
    slice_get ms at.unit ≡ Some m → slice_get m.functions at.place ≡ Some it →
    (env_of ms).function at ≡ function_with it (body_item (slice_get m.module_tree.items it.item))
function_is ms at m it unit place = ap (function_in at.place) unit ∙ ap (function_of m.module_tree.items) place

-- that blocks are of earlier serial numbers is a fact
before_prop : (n : ℕ) (m : List Block) → IsProp (AreBefore n m)
before_prop n [] = Unit-prop
before_prop n (b ∷ bs) = ×_prop le_prop (before_prop n bs)

pub before_known : (ts : List Typed) (frames : List Frame) (memory : List Block) (fresh : ℕ) →
    ∥ ((c : Config) × AreParts ts frames memory fresh c) ∥₁ → AreBefore fresh memory
before_known ts frames memory fresh has = ∥∥₁_elim has (before_prop fresh memory)
    (λ (w : (c : Config) × AreParts ts frames memory fresh c).
    subst (λ n. AreBefore n memory) w.1.fresh_is (subst (AreBefore w.0.fresh) w.1.memory_is w.1.before))

-- no function is missing
nowhere : (o : Option TypedFun) (f : TypedFun) → o ≡ Some f → o ≡ None → ⊥
nowhere None f is none = cc is
nowhere (Some g) f is none = cc none

module _ (ts : List Typed) (ms : List TypedModuleTree) (typed : AreTyped ts ms) (at : FunctionAt) (f : TypedFun)
    (there : typed_at ts at.unit at.place ≡ Some f) where
  -- the frame of a new call
  pub new_frame_is : (frame : Frame) (serial : ℕ) (target : Option Destination) →
      at ≡ record { unit = frame.unit; place = frame.place } → serial ≡ frame.serial → target ≡ frame.target →
      ((it : TypedFunTree) → IsFunctionOf it f → IsContinuation f.rows (reverse frame.cont.items)
      (begin_all it.body [])) →
      ((it : TypedFunTree) → IsFunctionOf it f → Fits (vec_capacity frame.cont) (begin_all it.body [])) →
      IsFrame ts frame
      (record {
        serial = serial;
        function = at;
        target = target;
        cont = begin_all
            ((env_of ms).function at).body [];
      })
  new_frame_is frame serial target at_is serial_is target_is cont room =
      let w = typed_there ts ms at.unit at.place f typed there in
      let body : ((env_of ms).function at).body ≡ w.1.body =
      ap (λ (g : Function). g.body) (function_is ms at w.0 w.1 w.2 w.3)
      ∙ with_body w.1 (body_item (slice_get w.0.module_tree.items w.1.item)) in
      let found : typed_at ts frame.unit frame.place ≡ Some f =
      ap (λ (x : FunctionAt). typed_at ts x.unit x.place) (sym at_is) ∙ there in
      record {
        serial = serial_is;
        function = at_is;
        there = subst IsSome (sym found) refl;
        target = target_is;
        cont = subst (λ (b : TypedStmtList). IsContinuation (rows_at ts frame.unit frame.place)
            (reverse frame.cont.items) (begin_all b [])) (sym body)
            (subst (λ (rs : List StmtRow). IsContinuation rs (reverse frame.cont.items) (begin_all w.1.body []))
            (sym (ap rows_of found)) (cont w.1 w.4));
        room = subst (λ (b : TypedStmtList). Fits (vec_capacity frame.cont) (begin_all b [])) (sym body) (room w.1 w.4);
      }

  -- the locals of a new call
  pub locals_are : (vs : List (Value Object)) → locals_of ((env_of ms).function at).locals vs ≡ locals_of
      (map (λ v. v.ty) f.locals) vs
  locals_are vs =
      let w = typed_there ts ms at.unit at.place f typed there in
      ap (λ (tys : List Ty). locals_of tys vs)
      (ap (λ (g : Function). g.locals) (function_is ms at w.0 w.1 w.2 w.3)
      ∙ with_locals w.1 (body_item (slice_get w.0.module_tree.items w.1.item))
      ∙ ap (map (λ v. v.ty)) (sym w.4.locals))

  pub entered : (h : StepContext) (frame : Frame) (before between after_ : List Frame) (target : Option Destination)
      (vs : List (Value Object)) (memory left : List Block) (fresh next : ℕ) →
      at ≡ record { unit = frame.unit; place = frame.place } → fresh ≡ frame.serial → target ≡ frame.target →
      ((it : TypedFunTree) → IsFunctionOf it f → IsContinuation f.rows (reverse frame.cont.items)
      (begin_all it.body [])) →
      ((it : TypedFunTree) → IsFunctionOf it f → Fits (vec_capacity frame.cont) (begin_all it.body [])) →
      AreParts ts before memory fresh h.config → h.config.activations ≡ h.newest ∷ h.older →
      ((all : List Activation) → AreFrames ts (reverse before) all → AreFrames ts (reverse between) (gone true all)) →
      after_ ≡ between ++ frame ∷ [] →
      left ≡ record { serial = fresh; locals = locals_of (map (λ v. v.ty) f.locals) vs } ∷ memory →
      next ≡ fresh + 1 →
      AreParts ts after_ left next (with_call (env_of ms) (doing h (after true h.newest.cont))
      h.config.memory h.config.fresh at vs target)
  entered h frame before between after_ target vs memory left fresh next at_is serial_is target_is cont room parts is
      goes pushed left_is next_is =
      let n = h.config.fresh in
      let newest = new_frame_is frame n target at_is (parts.fresh_is ∙ serial_is) target_is cont room in
      let others : AreFrames ts (reverse between) (doing h (after true h.newest.cont)) =
      subst (λ (all : List Activation). AreFrames ts (reverse between) (gone true all)) is
      (goes h.config.activations parts.frames_are) in
      let calls : List Activation =
      record { serial = n; function = at; target = target; cont = begin_all ((env_of ms).function at).body [] } ∷
      doing h (after true h.newest.cont) in
      record {
        frames_are = subst (λ (fs : List Frame). AreFrames ts fs calls)
            (sym (ap reverse pushed ∙ reverse-append between (frame ∷ []))) (newest, others);
        memory_is = ap (λ (ls : List (List (Value Object))). record { serial = n; locals = ls } ∷ h.config.memory)
            (locals_are vs)
            ∙ ap (λ (m : List Block). record { serial = n; locals = locals_of (map (λ v. v.ty) f.locals) vs } ∷ m)
            parts.memory_is
            ∙ ap (λ (k : ℕ). record { serial = k; locals = locals_of (map (λ v. v.ty) f.locals) vs } ∷ memory)
            parts.fresh_is ∙ sym left_is;
        fresh_is = ap (λ (k : ℕ). k + 1) parts.fresh_is ∙ sym next_is;
        before = (omega arith, before_later n (n + 1) h.config.memory (omega arith) parts.before);
      }

-- what a call's step is, by where its function stands
pub called_step : (e : Env) (h : StepContext) (rs : List ℕ) (s : Step) (it : Option Entity) (vs : List (Value Object))
    (target : Option Destination) (cont : List ContItem) (at : ℕ × ℕ) →
    Some at ≡ function_place it → call_step e h rs it vs target cont ≡ Some s →
    (it ≡ Some (function (stands_at at)))
    × (step_to e h rs act.Quiet (with_call e (doing h cont) h.config.memory h.config.fresh (stands_at at) vs target)
    ≡ s)
called_step e h rs s None vs target cont at place is = absurd (cc is)
called_step e h rs s (Some outside) vs target cont at place is = absurd (cc is)
called_step e h rs s (Some (shared first len guard)) vs target cont at place is = absurd (cc is)
called_step e h rs s (Some (table first len)) vs target cont at place is = absurd (cc is)
called_step e h rs s (Some (lock n)) vs target cont at place is = absurd (cc is)
called_step e h rs s (Some (function f)) vs target cont at place is =
    let same : at ≡ (f.unit, f.place) = cc place in
    let one : f ≡ stands_at at = sym (ap stands_at same) in
    let step : step_to e h rs act.Quiet (with_call e (doing h cont) h.config.memory h.config.fresh f vs target) ≡ s =
    cc is in (
      ap (λ (g : FunctionAt). Some (function g)) one,
      subst
          (λ (g : FunctionAt). step_to e h rs act.Quiet
          (with_call e (doing h cont) h.config.memory h.config.fresh g vs target) ≡ s) one step,
    )

pub called_nowhere : (e : Env) (h : StepContext) (rs : List ℕ) (s : Step) (it : Option Entity)
    (vs : List (Value Object)) (target : Option Destination) (cont : List ContItem) →
    None ≡ function_place it → call_step e h rs it vs target cont ≡ Some s → ⊥
called_nowhere e h rs s None vs target cont place is = cc is
called_nowhere e h rs s (Some outside) vs target cont place is = cc is
called_nowhere e h rs s (Some (shared first len guard)) vs target cont place is = cc is
called_nowhere e h rs s (Some (table first len)) vs target cont place is = cc is
called_nowhere e h rs s (Some (lock n)) vs target cont place is = cc is
called_nowhere e h rs s (Some (function f)) vs target cont place is = cc place

-- where a function stands, one is found

function_found : (rs : List TypedFunTree) (fs : List TypedFun) (p : ℕ) (it : TypedFunTree) → AreFunctionsOf rs fs →
    slice_get rs p ≡ Some it → slice_get fs p ≡ None → ⊥
function_found [] [] p it are is none = cc is
function_found [] (g ∷ fs) p it are is none = absurd are
function_found (r ∷ rs) [] p it are is none = absurd are
function_found (r ∷ rs) (g ∷ fs) zero it are is none = cc none
function_found (r ∷ rs) (g ∷ fs) (suc p) it are is none = function_found rs fs p it are.1 is none

pub found_there : (ts : List Typed) (ms : List TypedModuleTree) (u p : ℕ) (m : TypedModuleTree) (it : TypedFunTree) →
    AreTyped ts ms → slice_get ms u ≡ Some m → slice_get m.functions p ≡ Some it → typed_at ts u p ≡ None → ⊥
found_there [] [] u p m it are unit place none = cc unit
found_there [] (n ∷ ns) u p m it are unit place none = absurd are
found_there (t ∷ ts) [] u p m it are unit place none = absurd are
found_there (t ∷ ts) (n ∷ ns) zero p m it are unit place none =
    let same : n ≡ m = cc unit in
    function_found m.functions t.functions p it (subst (λ (x : TypedModuleTree). AreFunctionsOf x.functions t.functions)
    same are.0.functions) place none
found_there (t ∷ ts) (n ∷ ns) (suc u) p m it are unit place none = found_there ts ns u p m it are.1 unit place none
