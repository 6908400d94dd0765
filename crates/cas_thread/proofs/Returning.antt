-- A return: what the definition's step leaves, and the frames and the memory that the code leaves.
use Rattle.std.proofs.Common.{◌≡◌, ℕ, List, [], ◌∷◌, ◌++◌, reverse, Option, Some, None, refl, sym, ap, subst, ◌∙◌}
use Rattle.std.proofs.lemmas.List.{reverse-append}
use Rattle.cas_base.specs.declared.act.Act.TheVariants as act
use Rattle.cas_typed.specs.declared.tree.Destination.{Destination}
use Rattle.cas_typed.specs.declared.typed.Typed.{Typed}
use Rattle.cas_step.specs.Answered.{value_at}
use Rattle.cas_step.specs.Asks.{Value}
use Rattle.cas_step.specs.Env.{Env}
use Rattle.cas_step.specs.Step.{Activation, Block, StepContext, Object, Step, cells_at, converted, memory_keeping, memory_storing, memory_with, memory_without, return_step, return_to, step_to, thread_with}
use Rattle.cas_memory.specs.Blocks.{AreBefore}
use Rattle.cas_thread.specs.Frames.{AreFrames, AreParts, IsFrame}
use Rattle.cas_thread.specs.Stepping.{newest_serial}
use Rattle.cas_thread.specs.declared.config.Frame.{Frame}
use Rattle.cas_thread.proofs.Frames_kept.{before_with, before_without}

-- blocks of earlier serial numbers stay so
before_storing : (n : ℕ) (m : List Block) (held : Option (Value Object)) (o : Object) (i : ℕ)
    (v : Option (Value Object)) (kept : List Block) → memory_storing m held o i v ≡ Some kept → AreBefore n m →
    AreBefore n kept
before_storing n m None o i v kept is h = absurd (cc is)
before_storing n m (Some held) o i None kept is h = absurd (cc is)
before_storing n m (Some held) o i (Some v) kept is h = let same : memory_with m o i v ≡ kept =
    cc is in subst (AreBefore n) same (before_with n m o i v h)

before_keeping : (n : ℕ) (m : List Block) (serial : ℕ) (target : Option Destination) (v : Option (Value Object))
    (kept : List Block) → memory_keeping m serial target v ≡ Some kept → AreBefore n m → AreBefore n kept
before_keeping n m serial None v kept is h = let same : m ≡ kept = cc is in subst (AreBefore n) same h
before_keeping n m serial (Some d) None kept is h = absurd (cc is)
before_keeping n m serial (Some d) (Some v) kept is h =
    let o : Object = record { serial = serial; local = d.local } in before_storing n m (value_at (cells_at m o) 0) o 0
    (converted d.ty v) kept is h

-- the newest frame, and those behind it

frames_of : (ts : List Typed) (f : Frame) (fs : List Frame) (all older : List Activation) (a : Activation) →
    AreFrames ts (f ∷ fs) all → all ≡ a ∷ older → IsFrame ts f a × AreFrames ts fs older
frames_of ts f fs [] older a are is = absurd are
frames_of ts f fs (b ∷ bs) older a are is =
    let first : b ≡ a = cc is in
    let others : bs ≡ older = cc is in
    (subst (IsFrame ts f) first are.0, subst (AreFrames ts fs) others are.1)

pub frames_popped : (ts : List Typed) (old new : List Frame) (f : Frame) (all older : List Activation) (a : Activation)
    → old ≡ new ++ f ∷ [] → AreFrames ts (reverse old) all → all ≡ a ∷ older → IsFrame ts f a
    × AreFrames ts (reverse new) older
frames_popped ts old new f all older a popped are is =
    frames_of ts f (reverse new) all older a (subst (λ fs. AreFrames ts fs all)
    (ap reverse popped ∙ reverse-append new (f ∷ [])) are) is

-- what a return to a caller leaves
returned_to : (e : Env) (h : StepContext) (rs : List ℕ) (older : List Activation) (kept : Option (List Block))
    (s : Step) → return_to e h rs older kept ≡ Some s →
    (m : List Block) × (kept ≡ Some m) × (act.Quiet ≡ s.act) × (thread_with h older m ≡ s.next)
returned_to e h rs older None s is = absurd (cc is)
returned_to e h rs older (Some m) s is =
    let same : step_to e h rs act.Quiet (thread_with h older m) ≡ s =
    cc is in (m, refl, ap (λ x. x.act) same, ap (λ x. x.next) same)

module _ (ts : List Typed) (e : Env) (h : StepContext) (rs : List ℕ) (s : Step) (value : Option (Value Object))
    (new : List Frame) (f : Frame) (memory : List Block) (fresh : ℕ)
    (newest : IsFrame ts f h.newest) (memory_is : h.config.memory ≡ memory) (fresh_is : h.config.fresh ≡ fresh)
    (before : AreBefore h.config.fresh h.config.memory) where
  back_to : (older : List Activation) (serial : ℕ) (kept : List Block) → AreFrames ts (reverse new) older →
      Some serial ≡ newest_serial older →
      ((m : List Block) → memory_keeping (memory_without memory f.serial) serial f.target value ≡ Some m → kept ≡ m) →
      return_step e h rs older value ≡ Some s → (Some act.Quiet ≡ Some s.act) × AreParts ts new kept fresh s.next
  back_to [] serial kept are caller keeps is = absurd (cc caller)
  back_to (a ∷ older) serial kept are caller keeps is =
      let left = memory_without h.config.memory h.newest.serial in
      let w = returned_to e h rs (a ∷ older) (memory_keeping left a.serial h.newest.target value) s is in
      let same : serial ≡ a.serial = cc caller in
      let kept_is : kept ≡ w.0 = keeps w.0
      (ap (λ m. memory_keeping (memory_without m f.serial) serial f.target value) (sym memory_is)
      ∙ ap (λ n. memory_keeping (memory_without h.config.memory n) serial f.target value) (sym newest.serial)
      ∙ ap (λ n. memory_keeping left n f.target value) same
      ∙ ap (λ t. memory_keeping left a.serial t value) (sym newest.target)
      ∙ w.1) in
      let without = before_without h.config.fresh h.config.memory h.newest.serial before in (
        ap Some w.2,
        subst (AreParts ts new kept fresh) w.3 (record {
          frames_are = are;
          memory_is = sym kept_is;
          fresh_is = fresh_is;
          before = before_keeping h.config.fresh left a.serial h.newest.target value w.0 w.1 without;
        }),
      )

  back_to_end : (older : List Activation) → AreFrames ts (reverse new) older → None ≡ newest_serial older →
      return_step e h rs older value ≡ Some s → (Some act.Done ≡ Some s.act)
      × AreParts ts new (memory_without memory f.serial) fresh s.next
  back_to_end (a ∷ older) are caller is = absurd (cc caller)
  back_to_end [] are caller is =
      let left = memory_without h.config.memory h.newest.serial in
      let same : step_to e h rs act.Done (thread_with h [] left) ≡ s = cc is in (
        ap (λ x. Some x.act) same,
        subst (AreParts ts new (memory_without memory f.serial) fresh) (ap (λ x. x.next) same) (record {
          frames_are = are;
          memory_is = ap (λ m. memory_without m h.newest.serial) memory_is ∙ ap (memory_without memory) newest.serial;
          fresh_is = fresh_is;
          before = before_without h.config.fresh h.config.memory h.newest.serial before;
        }),
      )

module _ (ts : List Typed) (e : Env) (h : StepContext) (rs : List ℕ) (s : Step) (value : Option (Value Object))
    (old new : List Frame) (f : Frame) (memory : List Block) (fresh : ℕ)
    (popped : old ≡ new ++ f ∷ []) (parts : AreParts ts old memory fresh h.config)
    (is : h.config.activations ≡ h.newest ∷ h.older) where
  pub given_back : (serial : ℕ) (kept : List Block) → ((all : List Activation) → AreFrames ts (reverse new) all →
      Some serial ≡ newest_serial all) →
      ((m : List Block) → memory_keeping (memory_without memory f.serial) serial f.target value ≡ Some m → kept ≡ m) →
      return_step e h rs h.older value ≡ Some s → (Some act.Quiet ≡ Some s.act) × AreParts ts new kept fresh s.next
  given_back serial kept caller keeps returns =
      let w = frames_popped ts old new f h.config.activations h.older h.newest popped parts.frames_are is in
      back_to ts e h rs s value new f memory fresh w.0 parts.memory_is parts.fresh_is parts.before h.older serial kept
      w.1 (caller h.older w.1) keeps returns

  pub given_back_end : ((all : List Activation) → AreFrames ts (reverse new) all → None ≡ newest_serial all) →
      return_step e h rs h.older value ≡ Some s → (Some act.Done ≡ Some s.act)
      × AreParts ts new (memory_without memory f.serial) fresh s.next
  given_back_end caller returns =
      let w = frames_popped ts old new f h.config.activations h.older h.newest popped parts.frames_are is in
      back_to_end ts e h rs s value new f memory fresh w.0 parts.memory_is parts.fresh_is parts.before h.older w.1
      (caller h.older w.1) returns
