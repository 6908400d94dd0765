-- What stays of a thread of the code where one of its parts changes.
use Rattle.std.proofs.Common.{arith, ◌≡◌, ℕ, ◌≤◌, Bool, true, false, List, [], ◌∷◌, ◌++◌, reverse, ap, subst, ◌∙◌}
use Rattle.std.specs.Prelude.{if◌then◌else◌, nat_eq}
use Rattle.std.proofs.lemmas.List.{reverse-append}
use Rattle.std.proofs.Math.Logic.{∥∥₁_map}
use Rattle.cas_step.specs.Asks.{Value}
use Rattle.cas_step.specs.Step.{Activation, Block, Object, memory_with, memory_without, with_local}
use Rattle.cas_memory.specs.Blocks.{AreBefore}
use Rattle.cas_typed.specs.declared.typed.Typed.{Typed}
use Rattle.cas_thread.specs.Frames.{AreFrames, IsFrame}
use Rattle.cas_thread.specs.declared.config.Frame.{Frame}

-- blocks of earlier serial numbers stay so

either_before : (n : ℕ) (is : Bool) (some others : List Block) → AreBefore n some → AreBefore n others →
    AreBefore n (if is then some else others)
either_before n true some others h k = h
either_before n false some others h k = k

pub before_with : (n : ℕ) (m : List Block) (o : Object) (i : ℕ) (v : Value Object) → AreBefore n m →
    AreBefore n (memory_with m o i v)
before_with n [] o i v h = tt
before_with n (b ∷ bs) o i v h =
    either_before n (nat_eq b.serial o.serial)
    (record { serial = b.serial; locals = with_local b.locals o.local i v } ∷ bs) (b ∷ memory_with bs o i v)
    (h.0, h.1) (h.0, before_with n bs o i v h.1)

pub before_without : (n : ℕ) (m : List Block) (serial : ℕ) → AreBefore n m → AreBefore n (memory_without m serial)
before_without n [] serial h = tt
before_without n (b ∷ bs) serial h = either_before n (nat_eq b.serial serial) bs (b ∷ memory_without bs serial) h.1
    (h.0, before_without n bs serial h.1)

pub before_later : (n k : ℕ) (m : List Block) → n ≤ k → AreBefore n m → AreBefore k m
before_later n k [] le h = tt
before_later n k (b ∷ bs) le h = (omega (arith, h.0), before_later n k bs le h.1)

-- the newest frame

pub newest_is : (ts : List Typed) (f : Frame) (fs : List Frame) (all : List Activation) → AreFrames ts (f ∷ fs) all →
    (a : Activation) × IsFrame ts f a
newest_is ts f fs [] are = absurd are
newest_is ts f fs (a ∷ older) are = (a, are.0)

pub newest_popped : (ts : List Typed) (old new : List Frame) (f : Frame) → old ≡ new ++ f ∷ [] →
    ∥ ((all : List Activation) × AreFrames ts (reverse old) all) ∥₁ → ∥ ((a : Activation) × IsFrame ts f a) ∥₁
newest_popped ts old new f popped has = ∥∥₁_map has (λ (w : (all : List Activation) × AreFrames ts (reverse old) all).
    newest_is ts f (reverse new) w.0 (subst (λ fs. AreFrames ts fs w.0)
    (ap reverse popped ∙ reverse-append new (f ∷ [])) w.1))
