use Rattle.std.proofs.Common.{◌∷◌, List, reverse, true, Bool, Some, sym, ap, subst}
use Rattle.cas_step.specs.Step.{Activation}
use Rattle.cas_thread.specs.Control.{after}
use Rattle.cas_thread.specs.Frames.{AreFrames}
use Rattle.cas_thread.proofs.Acts_of.{goes_act, prints_act, stores_act, writes_act}
use Rattle.cas_thread.proofs.Taking.{doing_this}
use Rattle.cas_thread.proofs.acting.effect_act.Goals as goal

pub returns-in-Continues : goal.returns-in-Continues
returns-in-Continues c = λ ts e h rs s thread is entities steps.
    goes_act e h rs s _ (doing_this e h rs s (λ (truth : Bool). after truth h.newest.cont)
    c.args.effect _ c.in-Continues.is steps)

pub returns-in-Stores : goal.returns-in-Stores
returns-in-Stores c = λ ts e h rs s thread is entities steps.
    stores_act e h rs s _ _ _ _ (doing_this e h rs s (λ (truth : Bool). after truth h.newest.cont)
    c.args.effect _ c.in-Stores.is steps)

pub returns-in-Writes : goal.returns-in-Writes
returns-in-Writes c = λ ts e h rs s thread is entities steps.
    writes_act e h rs s _ _ _ _ (doing_this e h rs s (λ (truth : Bool). after truth h.newest.cont)
    c.args.effect _ c.in-Writes.is steps)

pub returns-in-Returns : goal.returns-in-Returns
returns-in-Returns c = λ ts e h rs s thread is entities steps.
    let frames = subst (λ fs. AreFrames ts (reverse fs) (h.newest ∷ h.older)) (sym c.as_slice.ensures.value)
    (subst (λ (all : List Activation). AreFrames ts (reverse c.args.config.now.frames.items) all) is thread.frames_are)
    in
    ap Some (c.return_act.ensures ts e h rs _ s frames
    (doing_this e h rs s (λ (truth : Bool). after truth h.newest.cont) c.args.effect _ c.in-Returns.is steps))

pub returns-in-Locks : goal.returns-in-Locks
returns-in-Locks c = λ ts e h rs s thread is entities steps.
    c.lock_act.ensures e h rs (after true h.newest.cont) s entities
    (doing_this e h rs s (λ (truth : Bool). after truth h.newest.cont) c.args.effect _ c.in-Locks.is steps)

pub returns-in-Unlocks : goal.returns-in-Unlocks
returns-in-Unlocks c = λ ts e h rs s thread is entities steps.
    c.unlock_act.ensures e h rs (after true h.newest.cont) s entities
    (doing_this e h rs s (λ (truth : Bool). after truth h.newest.cont) c.args.effect _ c.in-Unlocks.is steps)

pub returns-in-Prints : goal.returns-in-Prints
returns-in-Prints c = λ ts e h rs s thread is entities steps.
    prints_act e h rs s _ _ (doing_this e h rs s (λ (truth : Bool). after truth h.newest.cont)
    c.args.effect _ c.in-Prints.is steps)
