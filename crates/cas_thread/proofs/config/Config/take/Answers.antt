use Rattle.std.proofs.Common.{Bool, refl, ◌∙◌}
use Rattle.std.specs.Option.{option_map}
use Rattle.cas_memory.specs.Values.{value_of}
use Rattle.cas_thread.specs.Control.{after}
use Rattle.cas_thread.specs.declared.effect.Effect.TheVariants.{Writes, Returns, Locks, Unlocks}
use Rattle.cas_thread.proofs.Taking.{doing_this, return_words}
use Rattle.cas_thread.proofs.config.Config.take.Goals as goal

pub returns-in-Writes : goal.returns-in-Writes
returns-in-Writes c = λ e h rs s stands is.
    let left = λ (truth : Bool). after truth h.newest.cont in
    c.write.ensures e h rs s stands (doing_this e h rs s left c.args.effect
    (Writes c.in-Writes.item c.in-Writes.place c.in-Writes.word) c.in-Writes.is is)

pub returns-in-Returns : goal.returns-in-Returns
returns-in-Returns c = λ e h rs s stands is.
    let left = λ (truth : Bool). after truth h.newest.cont in
    let returns = doing_this e h rs s left c.args.effect (Returns c.in-Returns.value) c.in-Returns.is is in
    let taken = c.return_value.ensures c.args.modules.now e h rs s stands.thread stands.newest returns in
    (taken.0, taken.1, stands.words ∙ return_words e h rs h.older (option_map value_of c.in-Returns.value) s returns)

pub returns-in-Locks : goal.returns-in-Locks
returns-in-Locks c = λ e h rs s stands is.
    let left = λ (truth : Bool). after truth h.newest.cont in
    c.locks.ensures.takes e h rs s c.args.words.now refl stands
    (doing_this e h rs s left c.args.effect (Locks c.in-Locks.item) c.in-Locks.is is)

pub returns-in-Unlocks : goal.returns-in-Unlocks
returns-in-Unlocks c = λ e h rs s stands is.
    let left = λ (truth : Bool). after truth h.newest.cont in
    c.locks-in-Unlocks.ensures.gives e h rs s c.args.words.now refl stands
    (doing_this e h rs s left c.args.effect (Unlocks c.in-Unlocks.item) c.in-Unlocks.is is)
