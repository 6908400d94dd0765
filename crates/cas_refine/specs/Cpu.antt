-- A processor over atomic locks: the events of its program, where a call of the lock object is one step.
use Rattle.std.specs.Prelude.{ℕ, zero, suc, ◌+◌, ◌-◌, ◌/◌, nat_eq, nat_lt, Bool, true, false, List, [], ◌∷◌, Option, Some, None, slice_get, slice_index, slice_index_or, if◌then◌else◌}
use Rattle.cas_asm.specs.declared.image.Image.{Image}
use Rattle.cas_asm.specs.declared.ask.Ask.{Ask}
use Rattle.cas_asm.specs.declared.ask.Ask.TheVariants as ask
use Rattle.cas_asm.specs.declared.ask.Spot.{Spot}
use Rattle.cas_asm.specs.declared.ask.Spot.TheVariants.{Own, Shared, Nowhere}
use Rattle.cas_asm.specs.declared.flags.Flags.{Flags}
use Rattle.cas_asm.specs.declared.instr.Instr.{Instr}
use Rattle.cas_asm.specs.declared.instr.Instr.TheVariants.{Call}
use Rattle.cas_asm.specs.State.{State}
use Rattle.cas_base.specs.Word.{word_add, word_sub}
use Rattle.cas_asm.specs.After.{address}
use Rattle.cas_asm.specs.Links.{in_image}
use Rattle.cas_asm.specs.Effect.{callee_place}
use Rattle.cas_asm.specs.Ask.{ask_of, stepped, spot_of}
use Rattle.cas_atomic.specs.Leftover.{Leftover}
use Rattle.cas_atomic.specs.Program.{Event, Plain, Load, Store, Decrement, CallLock, CallUnlock, Prints, Ends, Over, NoRoom, Wrong, After, Goes, Fails, Halts}
use Rattle.cas_refine.specs.Object.{at_eax}

-- what a call of the lock object leaves unknown
abbrev pub unfixed : Flags → List ℕ → Leftover
unfixed f stack = record { flags = f; below = λ k. slice_index stack k }

-- the first n words of a stack are these
abbrev pub with_below : List ℕ → ℕ → (ℕ → ℕ) → List ℕ
with_below [] n b = []
with_below (x ∷ xs) zero b = x ∷ xs
with_below (x ∷ xs) (suc n) b = b 0 ∷ with_below xs n (λ k. b (suc k))

-- where a processor's program stands: at a state, or over
abbrev pub Program : Type 0
Program = Option State

-- behind a call of the lock object: the registers are as before, and flags and the words below esp are unknown. (For an
-- esp that is a word, up and down by 4 is nothing.)
abbrev pub behind : State → Leftover → Program
behind c f = Some (record {
  core = record {
    regs = record c.core.regs { esp = word_add (word_sub c.core.regs.esp 4) 4 };
    flags = f.flags;
    place =
        c.core.place + 1;
  };
  stack = with_below c.stack (suc ((word_sub c.core.regs.esp 4 - c.bottom) / 4)) f.below;
  bottom = c.bottom;
})

pub data Called : Type 0 where
  ToLock : Called
  ToUnlock : Called
  Other : Called

abbrev pub called_by : ℕ → Called
called_by to = if nat_eq to 0 then ToLock else if nat_eq to 6 then ToUnlock else Other

abbrev pub called_of : Option (Instr ℕ) → Called
called_of (Some (Call to)) = called_by (callee_place in_image to)
called_of _ = Other

abbrev pub after_load : Image → State → ℕ → Ask → After Program
after_load m c v ask.Plain = Goes (Some (stepped m c v))
after_load m c v ask.Stack = Halts
after_load m c v _ = Fails

-- an instruction outside the lock object that isn't a call of it
abbrev pub event_by : Image → State → Ask → Event Program
event_by m c ask.Plain = Plain (Some (stepped m c 0))
event_by m c (ask.Load k) = Load k (λ v. after_load m c v (ask_of m c (Some v)))
event_by m c (ask.Store k v) = Store k v (Some (stepped m c 0))
event_by m c (ask.LockedDec k) = Decrement k (λ v. Some (stepped m c v))
event_by m c (ask.Out v) = Prints v (Some (stepped m c 0))
event_by m c ask.Finish = Ends None
event_by m c ask.Stack = NoRoom
event_by m c (ask.Bad why) = Wrong

abbrev pub if_changing : Bool → Event Program → Event Program
if_changing true e = Wrong
if_changing false e = e

abbrev pub locks_at : Image → State → Spot → Event Program
locks_at m c (Shared l) = if_changing (slice_index_or m.constant l false) (CallLock l (behind c))
locks_at m c (Own k) = Wrong
locks_at m c Nowhere = Wrong

abbrev pub unlocks_at : Image → State → Spot → Event Program
unlocks_at m c (Shared l) = if_changing (slice_index_or m.constant l false) (CallUnlock l (behind c))
unlocks_at m c (Own k) = Wrong
unlocks_at m c Nowhere = Wrong

abbrev pub locks_by : Image → State → Ask → Event Program
locks_by m c ask.Plain = locks_at m c (spot_of m c (address c.core.regs at_eax))
locks_by m c ask.Stack = NoRoom
locks_by m c _ = Wrong

abbrev pub unlocks_by : Image → State → Ask → Event Program
unlocks_by m c ask.Plain = unlocks_at m c (spot_of m c (address c.core.regs at_eax))
unlocks_by m c ask.Stack = NoRoom
unlocks_by m c _ = Wrong

abbrev pub event_for : Image → State → Called → Event Program
event_for m c ToLock = locks_by m c (ask_of m c None)
event_for m c ToUnlock = unlocks_by m c (ask_of m c None)
event_for m c Other = event_by m c (ask_of m c None)

-- inside the lock object, where no call led, nothing has a meaning
abbrev pub event_at : Image → State → Event Program
event_at m c = if nat_lt c.core.place 8 then Wrong else event_for m c (called_of (slice_get m.code c.core.place))

-- a program that is over has no step
abbrev pub event_of : Image → Program → Event Program
event_of m (Some c) = event_at m c
event_of m None = Over
