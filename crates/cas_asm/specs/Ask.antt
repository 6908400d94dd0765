-- What the next instruction of a processor asks of shared memory and of the output, and the processor after it.
use Rattle.std.specs.Prelude.{ℕ, ◌+◌, ◌-◌, ◌*◌, ◌/◌, ◌%◌, Bool, true, false, ◌&&◌, ◌==◌, nat_le, nat_lt, if◌then◌else◌, Option, Some, None, List, length, slice_get, slice_index, slice_index_or, slice_set}
use Rattle.cas_asm.specs.declared.image.Image.{Image}
use Rattle.cas_asm.specs.declared.regs.Core.{Core}
use Rattle.cas_asm.specs.declared.regs.Write.{Write}
use Rattle.cas_asm.specs.declared.ask.Spot.{Spot}
use Rattle.cas_asm.specs.declared.ask.Spot.TheVariants.{Own, Shared, Nowhere}
use Rattle.cas_asm.specs.declared.ask.Ask.{Ask}
use Rattle.cas_asm.specs.declared.ask.Ask.TheVariants as ask
use Rattle.cas_asm.specs.declared.ask.BadWhy.TheVariants.{Divide, Address, ConstWrite, CodePlace}
use Rattle.cas_asm.specs.declared.effect.Effect.{Effect}
use Rattle.cas_asm.specs.declared.instr.Instr.{Instr}
use Rattle.cas_asm.specs.State.{State}
use Rattle.cas_asm.specs.Links.{in_image}
use Rattle.cas_asm.specs.Effect.{effect_of}
use Rattle.cas_asm.specs.After.{read_at, write_of, after, faults, is_locked, is_output, is_return}

-- what is at an address: a word of the own stack, a shared word, or nothing
abbrev pub spot_at : (words bottom size at : ℕ) → Spot
spot_at words bottom size at =
    if at % 4 == 0
    then (if nat_le bottom at && nat_lt at (bottom + 4 * size) then Own ((at - bottom) / 4)
    else (if nat_le 4096 at && nat_lt at (4096 + 4 * words) then Shared ((at - 4096) / 4) else Nowhere))
    else Nowhere

-- the same, of a processor in an image
abbrev pub spot_of : Image → State → (at : ℕ) → Spot
spot_of m c at = spot_at (length m.words) c.bottom (length c.stack) at

-- the word is of a table of constants
abbrev pub is_constant : Image → (word : ℕ) → Bool
is_constant m word = slice_index_or m.constant word false

-- Asking.

-- without a store: an `out`, the outermost return, or nothing
abbrev pub ask_quiet : Effect → Core → (read : ℕ) → Ask
ask_quiet e c read = if is_output e then ask.Out c.regs.eax else
    (if is_return e && (read == 4294967295) then ask.Finish else ask.Plain)

abbrev pub ask_stored : Image → Spot → (value : ℕ) → Ask
ask_stored m (Own k) value = ask.Plain
ask_stored m (Shared k) value = if is_constant m k then ask.Bad ConstWrite else ask.Store k value
ask_stored m Nowhere value = ask.Bad Address

abbrev pub ask_store : Image → State → Effect → (read : ℕ) → Option Write → Ask
ask_store m c e read None = ask_quiet e c.core read
ask_store m c e read (Some w) = ask_stored m (spot_of m c w.at) w.value

-- once the word that it reads is known: a division without a result, then a full stack, then the store
abbrev pub ask_read : Image → State → Effect → (read : ℕ) → Ask
ask_read m c e read =
    if faults e c.core then ask.Bad Divide
    else (if nat_lt (after e c.core read).regs.esp c.bottom then ask.Stack
    else ask_store m c e read (write_of e c.core read))

abbrev pub ask_loaded : Image → State → Effect → (word : ℕ) → (loaded : Option ℕ) → Ask
ask_loaded m c e word None = ask.Load word
ask_loaded m c e word (Some read) = ask_read m c e read

-- a locked instruction isn't on the stack, nor on a constant word
abbrev pub ask_locked : Image → Spot → Ask
ask_locked m (Own k) = ask.Bad Address
ask_locked m (Shared k) = if is_constant m k then ask.Bad ConstWrite else ask.LockedDec k
ask_locked m Nowhere = ask.Bad Address

abbrev pub ask_spot : Image → State → Effect → (loaded : Option ℕ) → Spot → Ask
ask_spot m c e loaded (Own k) = ask_read m c e (slice_index c.stack k)
ask_spot m c e loaded (Shared k) = ask_loaded m c e k loaded
ask_spot m c e loaded Nowhere = ask.Bad Address

abbrev pub ask_at : Image → State → Effect → (loaded at : Option ℕ) → Ask
ask_at m c e loaded None = ask_read m c e 0
ask_at m c e loaded (Some at) = if is_locked e then ask_locked m (spot_of m c at) else ask_spot m c e loaded
    (spot_of m c at)

-- what an effect asks
abbrev pub ask_effect : Image → State → (loaded : Option ℕ) → Effect → Ask
ask_effect m c loaded e = ask_at m c e loaded (read_at e c.core.regs)

abbrev pub ask_instr : Image → State → (loaded : Option ℕ) → Option (Instr ℕ) → Ask
ask_instr m c loaded None = ask.Bad CodePlace
ask_instr m c loaded (Some i) = ask_effect m c loaded (effect_of in_image i)

-- what the next instruction asks, where the shared word that it loads is given or not
abbrev pub ask_of : Image → State → (loaded : Option ℕ) → Ask
ask_of m c loaded = ask_instr m c loaded (slice_get m.code c.core.place)

-- Stepping.

-- the word that is read: of the own stack, or the one that was loaded or is decremented
abbrev pub word_at : State → Spot → (loaded : ℕ) → ℕ
word_at c (Own k) loaded = slice_index c.stack k
word_at c (Shared k) loaded = loaded
word_at c Nowhere loaded = 0

abbrev pub word_read : Image → State → (at : Option ℕ) → (loaded : ℕ) → ℕ
word_read m c None loaded = 0
word_read m c (Some at) loaded = word_at c (spot_of m c at) loaded

-- the stack after a store
abbrev pub stack_set : List ℕ → Spot → (value : ℕ) → List ℕ
stack_set stack (Own k) value = slice_set stack k value
stack_set stack (Shared k) value = stack
stack_set stack Nowhere value = stack

abbrev pub stack_after : Image → State → Option Write → List ℕ
stack_after m c None = c.stack
stack_after m c (Some w) = stack_set c.stack (spot_of m c w.at) w.value

-- the processor after an effect, given the word that it read
abbrev pub state_after : Image → State → Effect → (read : ℕ) → State
state_after m c e read = record {
  core = after e c.core read;
  stack = stack_after m c (write_of e c.core read);
  bottom = c.bottom;
}

-- the processor after an effect, given the loaded or decremented word
abbrev pub effected : Image → State → (loaded : ℕ) → Effect → State
effected m c loaded e = state_after m c e (word_read m c (read_at e c.core.regs) loaded)

abbrev pub stepped_by : Image → State → (loaded : ℕ) → Option (Instr ℕ) → State
stepped_by m c loaded None = c
stepped_by m c loaded (Some i) = effected m c loaded (effect_of in_image i)

-- the processor after its next instruction
abbrev pub stepped : Image → State → (loaded : ℕ) → State
stepped m c loaded = stepped_by m c loaded (slice_get m.code c.core.place)

-- the instruction can be executed
abbrev pub is_taken : Ask → Bool
is_taken ask.Stack = false
is_taken (ask.Bad why) = false
is_taken _ = true
