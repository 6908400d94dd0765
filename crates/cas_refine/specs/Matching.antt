-- Which abstract thread a processor stands for: outside the lock object itself, and inside where it stands and how it
-- goes on behind the call.
use Rattle.std.specs.Prelude.{◌≡◌, ℕ, ◌+◌, ◌*◌, ◌<◌, nat_eq, nat_lt, false, List, length, slice_index, slice_index_or, Some, None}
use Rattle.cas_asm.specs.declared.image.Image.{Image}
use Rattle.cas_asm.specs.declared.ask.Spot.TheVariants.{Own, Shared}
use Rattle.cas_asm.specs.declared.flags.Flags.{Flags}
use Rattle.cas_asm.specs.declared.regs.Regs.{Regs}
use Rattle.cas_asm.specs.State.{State}
use Rattle.cas_base.specs.Word.{word_add}
use Rattle.cas_asm.specs.After.{address}
use Rattle.cas_asm.specs.Ask.{spot_of}
use Rattle.cas_atomic.specs.Leftover.{Leftover}
use Rattle.cas_atomic.specs.Buffered.{Point, Outside, Inside, IsDone, thread}
use Rattle.cas_atomic.specs.Buffered as tso
use Rattle.cas_refine.specs.Object.{at_eax}
use Rattle.cas_refine.specs.Cpu.{Program, unfixed}
use Rattle.cas_refine.specs.Machine.{Core, World}

-- a processor with these registers, flags, place, stack and bottom
abbrev pub cpu : Regs → Flags → ℕ → List ℕ → ℕ → State
cpu r f place stack bottom =
    record { core = record { regs = r; flags = f; place = place }; stack = stack; bottom = bottom }

-- in the lock object by one of its calls: eax has the lock's address, and at esp stands the place behind the call
pub record InObject (m : Image) (regs : Regs) (stack : List ℕ) (bottom : ℕ) (l : ℕ) (k : Leftover → Program)
    : Type 0 where
  pub lock_is : (f : Flags) (place : ℕ) → spot_of m (cpu regs f place stack bottom) (address regs at_eax) ≡ Shared l
  pub slot : ℕ
  pub slot_is : (f : Flags) (place : ℕ) → spot_of m (cpu regs f place stack bottom) regs.esp ≡ Own slot
  pub not_end : nat_eq (slice_index stack slot) 4294967295 ≡ false
  pub changing : slice_index_or m.constant l false ≡ false
  pub in_stack : nat_lt regs.esp bottom ≡ false
  pub above : nat_lt (word_add regs.esp 4) bottom ≡ false
  pub back : (f : Flags) →
      k (unfixed f stack) ≡ Some (cpu (record regs { esp = word_add regs.esp 4 }) f (slice_index stack slot)
      stack bottom)

pub record IsInside (m : Image) (c : State) (place : ℕ) (f : Leftover) (l : ℕ) (k : Leftover → Program) : Type 0 where
  pub place_is : c.core.place ≡ place
  pub within : place < 8
  pub flags_are : f ≡ unfixed c.core.flags c.stack
  pub object : InObject m c.core.regs c.stack c.bottom l k

abbrev pub Stands : Image → Core → Point Program → Type 0
Stands m r (Outside (Some x)) = x ≡ r.cpu
Stands m r (Outside None) = r.ended ≡ IsDone
Stands m r (Inside place f l k) = IsInside m r.cpu place f l k

-- the stack ends within words
pub record HasRoom (c : State) : Type 0 where
  pub room : c.bottom + 4 * length c.stack + 4 < 4294967296

pub record Matches (m : Image) (s : World) (ats : ℕ → Point Program) : Type 0 where
  pub stands : (i : ℕ) → Stands m (s.threads i) (ats i)
  pub rooms : (i : ℕ) → HasRoom (s.threads i).cpu

abbrev pub lifted : Point Program → Core → tso.Thread Program
lifted w r = thread w r.buffer r.ended r.executed

-- the abstract state with the same memory, output, buffers and counts
abbrev pub lift : World → (ℕ → Point Program) → tso.State Program
lift s ats = tso.state_with s.memory s.output (λ i. lifted (ats i) (s.threads i))
