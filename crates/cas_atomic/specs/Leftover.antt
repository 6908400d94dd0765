-- What a call of the lock object leaves unknown, and what its instructions do to it.
use Rattle.std.specs.Prelude.{ℕ, Bool, ◌-◌, ◌%◌, ◌≤◌, ◌≡◌}
use Rattle.cas_base.specs.Word.{word_sub}
use Rattle.cas_asm.specs.declared.flags.Flags.{Flags}
use Rattle.cas_asm.specs.declared.cond.Cond.TheVariants.{Le}
use Rattle.cas_asm.specs.Flags.{decrement_flags, sub_flags, holds}

-- the flags, and the words below the stack's top
pub record Leftover : Type 0 where
  pub flags : Flags
  pub below : ℕ → ℕ

abbrev pub one_less : ℕ → ℕ
one_less w = word_sub w 1

-- after a locked decrement with this result
abbrev pub after_decrement : Leftover → (result : ℕ) → Leftover
after_decrement f result = record { flags = decrement_flags f.flags.carry result; below = f.below }

-- after a word is compared with 0
abbrev pub after_compare : Leftover → (word : ℕ) → Leftover
after_compare f w = record { flags = sub_flags w 0; below = f.below }

-- `jle` jumps
abbrev pub less_or_equal : Leftover → Bool
less_or_equal f = holds Le f.flags

-- the word is minus a number that is at most this
pub record IsMinus (most w : ℕ) : Type 0 where
  pub minus : ℕ
  pub at_most : minus ≤ most
  pub is : w ≡ (4294967296 - minus) % 4294967296
