-- How a thread starts.
use Rattle.std.specs.Prelude.{ℕ, ◌+◌, ◌-◌, ◌*◌, replicate, slice_index, slice_set}
use Rattle.cas_asm.specs.declared.image.Image.{Image}
use Rattle.cas_asm.specs.Registers.{no_regs}
use Rattle.cas_asm.specs.Flags.{cleared}
use Rattle.cas_asm.specs.State.{State}

-- the address of the first word of a thread's stack
abbrev pub stack_of : (thread words : ℕ) → ℕ
stack_of thread words = 268435456 + thread * 4 * words

-- esp is at the stack's last word, which holds the outermost return place; eax is the thread's number; all else is 0
abbrev pub start_of : Image → (thread words : ℕ) → State
start_of image thread words = record {
  core = record {
    regs = record no_regs { eax = thread; esp = stack_of thread words + 4 * (words - 1) };
    flags = cleared;
    place = slice_index image.entries thread;
  };
  stack = slice_set (replicate words 0) (words - 1) 4294967295;
  bottom = stack_of thread words;
}
