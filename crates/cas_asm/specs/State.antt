-- A processor.
use Rattle.std.specs.Prelude.{ℕ, List}
use Rattle.cas_asm.specs.declared.regs.Core.{Core}

-- its core, its stack's words and the address of the first of them
pub record State : Type 0 where
  pub core : Core
  pub stack : List ℕ
  pub bottom : ℕ
