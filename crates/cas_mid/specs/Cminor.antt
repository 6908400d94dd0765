-- Cminor: Csharpminor with one block of memory.
use Rattle.cas_runs.specs.Calls.{Activations}
use Rattle.cas_runs.specs.Naming.{Own, Pointer}
use Rattle.cas_mid.specs.declared.tree.CminorFun.{CminorFun}
use Rattle.cas_mid.specs.Trees.{Expression, Target}
use Rattle.cas_mid.specs.Language.{Parts, State, activations}
use Rattle.cas_mid.specs.Expressions as expressions
use Rattle.cas_mid.specs.Expressions.{parts_by}
use Rattle.cas_mid.specs.Code.{cminor_routine}

-- the address of a word of the block
abbrev pub stack_address : expressions.Own
stack_address f offset = Pointer (Own f.function f.serial 0) offset

abbrev pub CminorState : Type 0
CminorState = State Expression Target Expression

abbrev pub cminor_parts : Parts Expression Target Expression
cminor_parts = parts_by stack_address

abbrev pub cminor : Activations CminorFun CminorState
cminor = activations cminor_parts cminor_routine
