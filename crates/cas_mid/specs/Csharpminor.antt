-- Csharpminor: each variable is a block of memory.
use Rattle.cas_runs.specs.Calls.{Activations}
use Rattle.cas_runs.specs.Naming.{Own, Value, Pointer}
use Rattle.cas_runs.specs.Access.{Accesses}
use Rattle.cas_mid.specs.declared.tree.CsharpFun.{CsharpFun}
use Rattle.cas_mid.specs.Trees.{Expression, Target}
use Rattle.cas_mid.specs.Language.{Frame, Parts, State, activations}
use Rattle.cas_mid.specs.Expressions as expressions
use Rattle.cas_mid.specs.Expressions.{value_of, parts_by}
use Rattle.cas_mid.specs.Code.{csharp_routine}

-- the address of a variable
abbrev pub variable : expressions.Own
variable f n = Pointer (Own f.function f.serial n) 0

-- what follows on the value of an expression
abbrev pub value : {L : Type 0} → Frame → Expression → (Value → Accesses L) → Accesses L
value f e next = value_of variable f e next

abbrev pub CsharpState : Type 0
CsharpState = State Expression Target Expression

abbrev pub csharp_parts : Parts Expression Target Expression
csharp_parts = parts_by variable

abbrev pub csharpminor : Activations CsharpFun CsharpState
csharpminor = activations csharp_parts csharp_routine
