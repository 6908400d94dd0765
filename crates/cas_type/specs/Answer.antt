-- What the typer's answers say of the walk.
use Rattle.std.specs.Prelude.{◌≡◌, ⊤, Option, Some, None, Result, Ok, Err}
use Rattle.cas_type.specs.declared.fault.TypeFault.{TypeFault}
use Rattle.cas_type.specs.declared.fault.TypeFault.TheVariants.{Memory, At, Limit}
use Rattle.cas_typed.specs.Faults.{Fault, fault, limit}

-- unless it is out of memory, this is the fault
abbrev pub Refuses : TypeFault → Option Fault → Type 0
Refuses Memory told = ⊤
Refuses (At code place name) told = told ≡ Some (fault code place name)
Refuses (Limit place what counted) told = told ≡ Some (limit place what counted)

-- there is no fault, or else this one is answered
abbrev pub Passes : {T : Type 0} → Result T TypeFault → Option Fault → Type 0
Passes (Ok x) told = told ≡ None
Passes (Err f) told = Refuses f told

-- unless it is out of memory, what is found by a walk is this fault
abbrev pub Fails : {B : Type 0} → TypeFault → Result B Fault → Type 0
Fails Memory walked = ⊤
Fails (At code place name) walked = walked ≡ Err (fault code place name)
Fails (Limit place what counted) walked = walked ≡ Err (limit place what counted)

-- what a walk finds is answered, as the code holds it, or else its fault
abbrev pub Answers : {A B : Type 0} → (A → B) → Result A TypeFault → Result B Fault → Type 0
Answers view (Ok x) walked = walked ≡ Ok (view x)
Answers view (Err f) walked = Fails f walked
