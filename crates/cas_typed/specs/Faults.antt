-- Faults of typing, which a walk answers in place of a resolved tree.
use Rattle.std.specs.Prelude.{ℕ, ◌-◌, ◌^◌, min, nat_lt, if◌then◌else◌, List, Option, Some, None, Result, Ok, Err}
use Rattle.cas_base.specs.declared.place.Place.{Place}
use Rattle.cas_syntax.specs.declared.tree.Ident.{Ident}
use Rattle.cas_typed.specs.declared.fault.TypeCode.{TypeCode}
use Rattle.cas_typed.specs.declared.fault.TypeCount.{TypeCount}

-- a fault: its code, its place, and the name that is kept; or a count that passes its limit, at its place
pub data Fault : Type 0 where
  fault : TypeCode → Place → (name : Option (List ℕ)) → Fault
  limit : Place → TypeCount → (counted : ℕ) → Fault

-- a fault at a name, which is kept
abbrev pub at_name : TypeCode → Ident → Option Fault
at_name code x = Some (fault code x.place (Some x.name))

-- a count above its limit
abbrev pub above : (most : ℕ) → Place → TypeCount → (counted : ℕ) → Option Fault
above most p what n = if nat_lt most n then Some (limit p what (min n (2 ^ 64 - 1))) else None

-- the sooner of two faults
abbrev pub sooner : Option Fault → Option Fault → Option Fault
sooner (Some f) later = Some f
sooner None later = later

-- a fault, or else what comes next
abbrev pub unless : {A : Type 0} → Option Fault → Result A Fault → Result A Fault
unless (Some f) next = Err f
unless None next = next

-- what comes next with what was found, or else the fault
abbrev pub then_ : {A B : Type 0} → Result A Fault → (A → Result B Fault) → Result B Fault
then_ (Ok a) next = next a
then_ (Err f) next = Err f

-- what was found, or else this fault
abbrev pub found : {A : Type 0} → Option A → Fault → Result A Fault
found (Some a) f = Ok a
found None f = Err f
