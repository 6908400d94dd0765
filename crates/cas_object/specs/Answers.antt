-- What an answer says that may be want of memory.
use Rattle.std.specs.Prelude.{◌≡◌, ◌⊎◌, Result, Ok, Err, MatchResult}
use Rattle.cas_object.specs.declared.fault.ObjectFault.{ObjectFault}
use Rattle.cas_object.specs.declared.fault.ObjectFault.TheVariants.{Memory}

-- an answer is this one, or want of memory
abbrev pub IsAnswer : {A : Type 0} → Result A ObjectFault → Result A ObjectFault → Type 0
IsAnswer answer wanted = MatchResult answer (λ x. wanted ≡ Ok x) (λ fault. (fault ≡ Memory) ⊎ (wanted ≡ Err fault))
