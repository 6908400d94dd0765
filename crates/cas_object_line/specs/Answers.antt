-- What an answer says that may be want of memory.
use Rattle.std.specs.Prelude.{◌≡◌, ◌⊎◌, Result, Ok, Err, MatchResult}
use Rattle.cas_object_line.specs.declared.fault.LineFault.{LineFault}
use Rattle.cas_object_line.specs.declared.fault.LineFault.TheVariants.{Memory}

-- an answer is this one, or want of memory
abbrev pub IsAnswer : {A : Type 0} → Result A LineFault → Result A LineFault → Type 0
IsAnswer answer wanted = MatchResult answer (λ x. wanted ≡ Ok x) (λ fault. (fault ≡ Memory) ⊎ (wanted ≡ Err fault))
