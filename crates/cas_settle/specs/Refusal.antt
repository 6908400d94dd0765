-- Which refusals are answered.
use Rattle.std.specs.Prelude.{◌≡◌, ◌≢◌, Option, Some, None, Result, MatchResult}
use Rattle.cas_settle.specs.declared.link.LinkFault.{LinkFault}
use Rattle.cas_settle.specs.declared.link.LinkFault.TheVariants.{Memory}

-- but for want of memory, the call is refused exactly by this fault, and done exactly where there is none
abbrev pub IsRefusedBy : {T : Type 0} → Result T LinkFault → Option LinkFault → Type 0
IsRefusedBy result fault = MatchResult result (λ _. fault ≡ None) (λ given. given ≢ Memory → fault ≡ Some given)
