use Rattle.std.proofs.Common.{◌≡◌}
use Rattle.cas_mid.specs.Code.{csharp_list}
use Rattle.cas_cshmgen.specs.Makes.{Csharps, stored_arguments}
use Rattle.cas_cshmgen.proofs.function.store_arguments.Given as goal

abbrev pub invariant-loop-k : goal.invariant-loop-k
invariant-loop-k l = (rest : Csharps) → csharp_list l.all.items rest ≡ stored_arguments 0 l.k rest
