-- A number above 64 bits is no array's length, and so is the largest of 64 bits.
use Rattle.std.proofs.Common.{◌≡◌, ℕ, arith}
use Rattle.std.proofs.lemmas.Bool.Decides.{nat_tests}
use Rattle.cas_base.specs.declared.kind.Kind.{Kind}
use Rattle.cas_pieces.specs.Numbers.{capped}
use Rattle.cas_object_decl.specs.Types.{small_array}

pub small_array_capped : (kind : Kind) (n : ℕ) → small_array kind (capped n) ≡ small_array kind n
small_array_capped kind n = grind (arith, nat_tests)
