use Rattle.std.proofs.Common.{◌≡◌, map, take}
use Rattle.cas_base.specs.Ty.{words_of_ty}
use Rattle.cas_cshmgen.proofs.function.sizes.Given as goal

abbrev pub invariant-loop-local : goal.invariant-loop-local
invariant-loop-local l = l.sizes.items ≡ map words_of_ty (map (λ v. v.ty) (take l.local-index l.locals))
