-- The derived `==` of types is the test of the definitions.
use Rattle.std.proofs.Common.{◌≡◌, Bool, ◌&&◌, List, [], ◌∷◌, refl, rules}
use Rattle.std.specs.Cmp.Lexicographic.{pointwise}
use Rattle.cas_base.specs.declared.kind.Kind.{Kind}
use Rattle.cas_base.specs.declared.kind.Ty.{Ty}
use Rattle.cas_base.specs.contracts.kind.TyPartialEq.TheImpl.{eq-value as ty}
use Rattle.cas_base.specs.contracts.kind.KindPartialEq.TheImpl.{eq-value as kind}
use Rattle.cas_base.specs.Ty.{same_kind, same_ty}

-- two tests that agree at each two elements agree on lists
pub pointwise_congr : {X : Type 0} (E F : X → X → Bool) → ((x y : X) → E x y ≡ F x y) → (xs ys : List X) →
    pointwise E xs ys ≡ pointwise F xs ys
pointwise_congr E F same [] [] = refl
pointwise_congr E F same [] (y ∷ ys) = refl
pointwise_congr E F same (x ∷ xs) [] = refl
pointwise_congr E F same (x ∷ xs) (y ∷ ys) = λ i. same x y i && pointwise_congr E F same xs ys i

pub kind-same : (k j : Kind) → kind.it k j ≡ same_kind k j
kind-same k j = search rules

pub ty-same : (t u : Ty) → ty.it t u ≡ same_ty t u
ty-same t u = search rules
