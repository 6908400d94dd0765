-- The resolved modules that checked modules are have no fault of ownership.
use Rattle.std.proofs.Common.{◌≡◌, List, [], ◌∷◌, Option, Some, None, refl, subst}
use Rattle.std.proofs.Math.Logic.{∥∥₁_elim, ∥∥₁_map}
use Rattle.std.proofs.lemmas.List.Elements.{All-from_recursion}
use Rattle.std.specs.List.{AllByRecursion}
use Rattle.std.specs.Prelude.{All}
use mathlib.Core.HLevel.{⊥_prop}
use Rattle.cas_own.specs.Checked.{IsChecked, own_fault}
use Rattle.cas_own.specs.declared.checked.Checked.{Checked}
use Rattle.cas_turn.specs.Joined.{typed_of}
use Rattle.cas_typed.specs.Resolved.{TypedModuleTree}
use Rattle.cas_typed.specs.Typed_as.{IsTypedAs}
use Rattle.cas_typed.specs.declared.typed.Typed.{Typed}
use Rattle.cas_whole.specs.Whole.{AreTyped}

none_from : {A : Type 0} (o : Option A) → ∥ o ≡ None ∥₁ → o ≡ None
none_from None h = refl
none_from (Some x) h = absurd (∥∥₁_elim h ⊥_prop (λ e. cc e))

module _ (one : (typed : Typed) (r s : TypedModuleTree) → IsTypedAs typed r → IsTypedAs typed s → r ≡ s) where
  is_checked : (c : Checked) (m : TypedModuleTree) → IsTypedAs c.typed m → IsChecked m
  is_checked c m is = none_from (own_fault m) (∥∥₁_map c.checked (λ r. subst IsChecked (one c.typed r.0 m r.1 is) r.2))

  each_checked : (cs : List Checked) (ms : List TypedModuleTree) → AreTyped (typed_of cs) ms →
      AllByRecursion IsChecked ms
  each_checked [] [] are = tt
  each_checked [] (m ∷ ms) are = absurd are
  each_checked (c ∷ cs) [] are = absurd are
  each_checked (c ∷ cs) (m ∷ ms) are = (is_checked c m are.0, each_checked cs ms are.1)

  pub all_checked : (cs : List Checked) (ts : List Typed) (ms : List TypedModuleTree) → ts ≡ typed_of cs →
      AreTyped ts ms → All IsChecked ms
  all_checked cs ts ms is are = All-from_recursion IsChecked ms
      (each_checked cs ms (subst (λ xs. AreTyped xs ms) is are))
