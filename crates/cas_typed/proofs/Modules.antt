-- Each module is typed in one way, or has one first fault.
use Rattle.std.proofs.Common.{◌≡◌, inl, inr, Result, Ok, Err, refl}
use Rattle.std.specs.Prelude.{◌⊎◌}
use Rattle.cas_syntax.specs.Tree.{ModuleTree}
use Rattle.cas_typed.specs.Faults.{Fault}
use Rattle.cas_typed.specs.Modules.{IsTyped}
use Rattle.cas_typed.specs.Resolved.{TypedModuleTree}
use Rattle.cas_typed.specs.Walk.{walk_module, HasTypeFault}
use Rattle.cas_typed.proofs.Items.{walk_module-typed, IsTyped-walk}

pub typed_or_refused : (m : ModuleTree) → ((r : TypedModuleTree) × IsTyped m r) ⊎ ((f : Fault) × HasTypeFault m f)
typed_or_refused m = test (walk_module m) refl
  where
    test : (o : Result TypedModuleTree Fault) → walk_module m ≡ o → ((r : TypedModuleTree) × IsTyped m r)
        ⊎ ((f : Fault) × HasTypeFault m f)
    test (Ok r) is = inl (r, walk_module-typed m r is)
    test (Err f) is = inr (f, is)

same_answer : (o : Result TypedModuleTree Fault) (r s : TypedModuleTree) → o ≡ Ok r → o ≡ Ok s → r ≡ s
same_answer o r s h k = cc

same_fault : (o : Result TypedModuleTree Fault) (f g : Fault) → o ≡ Err f → o ≡ Err g → f ≡ g
same_fault o f g h k = cc

clash : (o : Result TypedModuleTree Fault) (r : TypedModuleTree) (f : Fault) → o ≡ Ok r → o ≡ Err f → ⊥
clash o r f h k = cc

pub typed_in_one_way : (m : ModuleTree) (r s : TypedModuleTree) → IsTyped m r → IsTyped m s → r ≡ s
typed_in_one_way m r s h k = same_answer (walk_module m) r s (IsTyped-walk m r h) (IsTyped-walk m s k)

pub one_first_fault : (m : ModuleTree) (f g : Fault) → HasTypeFault m f → HasTypeFault m g → f ≡ g
one_first_fault m f g h k = same_fault (walk_module m) f g h k

pub typed_without_fault : (m : ModuleTree) (r : TypedModuleTree) (f : Fault) → IsTyped m r → HasTypeFault m f → ⊥
typed_without_fault m r f h k = clash (walk_module m) r f (IsTyped-walk m r h) k
