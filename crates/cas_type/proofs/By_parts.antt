-- What is found by parts.
use Rattle.std.proofs.Common.{◌≡◌, false, Option, Some, Result, Err, refl, ap}
use Rattle.cas_type.specs.Answer.{Refuses, Fails}
use Rattle.cas_type.specs.declared.fault.TypeFault.{TypeFault}
use Rattle.cas_type.specs.declared.fault.TypeFault.TheVariants.{Memory, At, Limit}
use Rattle.cas_typed.specs.Faults.{Fault, sooner, unless, then_}
use Rattle.cas_syntax.specs.Tree.{TargetTree, to_name, to_index, to_deref}
use Rattle.cas_typed.specs.Types.{is_null}
use Rattle.cas_typed.specs.Typing.{cell_of}
use Rattle.cas_base.specs.declared.kind.Ty.TheVariants.{Void, Int, Ptr, Array}
use Rattle.cas_typed.specs.Resolving.{Found, unfit, fits, element_behind, pointer_to_element, cell_behind}

pub element_behind_is : (a b : Found) → cell_behind (pointer_to_element a b) ≡ element_behind a b
element_behind_is (fits p (Ptr k)) (fits e (Int j)) = refl
element_behind_is (fits p (Ptr k)) (fits e (Ptr j)) = refl
element_behind_is (fits p (Ptr k)) (fits e (Array j n)) = refl
element_behind_is (fits p (Ptr k)) (fits e Void) = refl
element_behind_is (fits p (Ptr k)) unfit = refl
element_behind_is (fits p (Int k)) b = refl
element_behind_is (fits p (Array k n)) b = refl
element_behind_is (fits p Void) b = refl
element_behind_is unfit b = refl

-- a sooner fault that is answered is the first
pub refuses_sooner : (e : TypeFault) (f g : Option Fault) → Refuses e f → Refuses e (sooner f g)
refuses_sooner Memory f g h = tt
refuses_sooner (At code place name) f g h = ap (λ o. sooner o g) h
refuses_sooner (Limit place what n) f g h = ap (λ o. sooner o g) h

-- a fault that is answered comes before what is next
pub fails_unless : {B : Type 0} (e : TypeFault) (f : Option Fault) (next : Result B Fault) → Refuses e f →
    Fails e (unless f next)
fails_unless Memory f next h = tt
fails_unless (At code place name) f next h = ap (λ o. unless o next) h
fails_unless (Limit place what n) f next h = ap (λ o. unless o next) h

-- a walk's fault that is answered comes before what is next
pub fails_then : {A B : Type 0} (e : TypeFault) (walked : Result A Fault) (next : A → Result B Fault) → Fails e walked →
    Fails e (then_ walked next)
fails_then Memory walked next h = tt
fails_then (At code place name) walked next h = ap (λ o. then_ o next) h
fails_then (Limit place what n) walked next h = ap (λ o. then_ o next) h

-- a fault that is answered is what is found
pub fails_here : (B : Type 0) (e : TypeFault) (f : Fault) → Refuses e (Some f) → Fails {B = B} e (Err f)
fails_here B Memory f h = tt
fails_here B (At code place name) f h = ap (λ o. unless o (Err f)) h
fails_here B (Limit place what n) f h = ap (λ o. unless o (Err f)) h

-- a cell is no literal
pub cell_is_not_null : (target : TargetTree) → is_null (cell_of target) ≡ false
cell_is_not_null (to_name x) = refl
cell_is_not_null (to_index x a) = refl
cell_is_not_null (to_deref a) = refl
