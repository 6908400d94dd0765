-- Which function of the resolved modules a function of the code is.
use Rattle.std.proofs.Common.{◌≡◌, ℕ, zero, suc, List, [], ◌∷◌, Option, Some, None, refl, subst}
use Rattle.std.specs.Prelude.{IsSome, slice_get}
use Rattle.cas_step.specs.Well_formed.{IsAt}
use Rattle.cas_typed.specs.Numbered.{IsFunctionOf}
use Rattle.cas_typed.specs.Resolved.{TypedFunTree, TypedModuleTree}
use Rattle.cas_typed.specs.Whole.{AreFunctionsOf}
use Rattle.cas_typed.specs.declared.rows.TypedFun.{TypedFun}
use Rattle.cas_typed.specs.declared.typed.Typed.{Typed}
use Rattle.cas_whole.specs.Bodies.{typed_at}
use Rattle.cas_whole.specs.Whole.{AreTyped}

-- what there is
some_is : {X : Type 0} (o : Option X) → IsSome o → (x : X) × (o ≡ Some x)
some_is None h = absurd (cc h)
some_is (Some x) h = (x, refl)

function_there : (rs : List TypedFunTree) (fs : List TypedFun) (p : ℕ) (f : TypedFun) → AreFunctionsOf rs fs →
    slice_get fs p ≡ Some f → (it : TypedFunTree) × (slice_get rs p ≡ Some it) × IsFunctionOf it f
function_there [] [] p f are is = absurd (cc is)
function_there [] (g ∷ fs) p f are is = absurd are
function_there (r ∷ rs) [] p f are is = absurd are
function_there (r ∷ rs) (g ∷ fs) zero f are is = let same : g ≡ f =
    cc is in (r, refl, subst (IsFunctionOf r) same are.0)
function_there (r ∷ rs) (g ∷ fs) (suc p) f are is = function_there rs fs p f are.1 is

pub typed_there : (ts : List Typed) (ms : List TypedModuleTree) (u p : ℕ) (f : TypedFun) → AreTyped ts ms →
    typed_at ts u p ≡ Some f →
    (m : TypedModuleTree) × (it : TypedFunTree) × (slice_get ms u ≡ Some m) × (slice_get m.functions p ≡ Some it)
    × IsFunctionOf it f
typed_there [] [] u p f are is = absurd (cc is)
typed_there [] (m ∷ ms) u p f are is = absurd are
typed_there (t ∷ ts) [] u p f are is = absurd are
typed_there (t ∷ ts) (m ∷ ms) zero p f are is = let w = function_there m.functions t.functions p f are.0.functions is in
    (m, w.0, refl, w.1, w.2)
typed_there (t ∷ ts) (m ∷ ms) (suc u) p f are is = typed_there ts ms u p f are.1 is

pub is_there : (ts : List Typed) (ms : List TypedModuleTree) (u p : ℕ) → AreTyped ts ms → IsSome (typed_at ts u p) →
    (m : TypedModuleTree) × (it : TypedFunTree) × IsAt ms (record { unit = u; place = p }) m it
is_there ts ms u p are there =
    let w = some_is (typed_at ts u p) there in
    let x = typed_there ts ms u p w.0 are w.1 in
    (x.0, x.1, record { unit_is = x.2; function_is = x.3 })
