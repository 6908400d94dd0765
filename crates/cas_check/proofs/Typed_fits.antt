-- A typed module's functions fit, and their faults are its own.
use Rattle.std.proofs.Common.{◌≡◌, List, [], ◌∷◌, map, Result, ap, sym, subst, ◌∙◌}
use Rattle.std.specs.Prelude.{⊤}
use Rattle.std.specs.Coded.{×_prop, Unit-prop}
use Rattle.std.specs.List.{All, AllByRecursion}
use Rattle.std.proofs.Math.Logic.{∥∥₁_elim, ∥∥₁_prop}
use Rattle.std.proofs.lemmas.List.Elements.{recursion_from_All}
use Rattle.cas_base.specs.declared.decl.Decl.{Decl}
use Rattle.cas_own.specs.Checked.{items_fault, own_fault}
use Rattle.cas_check.specs.Fits.{Answers, FunctionsFit}
use Rattle.cas_own.specs.declared.fault.OwnFault.{OwnFault}
use Rattle.cas_syntax.specs.Tree.{ModuleTree}
use Rattle.cas_typed.proofs.Sorted.{IsTyped-sorted}
use Rattle.cas_typed.specs.Modules.{decl_of}
use Rattle.cas_typed.specs.Resolved.{TypedFunTree, TypedModuleTree}
use Rattle.cas_typed.specs.Sorts.{IsSortedFunction}
use Rattle.cas_typed.specs.Whole.{AreFunctionsOf, AreTypedAs}
use Rattle.cas_typed.specs.declared.rows.TypedFun.{TypedFun}

fit_prop : (ds : List Decl) (fs : List TypedFun) → IsProp (FunctionsFit ds fs)
fit_prop ds [] = Unit-prop
fit_prop ds (f ∷ fs) = ×_prop ∥∥₁_prop (fit_prop ds fs)

each_fits : (ds : List Decl) (rs : List TypedFunTree) (fs : List TypedFun) → AreFunctionsOf rs fs →
    AllByRecursion (IsSortedFunction ds) rs → FunctionsFit ds fs
each_fits ds [] [] are sorted = tt
each_fits ds (r ∷ rs) (f ∷ fs) are sorted = (∣ (r, are.0, sorted.0) ∣₁, each_fits ds rs fs are.1 sorted.1)
each_fits ds [] (f ∷ fs) are sorted = absurd are
each_fits ds (r ∷ rs) [] are sorted = absurd are

one_fits : (ds : List Decl) (m : ModuleTree) (fs : List TypedFun) (r : TypedModuleTree) → ds ≡ map decl_of m.items →
    AreTypedAs m fs r → FunctionsFit ds fs
one_fits ds m fs r is typed =
    let same : map decl_of r.module_tree.items ≡ ds = ap (λ (t : ModuleTree). map decl_of t.items) typed.module_tree
    ∙ sym is in
    each_fits ds r.functions fs typed.functions
    (recursion_from_All (IsSortedFunction ds) r.functions
    (subst (λ (all : List Decl). All (IsSortedFunction all) r.functions) same
    (IsTyped-sorted r.module_tree r typed.typed)))

-- the functions of a typed module fit
pub typed_fit : (ds : List Decl) (m : ModuleTree) (fs : List TypedFun) → ds ≡ map decl_of m.items →
    ∥ ((r : TypedModuleTree) × AreTypedAs m fs r) ∥₁ → FunctionsFit ds fs
typed_fit ds m fs is typed = ∥∥₁_elim typed (fit_prop ds fs)
    (λ (w : (r : TypedModuleTree) × AreTypedAs m fs r). one_fits ds m fs w.0 is w.1)

-- the faults of its items are the module's
pub typed_answers : (ds : List Decl) (m : ModuleTree) (fs : List TypedFun) (r : TypedModuleTree)
    (result : Result ⊤ OwnFault) → ds ≡ map decl_of m.items → AreTypedAs m fs r
    → Answers result (items_fault ds [] m.items r.functions) → Answers result (own_fault r)
typed_answers ds m fs r result is typed answers =
    subst (Answers result)
    (ap (λ (all : List Decl). items_fault all [] m.items r.functions) is
    ∙ sym (ap (λ (t : ModuleTree). items_fault (map decl_of t.items) [] t.items r.functions) typed.module_tree)) answers
