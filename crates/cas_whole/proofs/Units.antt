-- The declarations of modules of the code are those of the resolved modules that they are.
use Rattle.std.proofs.Common.{◌≡◌, ℕ, zero, suc, ◌<◌, ◌≤◌, ◌^◌, List, [], ◌∷◌, ◌++◌, length, map, Some, refl, sym, ap, subst, ◌∙◌, arith, append_assoc}
use Rattle.std.specs.Prelude.{slice_get}
use Rattle.std.proofs.Math.Logic.{∥∥₁_elim, ∥∥₁_map, ∥∥₁_prop}
use native.Mathlib.Bridge.{le_prop}
use Rattle.std.proofs.lemmas.Simd.{map-map}
use Rattle.std.proofs.lemmas.List.{append-nil}
use Rattle.cas_base.specs.Decl.{functions_of}
use Rattle.cas_base.specs.declared.decl.Decl.{Decl}
use Rattle.cas_syntax.specs.Tree.{ItemTree, item_tree}
use Rattle.cas_typed.specs.Counts.{function_count, most_functions}
use Rattle.cas_typed.specs.Modules.{AreItems, decl_of, decls_of}
use Rattle.cas_typed.specs.Resolved.{TypedFunTree, TypedModuleTree}
use Rattle.cas_typed.specs.Typed_as.{IsTypedAs}
use Rattle.cas_typed.specs.declared.typed.Typed.{Typed}
use Rattle.cas_typed.proofs.Typed_once.{typed_once}
use Rattle.cas_program.specs.Program.{units_of}
use Rattle.cas_whole.specs.Names.{decls_in, units_in, HaveFewFunctions}
use Rattle.cas_whole.specs.Whole.{AreTyped}

-- one module

pub typed_decls : (t : Typed) (m : TypedModuleTree) → IsTypedAs t m → decls_of m ≡ decls_in t
typed_decls t m is = ap (λ tree. map decl_of tree.items) is.module_tree ∙ map-map decl_of item_tree t.filled.items

-- the functions that items define after these declarations are few
few_items : {before : List Decl} {items : List ItemTree} {rs : List TypedFunTree} → AreItems before items rs →
    function_count before ≤ most_functions → function_count (before ++ map decl_of items) ≤ most_functions
few_items (AreItems.no_item before) few = subst (λ ds. function_count ds ≤ most_functions) (sym (append-nil before)) few
few_items (AreItems.a_global before d vs p rest rs is more) few =
    subst (λ ds. function_count ds ≤ most_functions) (append_assoc before (d ∷ []) (map decl_of rest))
    (few_items more is.functions)
few_items (AreItems.a_prototype before d hs p rest rs is more) few =
    subst (λ ds. function_count ds ≤ most_functions) (append_assoc before (d ∷ []) (map decl_of rest))
    (few_items more is.functions)
few_items (AreItems.a_function before f rest r rs is one more) few =
    subst (λ ds. function_count ds ≤ most_functions) (append_assoc before (f.decl ∷ []) (map decl_of rest))
    (few_items more is.functions)

few_declared : (m : TypedModuleTree) → AreItems [] m.module_tree.items m.functions →
    length (functions_of (decls_of m)) ≤ most_functions
few_declared m are = few_items are (omega arith)

pub typed_few : (t : Typed) (m : TypedModuleTree) → IsTypedAs t m → length (functions_of (decls_in t)) < 2 ^ 32
typed_few t m is =
    let few = few_declared m is.typed.functions in
    subst (λ ds. length (functions_of ds) < 2 ^ 32) (typed_decls t m is) (omega (arith, few))

-- modules

pub typed_units : (ts : List Typed) (ms : List TypedModuleTree) → AreTyped ts ms → units_of ms ≡ units_in ts
typed_units [] [] are = refl
typed_units [] (m ∷ ms) are = absurd are
typed_units (t ∷ ts) [] are = absurd are
typed_units (t ∷ ts) (m ∷ ms) are = λ i. typed_decls t m are.0 i ∷ typed_units ts ms are.1 i

pub typed_count : (ts : List Typed) (ms : List TypedModuleTree) → AreTyped ts ms → length ts ≡ length ms
typed_count [] [] are = refl
typed_count [] (m ∷ ms) are = absurd are
typed_count (t ∷ ts) [] are = absurd are
typed_count (t ∷ ts) (m ∷ ms) are = ap suc (typed_count ts ms are.1)

pub typed_one : (ts : List Typed) (ms others : List TypedModuleTree) → AreTyped ts ms → AreTyped ts others → ms ≡ others
typed_one [] [] [] are also = refl
typed_one [] [] (o ∷ others) are also = absurd also
typed_one [] (m ∷ ms) others are also = absurd are
typed_one (t ∷ ts) [] others are also = absurd are
typed_one (t ∷ ts) (m ∷ ms) [] are also = absurd also
typed_one (t ∷ ts) (m ∷ ms) (o ∷ others) are also = λ i. typed_once t m o are.0 also.0 i ∷ typed_one ts ms others are.1
    also.1 i

-- a module of the code is a resolved one, and the other way round

pub module_at : (ts : List Typed) (ms : List TypedModuleTree) (n : ℕ) (t : Typed) → AreTyped ts ms →
    slice_get ts n ≡ Some t → (m : TypedModuleTree) × (slice_get ms n ≡ Some m) × IsTypedAs t m
module_at [] ms n t are is = absurd (cc is)
module_at (t ∷ ts) [] n x are is = absurd are
module_at (t ∷ ts) (m ∷ ms) zero x are is = let same : t ≡ x = cc is in (m, refl, subst (λ t. IsTypedAs t m) same are.0)
module_at (t ∷ ts) (m ∷ ms) (suc n) x are is = module_at ts ms n x are.1 is

pub resolved_at : (ts : List Typed) (ms : List TypedModuleTree) (n : ℕ) (m : TypedModuleTree) → AreTyped ts ms →
    slice_get ms n ≡ Some m → (t : Typed) × (slice_get ts n ≡ Some t) × IsTypedAs t m
resolved_at ts [] n m are is = absurd (cc is)
resolved_at [] (m ∷ ms) n x are is = absurd are
resolved_at (t ∷ ts) (m ∷ ms) zero x are is = let same : m ≡ x =
    cc is in (t, refl, subst (λ m. IsTypedAs t m) same are.0)
resolved_at (t ∷ ts) (m ∷ ms) (suc n) x are is = resolved_at ts ms n x are.1 is

-- there are always resolved modules

with_more : (t : Typed) (ts : List Typed) → (m : TypedModuleTree) × IsTypedAs t m →
    ∥ ((ms : List TypedModuleTree) × AreTyped ts ms) ∥₁ → ∥ ((ms : List TypedModuleTree) × AreTyped (t ∷ ts) ms) ∥₁
with_more t ts one more = ∥∥₁_map more (λ all. (one.0 ∷ all.0, (one.1, all.1)))

pub typed_there : (ts : List Typed) → ∥ ((ms : List TypedModuleTree) × AreTyped ts ms) ∥₁
typed_there [] = ∣ ([], tt) ∣₁
typed_there (t ∷ ts) = ∥∥₁_elim t.typed ∥∥₁_prop (λ one. with_more t ts one (typed_there ts))

pub few_functions : (ts : List Typed) → HaveFewFunctions (units_in ts)
few_functions [] = tt
few_functions (t ∷ ts) = (∥∥₁_elim t.typed le_prop (λ one. typed_few t one.0 one.1), few_functions ts)
