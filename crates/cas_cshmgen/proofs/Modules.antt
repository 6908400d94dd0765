-- Modules, item by item.
use Rattle.std.proofs.Common.{arith, ◌≡◌, List, [], ◌∷◌, ◌++◌, length, refl, ap, sym, subst, ◌∙◌, append_assoc, append-nil}
use Rattle.std.specs.Coded.{×_prop, Unit-prop}
use Rattle.std.proofs.Math.Bridge.{le_prop}
use Rattle.std.proofs.Math.Logic.{∥∥₁_elim}
use Rattle.cas_base.specs.declared.decl.Decl.{Decl}
use Rattle.cas_clight.specs.Clight.{ClightFun}
use Rattle.cas_clight.specs.Units.{function_of, functions_in}
use Rattle.cas_mid.specs.declared.tree.CsharpFun.{CsharpFun}
use Rattle.cas_mid.specs.Code.{csharp_routine}
use Rattle.cas_syntax.specs.Tree.{FunTree, ItemTree, global, prototype, define, ModuleTree}
use Rattle.cas_typed.specs.Modules.{AreItems, no_item, a_global, a_prototype, a_function}
use Rattle.cas_typed.specs.Numbered.{IsFunctionOf}
use Rattle.cas_typed.specs.Resolved.{TypedFunTree, TypedModuleTree}
use Rattle.cas_typed.specs.Whole.{AreFunctionsOf, AreTypedAs}
use Rattle.cas_typed.specs.declared.rows.TypedFun.{TypedFun}
use Rattle.cas_cshmgen.specs.Makes.{made_routine}
use Rattle.cas_cshmgen.specs.Made.{IsMadeOf, AreMadeOf, HaveFew, HasNoBody, IsAdded}

-- one more in a vector
pub one_pushed : {A : Type 0} (all new : List A) (g : A) (rest : List A) → new ≡ all ++ g ∷ [] →
    all ++ (g ∷ rest) ≡ new ++ rest
one_pushed all new g rest e = sym (ap (λ xs. xs ++ rest) e ∙ append_assoc all (g ∷ []) rest)

-- no function is left
pub none_in : (ds : List Decl) (items : List ItemTree) → functions_in ds items [] ≡ []
none_in ds [] = refl
none_in ds (global d vs p ∷ items) = none_in ds items
none_in ds (prototype d hs p ∷ items) = none_in ds items
none_in ds (define f ∷ items) = refl

made_more : (fs : List CsharpFun) (gs : List ClightFun) (f : CsharpFun) (g : ClightFun) → AreMadeOf fs gs →
    IsMadeOf f g → AreMadeOf (fs ++ f ∷ []) (gs ++ g ∷ [])
made_more [] [] f g h i = (i, tt)
made_more [] (x ∷ gs) f g h i = absurd h
made_more (x ∷ fs) [] f g h i = absurd h
made_more (x ∷ fs) (y ∷ gs) f g h i = (h.0, made_more fs gs f g h.1 i)

-- an item without a function
pub added_nothing : (ds : List Decl) (a : ItemTree) (rs : List TypedFunTree) (before : List ClightFun)
    (made : List CsharpFun) (left : List TypedFun)
    → ((items : List ItemTree) → functions_in ds (a ∷ items) rs ≡ functions_in ds items rs) → AreFunctionsOf rs left →
    AreMadeOf made before → IsAdded ds a rs before made left
added_nothing ds a rs before made left same are is = record {
  more = [];
  later = rs;
  functions = are;
  is_made = subst (λ gs. AreMadeOf made gs) (sym (append-nil before)) is;
  same = same;
}

-- one without a body
pub no_body : (ds : List Decl) (a : ItemTree) (rs : List TypedFunTree) → HasNoBody a → (items : List ItemTree) →
    functions_in ds (a ∷ items) rs ≡ functions_in ds items rs
no_body ds (global d vs p) rs h items = refl
no_body ds (prototype d hs p) rs h items = refl
no_body ds (define f) rs h items = absurd h

-- a function, of which none is left
pub added_none : (ds : List Decl) (f : FunTree) (rs : List TypedFunTree) (before : List ClightFun)
    (made : List CsharpFun) (left : List TypedFun) → length left ≡ 0 → AreFunctionsOf rs left → AreMadeOf made before →
    IsAdded ds (define f) rs before made left
added_none ds f [] before made [] e are is = added_nothing ds (define f) [] before made []
    (λ items. sym (none_in ds items)) are is
added_none ds f (r ∷ rs) before made [] e are is = absurd are
added_none ds f rs before made (x ∷ left) e are is = absurd (omega (arith, e))

-- a function, which is the first that is left
pub added_one : (ds : List Decl) (f : FunTree) (c : CsharpFun) (fn : TypedFun) (others : List TypedFun)
    (rs : List TypedFunTree) (before : List ClightFun) (all made : List CsharpFun)
    → made ≡ all ++ c ∷ [] → c.decl ≡ f.decl → ((r : TypedFunTree) → IsFunctionOf r fn →
    csharp_routine c ≡ made_routine (function_of ds f r))
    → AreFunctionsOf rs (fn ∷ others) → AreMadeOf all before → IsAdded ds (define f) rs before made others
added_one ds f c fn others [] before all made e d routine are is = absurd are
added_one ds f c fn others (r ∷ rs) before all made e d routine are is = record {
  more = function_of ds f r ∷ [];
  later = rs;
  functions = are.1;
  is_made = subst (λ fs. AreMadeOf fs (before ++ function_of ds f r ∷ [])) (sym e)
      (made_more all before c (function_of ds f r) is (record { decl = d; routine = routine r are.0 }));
  same = λ items. refl;
}

-- what is made of the functions so far, with those that are left
pub record IsBuilt (ds : List Decl) (items rest : List ItemTree) (rs : List TypedFunTree) (made : List CsharpFun)
    (left : List TypedFun) : Type 0 where
  pub before : List ClightFun
  pub later : List TypedFunTree
  pub functions : AreFunctionsOf later left
  pub is_made : AreMadeOf made before
  pub same : functions_in ds items rs ≡ before ++ functions_in ds rest later

pub built_first : (ds : List Decl) (items : List ItemTree) (rs : List TypedFunTree) (left : List TypedFun) →
    AreFunctionsOf rs left → IsBuilt ds items items rs [] left
built_first ds items rs left are = record { before = []; later = rs; functions = are; is_made = tt; same = refl }

pub built_on : (ds : List Decl) (items : List ItemTree) (a : ItemTree) (rest : List ItemTree) (rs : List TypedFunTree)
    (made new : List CsharpFun) (left now : List TypedFun)
    → (b : IsBuilt ds items (a ∷ rest) rs made left) → IsAdded ds a b.later b.before new now →
    IsBuilt ds items rest rs new now
built_on ds items a rest rs made new left now b h = record {
  before = b.before ++ h.more;
  later = h.later;
  functions = h.functions;
  is_made = h.is_made;
  same = b.same ∙ ap (λ gs. b.before ++ gs) (h.same rest)
      ∙ sym (append_assoc b.before h.more (functions_in ds rest h.later));
}

pub built_all : (ds : List Decl) (items : List ItemTree) (rs : List TypedFunTree) (made : List CsharpFun)
    (left : List TypedFun) → IsBuilt ds items [] rs made left → AreMadeOf made (functions_in ds items rs)
built_all ds items rs made left b = subst (λ gs. AreMadeOf made gs) (sym (b.same ∙ append-nil b.before)) b.is_made

-- typed modules have few parameters

few_items : (before : List Decl) (items : List ItemTree) (rs : List TypedFunTree) → AreItems before items rs →
    HaveFew items
few_items before items rs (no_item b) = tt
few_items before items rs (a_global b d vs p rest more is h) = (tt, few_items _ rest more h)
few_items before items rs (a_prototype b d hs p rest more is h) = (tt, few_items _ rest more h)
few_items before items rs (a_function b f rest r more is so h) = (is.parameters, few_items _ rest more h)

few_prop : (items : List ItemTree) → IsProp (HaveFew items)
few_prop [] = Unit-prop
few_prop (global d vs p ∷ items) = ×_prop Unit-prop (few_prop items)
few_prop (prototype d hs p ∷ items) = ×_prop Unit-prop (few_prop items)
few_prop (define f ∷ items) = ×_prop le_prop (few_prop items)

pub typed_few : (m : ModuleTree) (fs : List TypedFun) → ∥ ((r : TypedModuleTree) × AreTypedAs m fs r) ∥₁ →
    HaveFew m.items
typed_few m fs typed = ∥∥₁_elim typed (few_prop m.items)
    (λ (w : (r : TypedModuleTree) × AreTypedAs m fs r). one_few w.0 w.1)
  where
    one_few : (r : TypedModuleTree) → AreTypedAs m fs r → HaveFew m.items
    one_few r is = subst (λ (t : ModuleTree). HaveFew t.items) is.module_tree
        (few_items [] r.module_tree.items r.functions is.typed.functions)
