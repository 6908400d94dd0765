-- A typed module with its values filled up is typed too, and filled up already.
use Rattle.std.proofs.Common.{◌≡◌, ◌≤◌, ℕ, zero, suc, ◌+◌, ◌-◌, Bool, true, false, if◌then◌else◌, List, [], ◌∷◌, ◌++◌, length, map, replicate, Some, refl, sym, ap, subst, ◌∙◌, arith, length-append}
use Rattle.std.specs.Prelude.{slice_get}
use Rattle.std.proofs.lemmas.List.{length-replicate, append-nil}
use Rattle.cas_base.specs.declared.decl.Decl.{Decl}
use Rattle.cas_base.specs.declared.place.Place.{Place}
use Rattle.cas_syntax.specs.Tree.{ItemTree, global, prototype, define, ModuleTree}
use Rattle.cas_typed.specs.Formed.{IsFilled}
use Rattle.cas_typed.specs.Modules.{elements_of, IsItem, AreItems, no_item, a_global, a_prototype, a_function, filled, filled_item, filled_module, IsTyped}
use Rattle.cas_typed.specs.Resolved.{TypedFunTree, TypedModuleTree}
use Rattle.cas_typed.specs.Types.{variable_type}

-- values filled up to so many, where they are to be
abbrev filled_to : Bool → ℕ → List ℕ → List ℕ
filled_to c n vs = if c then vs ++ replicate (n - length vs) 0 else vs

many : (n : ℕ) (vs : List ℕ) → length (vs ++ replicate (n - length vs) 0) ≡ length vs + (n - length vs)
many n vs = length-append vs (replicate (n - length vs) 0)
    ∙ ap (λ k. length vs + k) (length-replicate (n - length vs) 0)

fit : (c : Bool) (n : ℕ) (vs : List ℕ) → length vs ≤ n → length (filled_to c n vs) ≤ n
fit true n vs h = let e : length (vs ++ replicate (n - length vs) 0) ≡ length vs + (n - length vs) =
    many n vs in omega arith
fit false n vs h = h

none_left : (n : ℕ) (vs : List ℕ) → n - length (vs ++ replicate (n - length vs) 0) ≡ 0
none_left n vs = let e : length (vs ++ replicate (n - length vs) 0) ≡ length vs + (n - length vs) =
    many n vs in omega arith

twice : (c : Bool) (n : ℕ) (vs : List ℕ) → filled_to c n (filled_to c n vs) ≡ filled_to c n vs
twice true n vs = ap (λ k. (vs ++ replicate (n - length vs) 0) ++ replicate k 0) (none_left n vs)
    ∙ append-nil (vs ++ replicate (n - length vs) 0)
twice false n vs = refl

item_twice : (a : ItemTree) → filled_item (filled_item a) ≡ filled_item a
item_twice (global d vs p) = ap (λ ws. global d ws p) (twice d.defined (elements_of (variable_type d.form)) vs)
item_twice (prototype d hs p) = refl
item_twice (define f) = refl

items_twice : (items : List ItemTree) → map filled_item (map filled_item items) ≡ map filled_item items
items_twice [] = refl
items_twice (a ∷ items) = λ i. item_twice a i ∷ items_twice items i

module_twice : (m : ModuleTree) → filled_module (filled_module m) ≡ filled_module m
module_twice m = λ i. record { items = items_twice m.items i }

good_filled : (before : List Decl) (d : Decl) (vs : List ℕ) (p : Place) → IsItem before (global d vs p) →
    IsItem before (global d (filled d vs) p)
good_filled before d vs p h = record {
  locks = h.locks;
  held_once = h.held_once;
  parameters_once = h.parameters_once;
  defined_once = h.defined_once;
  agrees = h.agrees;
  not_empty = h.not_empty;
  values = fit d.defined (elements_of (variable_type d.form)) vs h.values;
  parameters = h.parameters;
  functions = h.functions;
  words = h.words;
}

items_filled : {before : List Decl} {items : List ItemTree} {rs : List TypedFunTree} → AreItems before items rs →
    AreItems before (map filled_item items) rs
items_filled (no_item before) = no_item before
items_filled (a_global before d vs p rest rs h hs) = a_global before d (filled d vs) p (map filled_item rest) rs
    (good_filled before d vs p h) (items_filled hs)
items_filled (a_prototype before d ps p rest rs h hs) =
    a_prototype before d ps p (map filled_item rest) rs h (items_filled hs)
items_filled (a_function before f rest r rs h hr hs) =
    a_function before f (map filled_item rest) r rs h hr (items_filled hs)

pub IsTyped-filled : (m : ModuleTree) (r : TypedModuleTree) → IsTyped m r → IsTyped r.module_tree r
IsTyped-filled m r h = record {
  module_tree = h.module_tree ∙ sym (module_twice m) ∙ ap filled_module (sym h.module_tree);
  functions = subst (λ (w : ModuleTree). AreItems [] w.items r.functions) (sym h.module_tree)
      (items_filled h.functions);
}

-- as many values as elements

enough : (d : Decl) (vs : List ℕ) → length vs ≤ elements_of (variable_type d.form) → d.defined ≡ true →
    length (filled d vs) ≡ elements_of (variable_type d.form)
enough d vs h defined = by_test d.defined defined
  where
    n : ℕ
    n = elements_of (variable_type d.form)

    by_test : (c : Bool) → c ≡ true → length (filled_to c n vs) ≡ n
    by_test true e = let sum : length (vs ++ replicate (n - length vs) 0) ≡ length vs + (n - length vs) =
        many n vs in omega arith
    by_test false e = cc

-- the variable with this number
abbrev Enough : List ItemTree → Type 0
Enough items = (n : ℕ) (d : Decl) (vs : List ℕ) (p : Place) → slice_get items n ≡ Some (global d vs p) →
    d.defined ≡ true → length vs ≡ elements_of (variable_type d.form)

no_global : (a : ItemTree) (items : List ItemTree) → ((d : Decl) (vs : List ℕ) (p : Place) → a ≡ global d vs p → ⊥) →
    Enough items → Enough (a ∷ items)
no_global a items none others zero d vs p is defined = absurd (none d vs p (cc))
no_global a items none others (suc n) d vs p is defined = others n d vs p is defined

one_global : (e : Decl) (us : List ℕ) (q : Place) (items : List ItemTree) →
    length us ≤ elements_of (variable_type e.form) → Enough items → Enough (global e (filled e us) q ∷ items)
one_global e us q items h others zero d vs p is defined = same (cc) (cc) defined
  where
    same : e ≡ d → filled e us ≡ vs → d.defined ≡ true → length vs ≡ elements_of (variable_type d.form)
    same i j defined = subst (λ ws. length ws ≡ elements_of (variable_type d.form)) j
        (subst (λ x. length (filled e us) ≡ elements_of (variable_type x.form)) i
        (enough e us h (ap (λ x. x.defined) i ∙ defined)))
one_global e us q items h others (suc n) d vs p is defined = others n d vs p is defined

no_items : Enough []
no_items n d vs p is defined = cc

items_enough : {before : List Decl} {items : List ItemTree} {rs : List TypedFunTree} → AreItems before items rs →
    Enough (map filled_item items)
items_enough (no_item before) = no_items
items_enough (a_global before d vs p rest rs h hs) = one_global d vs p (map filled_item rest) h.values (items_enough hs)
items_enough (a_prototype before d ps p rest rs h hs) =
    no_global (prototype d ps p) (map filled_item rest) (λ e us q is. cc) (items_enough hs)
items_enough (a_function before f rest r rs h hr hs) =
    no_global (define f) (map filled_item rest) (λ e us q is. cc) (items_enough hs)

pub IsTyped-enough : (m : ModuleTree) (r : TypedModuleTree) → IsTyped m r → IsFilled r.module_tree
IsTyped-enough m r h = subst IsFilled (sym h.module_tree) (items_enough h.functions)
