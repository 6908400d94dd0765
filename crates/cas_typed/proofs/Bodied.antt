-- Typed modules have one function for each body.
use Rattle.std.proofs.Common.{◌≡◌, ℕ, zero, suc, List, [], ◌∷◌, ◌++◌, length, map, Some, refl, sym, ap, subst, ◌∙◌, arith, append_assoc, length-append}
use Rattle.std.specs.Prelude.{slice_get}
use Rattle.cas_base.specs.declared.decl.Decl.{Decl}
use Rattle.cas_syntax.specs.Tree.{FunTree, ItemTree, global, prototype, define, ModuleTree}
use Rattle.cas_typed.specs.Bodies.{bodies_of, IsOf, HasBodies}
use Rattle.cas_typed.specs.Counts.{local_types}
use Rattle.cas_typed.specs.Modules.{decl_of, IsFunction, AreItems, no_item, a_global, a_prototype, a_function, filled_item, IsTyped}
use Rattle.cas_typed.specs.Resolved.{TypedFunTree, TypedModuleTree}
use Rattle.cas_typed.proofs.Sorted.{types_of_locals}
use Rattle.cas_typed.proofs.Sorted_scopes.{behind_front}

-- the function with this number is that of the body with this number
abbrev Each : List ItemTree → List FunTree → List TypedFunTree → Type 0
Each all fs its = (n : ℕ) (it : TypedFunTree) → slice_get its n ≡ Some it → (f : FunTree) × (slice_get fs n ≡ Some f)
    × IsOf all f it

no_function : (all : List ItemTree) → Each all [] []
no_function all n it h = cc

one_more : (all : List ItemTree) (f : FunTree) (fs : List FunTree) (it : TypedFunTree) (its : List TypedFunTree) →
    IsOf all f it → Each all fs its → Each all (f ∷ fs) (it ∷ its)
one_more all f fs it its is others zero found h = (f, refl, subst (IsOf all f) (cc) is)
one_more all f fs it its is others (suc n) found h = others n found h

-- items in front of others, whose declarations are these
pub record Follow (all : List ItemTree) (before : List Decl) (items : List ItemTree) : Type 0 where
  pub front : List ItemTree
  pub size : length front ≡ length before
  pub whole : all ≡ front ++ items

next : (all : List ItemTree) (before : List Decl) (a : ItemTree) (items : List ItemTree) →
    Follow all before (a ∷ items) → Follow all (before ++ decl_of a ∷ []) items
next all before a items h = record {
  front = h.front ++ a ∷ [];
  size = grown h.front before h.size;
  whole = h.whole ∙ sym (append_assoc h.front (a ∷ []) items);
}
  where
    grown : (xs : List ItemTree) (ds : List Decl) → length xs ≡ length ds →
        length (xs ++ a ∷ []) ≡ length (ds ++ decl_of a ∷ [])
    grown xs ds e = omega (arith, length-append xs (a ∷ []), length-append ds (decl_of a ∷ []))

function_of : (all : List ItemTree) (before : List Decl) (f : FunTree) (rest : List ItemTree) (it : TypedFunTree) →
    Follow all before (define f ∷ rest) → IsFunction before f it → IsOf all f it
function_of all before f rest it at h = record {
  item = (λ i. slice_get (at.whole i) ((h.item ∙ sym at.size) i)) ∙ behind_front at.front rest (define f);
  locals = ap (λ ls. map (λ v. v.ty) ls) h.locals ∙ types_of_locals it.body 0 0 (local_types f);
}

items_each : (all : List ItemTree) {before : List Decl} {items : List ItemTree} {its : List TypedFunTree} →
    Follow all before items → AreItems before items its → Each all (bodies_of items) its
items_each all at (no_item before) = no_function all
items_each all at (a_global before d vs p rest its h hs) = items_each all (next all before (global d vs p) rest at) hs
items_each all at (a_prototype before d ps p rest its h hs) =
    items_each all (next all before (prototype d ps p) rest at) hs
items_each all at (a_function before f rest it its h is hs) =
    one_more all f (bodies_of rest) it its (function_of all before f rest it at is)
    (items_each all (next all before (define f) rest at) hs)

items_count : {before : List Decl} {items : List ItemTree} {its : List TypedFunTree} → AreItems before items its →
    length its ≡ length (bodies_of items)
items_count (no_item before) = refl
items_count (a_global before d vs p rest its h hs) = items_count hs
items_count (a_prototype before d ps p rest its h hs) = items_count hs
items_count (a_function before f rest it its h is hs) = ap suc (items_count hs)

-- the values of globals aren't looked at

same_bodies : (items : List ItemTree) → bodies_of (map filled_item items) ≡ bodies_of items
same_bodies [] = refl
same_bodies (global d vs p ∷ items) = same_bodies items
same_bodies (prototype d hs p ∷ items) = same_bodies items
same_bodies (define f ∷ items) = ap (λ fs. f ∷ fs) (same_bodies items)

same_item : (items : List ItemTree) (n : ℕ) (f : FunTree) → slice_get items n ≡ Some (define f) →
    slice_get (map filled_item items) n ≡ Some (define f)
same_item [] n f h = cc
same_item (global d vs p ∷ items) zero f h = cc
same_item (prototype d hs p ∷ items) zero f h = cc
same_item (define g ∷ items) zero f h = h
same_item (a ∷ items) (suc n) f h = same_item items n f h

filled_each : (items : List ItemTree) (its : List TypedFunTree) → Each items (bodies_of items) its →
    Each (map filled_item items) (bodies_of (map filled_item items)) its
filled_each items its each n it h = again (each n it h)
  where
    again : (f : FunTree) × (slice_get (bodies_of items) n ≡ Some f) × IsOf items f it →
        (f : FunTree) × (slice_get (bodies_of (map filled_item items)) n ≡ Some f) × IsOf (map filled_item items) f it
    again (f, at, is) = (
      f,
      ap (λ fs. slice_get fs n) (same_bodies items)
          ∙ at,
      record { item = same_item items it.item f is.item; locals = is.locals },
    )

pub IsTyped-bodies : (m : ModuleTree) (r : TypedModuleTree) → IsTyped m r → HasBodies r
IsTyped-bodies m r h = record {
  count = items_count h.functions ∙ sym (ap (λ (w : ModuleTree). length (bodies_of w.items)) h.module_tree
      ∙ ap length (same_bodies m.items));
  each = subst (λ (w : ModuleTree). Each w.items (bodies_of w.items) r.functions) (sym h.module_tree)
      (filled_each m.items r.functions (items_each m.items (record { front = []; size = refl; whole = refl })
      h.functions));
}
