-- In well-sorted statements no pointer is made to a local that keeps a pointer.
use Rattle.std.proofs.Common.{List, [], ◌∷◌, Option, Some, None, Bool, ⊎_elim, ap}
use Rattle.cas_base.specs.declared.decl.Decl.{Decl}
use Rattle.cas_base.specs.declared.kind.Kind.{Kind}
use Rattle.cas_base.specs.declared.kind.Kind.TheVariants.{I32}
use Rattle.cas_base.specs.declared.kind.Ty.{Ty}
use Rattle.cas_base.specs.declared.kind.Ty.TheVariants.{Void, Int, Ptr, Array}
use Rattle.cas_typed.specs.Resolved as t
use Rattle.cas_typed.specs.Resolved.{TypedExprTree, TypedTargetTree, to_local, to_global, to_element, to_behind, TypedStmtTree}
use Rattle.cas_typed.specs.Sorts as so
use Rattle.cas_typed.specs.Sorts.{Sort, HasSort, IsValue, AreValues, IsCell, IsSorted, MayReturn, IsTest}
use Rattle.cas_clight.specs.Clight.{keeps_pointer}
use Rattle.cas_bridge.specs.Matching.{IsAddressable, AreAddressable, IsAddressableTarget, IsAddressableOption, IsAddressableStatement}

module _ (vs : List Ty) (ds : List Decl) where
  pub aims_of : (e : TypedExprTree) (sort : Sort) → HasSort vs ds e sort → IsAddressable vs e
  aims_of (t.literal n) sort h = tt
  aims_of t.null sort h = tt
  aims_of (t.local n) sort h = tt
  aims_of (t.global g at) sort h = tt
  aims_of (t.element g at s a) so.word h = aims_of a so.word h.3
  aims_of (t.element g at s a) (so.pointer k) h = absurd h
  aims_of (t.place_of n) so.word h = absurd h
  aims_of (t.place_of n) (so.pointer k) h = ⊎_elim (λ i. ap keeps_pointer i) (λ i. ap keeps_pointer i.1) h
  aims_of (t.behind k p) so.word h = aims_of p (so.pointer k) h
  aims_of (t.behind k p) (so.pointer j) h = absurd h
  aims_of (t.pointer_plus s p a) so.word h = absurd h
  aims_of (t.pointer_plus s p a) (so.pointer k) h = (aims_of p (so.pointer k) h.0, aims_of a so.word h.1)
  aims_of (t.plus_pointer s a p) so.word h = absurd h
  aims_of (t.plus_pointer s a p) (so.pointer k) h = (aims_of a so.word h.0, aims_of p (so.pointer k) h.1)
  aims_of (t.pointer_minus s p a) so.word h = absurd h
  aims_of (t.pointer_minus s p a) (so.pointer k) h = (aims_of p (so.pointer k) h.0, aims_of a so.word h.1)
  aims_of (t.pointer_difference p q) so.word h = (aims_of p (so.pointer h.0) h.1, aims_of q (so.pointer h.0) h.2)
  aims_of (t.pointer_difference p q) (so.pointer k) h = absurd h
  aims_of (t.compare op p q) so.word h = (aims_of p (so.pointer h.1) h.2, aims_of q (so.pointer h.1) h.3)
  aims_of (t.compare op p q) (so.pointer k) h = absurd h
  aims_of (t.unary op a) so.word h = aims_of a so.word h
  aims_of (t.unary op a) (so.pointer k) h = absurd h
  aims_of (t.binary op s a b) so.word h = (aims_of a so.word h.0, aims_of b so.word h.1)
  aims_of (t.binary op s a b) (so.pointer k) h = absurd h
  aims_of (t.narrow k a) so.word h = aims_of a so.word h
  aims_of (t.narrow k a) (so.pointer j) h = absurd h
  aims_of (t.and_also a b) so.word h = (aims_of a so.word h.0, aims_of b so.word h.1)
  aims_of (t.and_also a b) (so.pointer k) h = absurd h
  aims_of (t.or_else a b) so.word h = (aims_of a so.word h.0, aims_of b so.word h.1)
  aims_of (t.or_else a b) (so.pointer k) h = absurd h
  aims_of (t.choose c a b) so.word h = (aims_of c so.word h.0, aims_of a so.word h.1, aims_of b so.word h.2)
  aims_of (t.choose c a b) (so.pointer k) h =
      (aims_of c so.word h.0, aims_of a (so.pointer k) h.1, aims_of b (so.pointer k) h.2)

  pointer_aims : (k : Kind) (p : TypedExprTree) → HasSort vs ds p (so.pointer k) → IsAddressable vs p
  pointer_aims k p h = aims_of p (so.pointer k) h

  value_aims : (ty : Ty) (e : TypedExprTree) → IsValue vs ds ty e → IsAddressable vs e
  value_aims (Ptr k) e h = pointer_aims k e h
  value_aims Void e h = absurd h
  value_aims (Array k n) e h = absurd h
  value_aims (Int k) (t.narrow j a) h = aims_of a so.word h.1
  value_aims (Int k) (t.literal n) h = absurd h
  value_aims (Int k) t.null h = absurd h
  value_aims (Int k) (t.local n) h = absurd h
  value_aims (Int k) (t.global g at) h = absurd h
  value_aims (Int k) (t.element g at s a) h = absurd h
  value_aims (Int k) (t.place_of n) h = absurd h
  value_aims (Int k) (t.behind j p) h = absurd h
  value_aims (Int k) (t.pointer_plus s p a) h = absurd h
  value_aims (Int k) (t.plus_pointer s a p) h = absurd h
  value_aims (Int k) (t.pointer_minus s p a) h = absurd h
  value_aims (Int k) (t.pointer_difference p q) h = absurd h
  value_aims (Int k) (t.compare op p q) h = absurd h
  value_aims (Int k) (t.unary op a) h = absurd h
  value_aims (Int k) (t.binary op s a b) h = absurd h
  value_aims (Int k) (t.and_also a b) h = absurd h
  value_aims (Int k) (t.or_else a b) h = absurd h
  value_aims (Int k) (t.choose c a b) h = absurd h

  all_aim : (tys : List Ty) (args : List TypedExprTree) → AreValues vs ds tys args → AreAddressable vs args
  all_aim [] [] h = tt
  all_aim [] (a ∷ args) h = absurd h
  all_aim (ty ∷ tys) [] h = absurd h
  all_aim (ty ∷ tys) (a ∷ args) h = (value_aims ty a h.0, all_aim tys args h.1)

  target_aims : (target : TypedTargetTree) (ty : Ty) → IsCell vs ds target ty → IsAddressableTarget vs target
  target_aims (to_local n) ty h = tt
  target_aims (to_global g at) ty h = tt
  target_aims (to_element g at s a) (Int k) h = aims_of a so.word h.3
  target_aims (to_element g at s a) (Ptr k) h = absurd h
  target_aims (to_element g at s a) Void h = absurd h
  target_aims (to_element g at s a) (Array k n) h = absurd h
  target_aims (to_behind j p) (Int k) h = aims_of p (so.pointer k) h.1
  target_aims (to_behind j p) (Ptr k) h = absurd h
  target_aims (to_behind j p) Void h = absurd h
  target_aims (to_behind j p) (Array k n) h = absurd h

  returned_aims : (ret : Ty) (a : Option TypedExprTree) → MayReturn vs ds ret a → IsAddressableOption vs a
  returned_aims ret None h = tt
  returned_aims ret (Some a) h = value_aims ret a h

  -- so it is in each well-sorted statement
  pub sorted_aims : (ret : Ty) (l : Bool) (a : TypedStmtTree) → IsSorted vs ds ret l a → IsAddressableStatement vs a
  sorted_aims ret l (t.skip p) h = tt
  sorted_aims ret l (t.assign p target a) h = (target_aims target h.0 h.1, value_aims h.0 a h.2)
  sorted_aims ret l (t.call p kept g at args) h = all_aim h.1 args h.5
  sorted_aims ret l (t.block p bs) h = tt
  sorted_aims ret l (t.if_ p c a b) h = aims_of c so.word h.0
  sorted_aims ret l (t.while_ p c a) h = aims_of c so.word h.0
  sorted_aims ret l (t.do_ p a c) h = tt
  sorted_aims ret l (t.for_ p i c u a) h = tt
  sorted_aims ret l (t.break_ p) h = tt
  sorted_aims ret l (t.continue_ p) h = tt
  sorted_aims ret l (t.return_ p a) h = returned_aims ret a h
  sorted_aims ret l (t.lock p g) h = tt
  sorted_aims ret l (t.unlock p g) h = tt
  sorted_aims ret l (t.print p a) h = value_aims (Int I32) a h
