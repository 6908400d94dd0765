-- The globals that the first item names have their guards in the set with which it is walked.
use Rattle.std.proofs.Common.{arith, ◌≡◌, ℕ, zero, suc, List, [], ◌∷◌, ◌++◌, map, Option, Some, None, refl, sym, ap, subst, ◌∙◌, append_assoc}
use Rattle.std.specs.Prelude.{true, Contains}
use Rattle.cas_base.specs.declared.decl.Decl.{Decl}
use Rattle.cas_own.specs.Flow.{Flow, on, Head, guarded, flow}
use Rattle.cas_own.specs.Locks.{Locks, has, guard_of}
use Rattle.cas_own.specs.Uses.{Use, uses, target_uses, option_uses, argument_uses}
use Rattle.cas_own.proofs.Names.{guards_are_held, contained}
use Rattle.cas_step.specs.Continuation.{ContItem, begin, begun, loop, next}
use Rattle.cas_step.specs.Laws.{names, target_names, option_names, names_of_all, statement_names, item_names}
use Rattle.cas_typed.specs.Resolved as t
use Rattle.cas_typed.specs.Resolved.{TypedExprTree, TypedTargetTree, to_local, to_global, to_element, to_behind, TypedStmtTree, skip, assign, call, block, if_, while_, do_, for_, break_, continue_, return_, lock, unlock, print, absent, present}
use Rattle.cas_world.specs.Lock_flow.{NamesAreChecked, LoopContext, nowhere, inside, beside, cut, head_of, HasLockFlow}

-- the items of the names that the check walks
abbrev pub items : List Use → List ℕ
items us = map (λ u. u.item) us

append_items : (us vs : List Use) → items (us ++ vs) ≡ items us ++ items vs
append_items [] vs = refl
append_items (u ∷ us) vs = ap (λ gs. u.item ∷ gs) (append_items us vs)

both_items : (us vs : List Use) (gs hs : List ℕ) → items us ≡ gs → items vs ≡ hs → items (us ++ vs) ≡ gs ++ hs
both_items us vs gs hs e f = append_items us vs ∙ ap (λ xs. xs ++ items vs) e ∙ ap (λ ys. gs ++ ys) f

pub items-uses : (a : TypedExprTree) → items (uses a) ≡ names a
items-uses (t.literal n) = refl
items-uses t.null = refl
items-uses (t.local n) = refl
items-uses (t.global g at) = refl
items-uses (t.element g at sign a) = ap (λ gs. g ∷ gs) (items-uses a)
items-uses (t.place_of n) = refl
items-uses (t.behind k p) = items-uses p
items-uses (t.pointer_plus sign p a) = both_items (uses p) (uses a) (names p) (names a) (items-uses p) (items-uses a)
items-uses (t.plus_pointer sign a p) = both_items (uses a) (uses p) (names a) (names p) (items-uses a) (items-uses p)
items-uses (t.pointer_minus sign p a) = both_items (uses p) (uses a) (names p) (names a) (items-uses p) (items-uses a)
items-uses (t.pointer_difference p q) = both_items (uses p) (uses q) (names p) (names q) (items-uses p) (items-uses q)
items-uses (t.compare op p q) = both_items (uses p) (uses q) (names p) (names q) (items-uses p) (items-uses q)
items-uses (t.unary op a) = items-uses a
items-uses (t.binary op sign a b) = both_items (uses a) (uses b) (names a) (names b) (items-uses a) (items-uses b)
items-uses (t.narrow k a) = items-uses a
items-uses (t.and_also a b) = both_items (uses a) (uses b) (names a) (names b) (items-uses a) (items-uses b)
items-uses (t.or_else a b) = both_items (uses a) (uses b) (names a) (names b) (items-uses a) (items-uses b)
items-uses (t.choose c a b) =
    both_items (uses c) (uses a ++ uses b) (names c) (names a ++ names b) (items-uses c)
    (both_items (uses a) (uses b) (names a) (names b) (items-uses a) (items-uses b))
    ∙ sym (append_assoc (names c) (names a) (names b))

pub items-target_uses : (target : TypedTargetTree) → items (target_uses target) ≡ target_names target
items-target_uses (to_local n) = refl
items-target_uses (to_global g at) = refl
items-target_uses (to_element g at sign a) = ap (λ gs. g ∷ gs) (items-uses a)
items-target_uses (to_behind k p) = items-uses p

pub items-option_uses : (a : Option TypedExprTree) → items (option_uses a) ≡ option_names a
items-option_uses None = refl
items-option_uses (Some a) = items-uses a

pub items-argument_uses : (args : List TypedExprTree) → items (argument_uses args) ≡ names_of_all args
items-argument_uses [] = refl
items-argument_uses (a ∷ args) = both_items (uses a) (argument_uses args) (names a) (names_of_all args) (items-uses a)
    (items-argument_uses args)

pub names_are_checked : NamesAreChecked
names_are_checked = (items-uses, items-target_uses, items-option_uses, items-argument_uses)

-- a contained item is that of a contained name
use_there : (us : List Use) (g : ℕ) → Contains (items us) g → (u : Use) × Contains us u × (u.item ≡ g)
use_there [] g (k, below, is) = absurd (omega (arith, below))
use_there (u ∷ us) g c =
    contained u.item (items us) g c (λ e. (u, (zero, omega arith, refl), e))
    (λ d. let (v, (k, below, is), e) = use_there us g d in (v, (suc k, omega (arith, below), is), e))

module _ (ds : List Decl) where
  -- each of these items that has a guard has it in the set
  abbrev pub AreOpen : Locks → List ℕ → Type 0
  AreOpen s gs = (g l : ℕ) → Contains gs g → guard_of ds g ≡ Some l → has s l ≡ true

  none_open : (s : Locks) → AreOpen s []
  none_open s g l (k, below, is) guard = absurd (omega (arith, below))

  -- the names that a walk without a fault passes
  guarded_open : (s : Locks) (us : List Use) (gs : List ℕ) (k : Flow) (o : Option Locks) → items us ≡ gs →
      guarded ds s us k ≡ on o → AreOpen s gs
  guarded_open s us gs k o e f g l c guard =
      let u = use_there us g (subst (λ xs. Contains xs g) (sym e) c) in
      (guards_are_held ds s us k o f).1 u.0 l u.1 (ap (guard_of ds) u.2 ∙ guard)

  module _ (own : Locks) where
    statement_open : (h : Option Head) (a : TypedStmtTree) (s : Locks) (o : Option Locks) → flow ds own h a s ≡ on o →
        AreOpen s (statement_names a)
    statement_open h (skip p) s o f = none_open s
    statement_open h (assign p target a) s o f =
        guarded_open s (target_uses target ++ uses a) (target_names target ++ names a) _ o
        (both_items (target_uses target) (uses a) (target_names target) (names a) (items-target_uses target)
        (items-uses a)) f
    statement_open h (block p bs) s o f = none_open s
    statement_open h (if_ p c a b) s o f = guarded_open s (uses c) (names c) _ o (items-uses c) f
    statement_open h (while_ p c a) s o f = guarded_open s (uses c) (names c) _ o (items-uses c) f
    statement_open h (do_ p a c) s o f = none_open s
    statement_open h (for_ p i c u a) s o f = none_open s
    statement_open h (break_ p) s o f = none_open s
    statement_open h (continue_ p) s o f = none_open s
    statement_open h (call p kept g at args) s o f = guarded_open s (argument_uses args) (names_of_all args) _ o
        (items-argument_uses args) f
    statement_open h (return_ p a) s o f = guarded_open s (option_uses a) (option_names a) _ o (items-option_uses a) f
    statement_open h (lock p g) s o f = none_open s
    statement_open h (unlock p g) s o f = none_open s
    statement_open h (print p a) s o f = guarded_open s (uses a) (names a) _ o (items-uses a) f

    pub items_open : (cont : List ContItem) (x : LoopContext) (s : Locks) → HasLockFlow ds own cont x (Some s) →
        AreOpen s (item_names cont)
    items_open [] x s w = none_open s
    items_open (begin a ∷ cont) x s w = statement_open (head_of x) a s w.0 w.1
    items_open (begun p c a ∷ cont) nowhere s w = absurd w
    items_open (begun p c a ∷ cont) (inside h) s w = subst (λ r. AreOpen r (names c)) w.1
        (guarded_open h.set (uses c) (names c) _ (Some h.set) (items-uses c) w.2)
    items_open (begun p c a ∷ cont) (beside h) s w = absurd w
    items_open (begun p c a ∷ cont) cut s w = absurd w
    items_open (loop p c u a ∷ cont) nowhere s w = absurd w
    items_open (loop p c u a ∷ cont) (inside h) s w = absurd w
    items_open (loop p c u a ∷ cont) (beside h) s w =
        subst (λ r. AreOpen r (option_names c)) w.1 (guarded_open h.set (option_uses c) (option_names c) _ (Some h.set)
        (items-option_uses c) w.2)
    items_open (loop p c u a ∷ cont) cut s w = absurd w
    items_open (next p absent ∷ cont) x s w = none_open s
    items_open (next p (present a) ∷ cont) nowhere s w = absurd w
    items_open (next p (present a) ∷ cont) (inside h) s w =
        subst (λ r. AreOpen r (statement_names a)) w.0 (statement_open None a h.set w.1 w.2)
    items_open (next p (present a) ∷ cont) (beside h) s w = absurd w
    items_open (next p (present a) ∷ cont) cut s w = absurd w
