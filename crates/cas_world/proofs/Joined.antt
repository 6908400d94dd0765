-- What a program of checked modules has: bodies that are walked without a fault, the same locks behind each name of
-- a function, and locks for guards.
use Rattle.std.proofs.Common.{arith, ◌≡◌, ℕ, zero, suc, ◌<◌, ◌≤◌, true, List, [], ◌∷◌, ◌++◌, map, Option, Some, None, refl, sym, ap, subst, ◌∙◌, append_assoc}
use Rattle.std.specs.Prelude.{◌==◌, ◌||◌, slice_get, Contains, All}
use Rattle.std.specs.List.{list_any}
use Rattle.std.specs.Option.{option_map}
use Rattle.std.proofs.lemmas.Option.{slice_get-map}
use Rattle.cas_base.specs.declared.decl.Decl.{Decl}
use Rattle.cas_base.specs.declared.decl.Form.{Form}
use Rattle.cas_base.specs.declared.decl.Form.TheVariants.{Lock, Shared, Table, Function as AFunction}
use Rattle.cas_base.specs.declared.kind.Ty.{Ty}
use Rattle.cas_base.specs.declared.place.Place.{Place}
use Rattle.cas_own.specs.Checked.{OwnFaultTree, IsChecked, first, fault_of, guard_fault, global_fault, held_set, function_fault, items_fault}
use Rattle.cas_own.specs.Flow.{Flow, on, fault, same, with_set, flow_all, body_flow}
use Rattle.cas_own.specs.Locks.{Locks, has, set_of, lock_named, lock_and, locks_named, of_declared, guard_of_form, guard_of, holds_of_form, holds_of}
use Rattle.cas_own.proofs.Names.{contained}
use Rattle.cas_own.proofs.Sets.{same_or_not, set_ascends, sets_are_of_locks}
use Rattle.cas_own.specs.declared.fault.OwnCode.TheVariants.{O5}
use Rattle.cas_program.specs.Laws.{HoldsWord, SharedAreDeclared, GuardsAreLocks, LocksAreByName, FunctionsAgree}
use Rattle.cas_program.specs.Program.{IsProgram, units_of, env_of}
use Rattle.cas_program.proofs.Locking.{lock_there, lock_further}
use Rattle.cas_program.proofs.Meanings.{all_at, unmapped}
use Rattle.cas_step.specs.Env.{FunctionAt, function, shared, lock, Env}
use Rattle.cas_step.specs.Well_formed.{IsAt, IsWellFormed}
use Rattle.cas_step.specs.Continuation.{begin_all}
use Rattle.cas_syntax.specs.Tree.{FunTree, ItemTree, global, prototype, define, ModuleTree}
use Rattle.cas_typed.specs.Bodies.{bodies_of, HasBodies}
use Rattle.cas_typed.specs.Formed.{IsFunctionForm, ItemsAreFormed}
use Rattle.cas_typed.specs.Modules.{decl_of, IsTyped, decls_of}
use Rattle.cas_typed.specs.Resolved.{TypedFunTree, TypedModuleTree, TypedStmtList}
use Rattle.cas_world.proofs.Counts.{count_once, count_some}
use Rattle.cas_world.proofs.Lock_flow.{on_is, after_on, same_on, body_walks}
use Rattle.cas_world.specs.Owned.{count, decls_in, own_in, own_of, decls_at, own_at, held}
use Rattle.cas_world.specs.Lock_flow.{nowhere, HasLockFlow}

-- what a module without a fault says of its items

first_none : (x y : Option OwnFaultTree) → first x y ≡ None → (x ≡ None) × (y ≡ None)
first_none None y h = (refl, h)
first_none (Some f) y h = absurd (cc h)

fault_none : (ds : List Decl) (x : Flow) → fault_of ds x ≡ None → (o : Option Locks) × (x ≡ on o)
fault_none ds (on o) h = (o, refl)
fault_none ds (fault code p l) h = absurd (cc h)

-- behind a body nothing continues
body_ends : (ds : List Decl) (own : Locks) (closing : Place) (body : TypedStmtList) (o : Option Locks) →
    body_flow ds own closing body ≡ on o → body_flow ds own closing body ≡ on None
body_ends ds own closing body o f =
    let r = after_on (flow_all ds own None body (Some own)) (λ o. with_set o (λ s. same O5 closing own s (on None)))
    o f in
    f ∙ ap on (sym (ended r.0 r.2))
  where
    ended : (t : Option Locks) → with_set t (λ s. same O5 closing own s (on None)) ≡ on o → None ≡ o
    ended None e = on_is None o e
    ended (Some s) e = on_is None o (same_on O5 closing own s (on None) o e).1

-- the function of a body has no fault
body_none : (ds before : List Decl) (items : List ItemTree) (rs : List TypedFunTree) (n : ℕ) (f : FunTree)
    (r : TypedFunTree) → items_fault ds before items rs ≡ None →
    slice_get (bodies_of items) n ≡ Some f → slice_get rs n ≡ Some r → function_fault ds f r ≡ None
body_none ds before [] rs n f r h there of = absurd (cc there)
body_none ds before (global d vs p ∷ items) rs n f r h there of =
    body_none ds (before ++ d ∷ []) items rs n f r (first_none (global_fault before d.form p)
    (items_fault ds (before ++ d ∷ []) items rs) h).1 there of
body_none ds before (prototype d hs p ∷ items) rs n f r h there of =
    body_none ds (before ++ d ∷ []) items rs n f r h there of
body_none ds before (define g ∷ items) [] n f r h there of = absurd (cc of)
body_none ds before (define g ∷ items) (q ∷ rs) zero f r h there of =
    let same_tree : g ≡ f = cc there in
    let same_function : q ≡ r = cc of in
    ap (λ x. function_fault ds x r) (sym same_tree) ∙ ap (λ x. function_fault ds g x) (sym same_function)
    ∙ (first_none (function_fault ds g q) (items_fault ds (before ++ g.decl ∷ []) items rs) h).0
body_none ds before (define g ∷ items) (q ∷ rs) (suc n) f r h there of =
    body_none ds (before ++ g.decl ∷ []) items rs n f r
    (first_none (function_fault ds g q) (items_fault ds (before ++ g.decl ∷ []) items rs) h).1 there of

guard_none : (name : List ℕ) (p : Place) (o : Option ℕ) → guard_fault name p o ≡ None → (l : ℕ) × (o ≡ Some l)
guard_none name p None h = absurd (cc h)
guard_none name p (Some l) h = (l, refl)

-- each shared global of formed items names a lock that is declared before
guard_there : (before : List Decl) (d : Decl) (p : Place) (ty : Ty) (name : List ℕ) → d.form ≡ Shared ty name →
    global_fault before d.form p ≡ None → (l : ℕ) × (lock_named before name ≡ Some l)
guard_there before d p ty name is h = guard_none name p (lock_named before name)
    (sym (ap (λ form. global_fault before form p) is) ∙ h)

no_shared : {C : Type 0} (c d : Decl) (ty : Ty) (name : List ℕ) → IsFunctionForm c.form → Some c ≡ Some d →
    d.form ≡ Shared ty name → C
no_shared c d ty name formed e is =
    let same_decl : c ≡ d = cc e in
    absurd (subst IsFunctionForm (ap (λ x. x.form) same_decl ∙ is) formed)

-- behind another declaration
behind_one : (before : List Decl) (c : Decl) (rest : List Decl) (name : List ℕ) → (l : ℕ)
    × (lock_named ((before ++ c ∷ []) ++ rest) name ≡ Some l) →
    (l : ℕ) × (lock_named (before ++ c ∷ rest) name ≡ Some l)
behind_one before c rest name r = (r.0, ap (λ ds. lock_named ds name) (sym (append_assoc before (c ∷ []) rest)) ∙ r.1)

shared_guard : (ds before : List Decl) (items : List ItemTree) (rs : List TypedFunTree) (k : ℕ) (d : Decl) (ty : Ty)
    (name : List ℕ) → items_fault ds before items rs ≡ None →
    ItemsAreFormed items → slice_get (map decl_of items) k ≡ Some d → d.form ≡ Shared ty name →
    (l : ℕ) × (lock_named (before ++ map decl_of items) name ≡ Some l)
shared_guard ds before [] rs k d ty name h formed there is = absurd (cc there)
shared_guard ds before (global c vs p ∷ items) rs zero d ty name h formed there is =
    let same_decl : c ≡ d = cc there in
    let r = guard_there before c p ty name (ap (λ x. x.form) same_decl ∙ is)
    (first_none (global_fault before c.form p) (items_fault ds (before ++ c ∷ []) items rs) h).0 in
    (r.0, lock_further before (c ∷ map decl_of items) name r.0 r.1)
shared_guard ds before (global c vs p ∷ items) rs (suc k) d ty name h formed there is =
    behind_one before c (map decl_of items) name
    (shared_guard ds (before ++ c ∷ []) items rs k d ty name
    (first_none (global_fault before c.form p) (items_fault ds (before ++ c ∷ []) items rs) h).1 formed.1 there is)
shared_guard ds before (prototype c hs p ∷ items) rs zero d ty name h formed there is =
    no_shared c d ty name formed.0.0 there is
shared_guard ds before (prototype c hs p ∷ items) rs (suc k) d ty name h formed there is =
    behind_one before c (map decl_of items) name
    (shared_guard ds (before ++ c ∷ []) items rs k d ty name h formed.1 there is)
shared_guard ds before (define f ∷ items) [] k d ty name h formed there is = absurd (cc h)
shared_guard ds before (define f ∷ items) (r ∷ rs) zero d ty name h formed there is =
    no_shared f.decl d ty name formed.0.0 there is
shared_guard ds before (define f ∷ items) (r ∷ rs) (suc k) d ty name h formed there is =
    behind_one before f.decl (map decl_of items) name
    (shared_guard ds (before ++ f.decl ∷ []) items rs k d ty name
    (first_none (function_fault ds f r) (items_fault ds (before ++ f.decl ∷ []) items rs) h).1 formed.1 there is)

-- locks by names

any_contains : (ls : List ℕ) (l : ℕ) → list_any (λ m. m == l) ls ≡ true → Contains ls l
any_contains [] l h = absurd (cc h)
any_contains (m ∷ ls) l h =
    same_or_not m l (λ t e. (0, omega arith, e))
    (λ t e. let (k, below, is) = any_contains ls l (ap (λ b. (b || list_any (λ n. n == l) ls)) (sym t) ∙ h) in
    (suc k, omega (arith, below), is))

set_contains : (ls : List ℕ) (l : ℕ) → has (set_of ls) l ≡ true → Contains ls l
set_contains ls l h = any_contains ls l (sym (sets_are_of_locks ls l) ∙ h)

-- a lock that names mean is meant by one of them
abbrev IsMeant : List Decl → (lock : ℕ) → Type 0
IsMeant ds l = (name : List ℕ) × (lock_named ds name ≡ Some l)

meant_first : (ds : List Decl) (name : List ℕ) (o : Option ℕ) (ls : List ℕ) (l : ℕ) → lock_named ds name ≡ o →
    Contains (lock_and o ls) l → (Contains ls l → IsMeant ds l) → IsMeant ds l
meant_first ds name None ls l is c rest = rest c
meant_first ds name (Some m) ls l is c rest = contained m ls l c (λ e. (name, is ∙ ap (λ k. Some k) e)) rest

meant_among : (ds : List Decl) (names : List (List ℕ)) (l : ℕ) → Contains (locks_named ds names) l → IsMeant ds l
meant_among ds [] l (k, below, is) = absurd (omega (arith, below))
meant_among ds (name ∷ names) l c = meant_first ds name (lock_named ds name) (locks_named ds names) l refl c
    (meant_among ds names l)

meant_by_form : (ds : List Decl) (form : Form) (l : ℕ) → Contains (holds_of_form ds form) l → IsMeant ds l
meant_by_form ds Lock l (k, below, is) = absurd (omega (arith, below))
meant_by_form ds (Shared ty name) l (k, below, is) = absurd (omega (arith, below))
meant_by_form ds (Table ty) l (k, below, is) = absurd (omega (arith, below))
meant_by_form ds (AFunction ret params holds) l c = meant_among ds holds l c

meant_by : (ds : List Decl) (o : Option Decl) (l : ℕ) → Contains (of_declared (holds_of_form ds) [] o) l → IsMeant ds l
meant_by ds None l (k, below, is) = absurd (omega (arith, below))
meant_by ds (Some d) l c = meant_by_form ds d.form l c

-- equal entities have equal parts

same_guards : (first len start count : ℕ) (guard other : Option ℕ) →
    Some (shared first len guard) ≡ Some (shared start count other) → guard ≡ other
same_guards first len start count guard other h = cc

same_words : (v w : ℕ) → Some (lock v) ≡ Some (lock w) → v ≡ w
same_words v w h = cc

same_locks : (l m : ℕ) → Some l ≡ Some m → l ≡ m
same_locks l m h = cc

module _ (modules : List TypedModuleTree) (entries : List (List ℕ)) (program : IsProgram modules entries)
    (checked : All IsChecked modules) (well_formed : IsWellFormed modules (env_of modules)) where
  abbrev env : Env
  env = env_of modules

  unit_declares : (n : ℕ) (unit : TypedModuleTree) → slice_get modules n ≡ Some unit →
      slice_get (units_of modules) n ≡ Some (decls_of unit)
  unit_declares n unit is = slice_get-map decls_of modules n ∙ ap (option_map decls_of) is

  pub own_is : (f : FunctionAt) (unit : TypedModuleTree) (it : TypedFunTree) → IsAt modules f unit it →
      own_at modules env f ≡ held_set (decls_of unit) it.item
  own_is f unit it at_place = ap (own_in f.place) at_place.unit_is ∙ ap (own_of (decls_of unit)) at_place.function_is

  module_checked : (n : ℕ) (unit : TypedModuleTree) → slice_get modules n ≡ Some unit → IsChecked unit
  module_checked n unit is = all_at IsChecked modules n unit is checked

  -- bodies

  module _ (all_bodied : (m : ModuleTree) (r : TypedModuleTree) → IsTyped m r → HasBodies r) where
    bodied : (n : ℕ) (unit : TypedModuleTree) → slice_get modules n ≡ Some unit → HasBodies unit
    bodied n unit is = all_bodied unit.module_tree unit
        (all_at (λ m. IsTyped m.module_tree m) modules n unit is program.typed)

    pub bodies_walk : (f : FunctionAt) (unit : TypedModuleTree) (it : TypedFunTree) → IsAt modules f unit it →
        HasLockFlow (decls_at modules env f.unit) (own_at modules env f) (begin_all (env.function f).body []) nowhere
        (Some (own_at modules env f))
    bodies_walk f unit it at_place =
        let (tree, there, of) = (bodied f.unit unit at_place.unit_is).each f.place it at_place.function_is in
        let none = body_none (decls_of unit) [] unit.module_tree.items unit.functions f.place tree it
        (module_checked f.unit unit at_place.unit_is) there at_place.function_is in
        let (o, flows) =
        fault_none (decls_of unit) (body_flow (decls_of unit) (held_set (decls_of unit) it.item)
        tree.closing it.body) none in
        let ends = body_ends (decls_of unit) (held_set (decls_of unit) it.item) tree.closing it.body o flows in
        let walks = body_walks (decls_of unit) (held_set (decls_of unit) it.item) tree.closing it.body ends in
        let here =
        subst (λ body. HasLockFlow (decls_of unit) (held_set (decls_of unit) it.item) (begin_all body []) nowhere
        (Some (held_set (decls_of unit) it.item)))
        (sym (well_formed.functions f unit it at_place).body) walks in
        let own = subst (λ s. HasLockFlow (decls_of unit) s (begin_all (env.function f).body []) nowhere (Some s))
        (sym (own_is f unit it at_place)) here in
        subst (λ ds. HasLockFlow ds (own_at modules env f) (begin_all (env.function f).body []) nowhere
        (Some (own_at modules env f))) (sym (ap decls_in at_place.unit_is)) own

  -- guards

  -- what is told of a shared global's guard
  abbrev HasGuard : (n g : ℕ) (guard : Option ℕ) → Type 0
  HasGuard n g guard = (l w : ℕ) × (guard_of (decls_at modules env n) g ≡ Some l) × (env.entity n l ≡ Some (lock w))
      × (guard ≡ Some w)

  guard_is : GuardsAreLocks → (n g l first len : ℕ) (guard : Option ℕ) (unit : TypedModuleTree) →
      slice_get modules n ≡ Some unit → guard_of (decls_of unit) g ≡ Some l →
      env.entity n g ≡ Some (shared first len guard) → HasGuard n g guard
  guard_is locks n g l first len guard unit in_modules guarded is =
      let (start, count, w, shared_is, lock_is) = locks modules entries program n g l (decls_of unit)
      (unit_declares n unit in_modules) guarded in (
        l,
        w,
        ap (λ ds. guard_of ds g) (ap decls_in in_modules)
            ∙ guarded,
        lock_is,
        same_guards first len start count guard (Some w) (sym is ∙ shared_is),
      )

  guard_named : (n g : ℕ) (unit : TypedModuleTree) (d : Decl) (ty : Ty) (name : List ℕ) →
      slice_get modules n ≡ Some unit → slice_get (decls_of unit) g ≡ Some d → d.form ≡ Shared ty name →
      (l : ℕ) × (guard_of (decls_of unit) g ≡ Some l)
  guard_named n g unit d ty name in_modules there form =
      let formed = all_at (λ m. ItemsAreFormed m.module_tree.items) modules n unit in_modules program.formed in
      let (l, meant) = shared_guard (decls_of unit) [] unit.module_tree.items unit.functions g d ty name
      (module_checked n unit in_modules) formed there form in
      (l, ap (of_declared (guard_of_form (decls_of unit)) None) there ∙ ap (guard_of_form (decls_of unit)) form ∙ meant)

  pub guards_there : SharedAreDeclared → GuardsAreLocks → (n g first len : ℕ) (guard : Option ℕ) →
      env.entity n g ≡ Some (shared first len guard) → HasGuard n g guard
  guards_there declared locks n g first len guard is =
      let (d, (decls, in_units, in_decls), ty, name, form) = declared modules entries program n g first len guard is in
      let (unit, in_modules, same_decls) = unmapped decls_of modules n decls in_units in
      let (l, guarded) = guard_named n g unit d ty name in_modules (ap (λ ds. slice_get ds g) same_decls ∙ in_decls)
      form in
      guard_is locks n g l first len guard unit in_modules guarded is

  -- calls

  module _ (names : LocksAreByName) where
    meant_once : (n : ℕ) (unit : TypedModuleTree) (l m w : ℕ) → slice_get modules n ≡ Some unit →
        IsMeant (decls_of unit) l → IsMeant (decls_of unit) m →
        env.entity n l ≡ Some (lock w) → env.entity n m ≡ Some (lock w) → l ≡ m
    meant_once n unit l m w is (name, named) (other, also) here there_too =
        let (d, there, form, same_name) = lock_there (decls_of unit) name l named in
        let (c, found, kind, other_name) = lock_there (decls_of unit) other m also in
        let units = unit_declares n unit is in
        let (v, u, lock_v, lock_u, by_name) = names modules entries program n l n m d c (decls_of unit, units, there)
        form (decls_of unit, units, found) kind in
        let same_word : v ≡ u = same_words v w (sym lock_v ∙ here) ∙ sym (same_words u w (sym lock_u ∙ there_too)) in
        let one_name : name ≡ other = same_name ∙ by_name.0 same_word ∙ sym other_name in
        same_locks l m (sym named ∙ ap (lock_named (decls_of unit)) one_name ∙ also)

    held_once : (f : FunctionAt) (unit : TypedModuleTree) (it : TypedFunTree) → IsAt modules f unit it → (w : ℕ) →
        held modules env f w ≤ 1
    held_once f unit it at_place w =
        let ls = holds_of (decls_of unit) it.item in
        subst (λ s. count (env.entity f.unit) s w ≤ 1) (sym (own_is f unit it at_place))
        (count_once (env.entity f.unit) 0 (set_of ls) w (set_ascends ls) (λ l m h k e d.
        meant_once f.unit unit l m w at_place.unit_is
        (meant_by (decls_of unit) (slice_get (decls_of unit) it.item) l (set_contains ls l h))
        (meant_by (decls_of unit) (slice_get (decls_of unit) it.item) m (set_contains ls m k)) e d))

    -- a lock that its caller holds, in the calling module
    held_there : (n g w : ℕ) → HoldsWord modules n g w → (l : ℕ) × Contains (holds_of (decls_at modules env n) g) l
        × (env.entity n l ≡ Some (lock w))
    held_there n g w (decls, l, in_units, within, word) =
        let (unit, in_modules, same_decls) = unmapped decls_of modules n decls in_units in
        (l, subst (λ ds. Contains (holds_of ds g) l) (sym (ap decls_in in_modules ∙ same_decls)) within, word)

    held_here : (f : FunctionAt) (unit : TypedModuleTree) (it : TypedFunTree) → IsAt modules f unit it → (w : ℕ) →
        0 < held modules env f w → HoldsWord modules f.unit it.item w
    held_here f unit it at_place w some =
        let (l, there, word) = count_some (env.entity f.unit) (own_at modules env f) w some in (
          decls_of unit,
          l,
          unit_declares f.unit unit at_place.unit_is,
          set_contains (holds_of (decls_of unit) it.item) l
              (ap (λ s. has s l) (sym (own_is f unit it at_place)) ∙ there),
          word,
        )

    pub calls_there : FunctionsAgree → (n g : ℕ) (f : FunctionAt) → env.entity n g ≡ Some (function f) →
        (unit : TypedModuleTree) × (it : TypedFunTree) × IsAt modules f unit it
        × ((w : ℕ) → held modules env f w ≤ 1) × ((w : ℕ) → 0 < held modules env f w → (l : ℕ)
        × Contains (holds_of (decls_at modules env n) g) l × (env.entity n l ≡ Some (lock w)))
    calls_there agree n g f is =
        let (unit, it, at_place, same_functions) = agree modules entries program n g f is in (
          unit,
          it,
          at_place,
          held_once f unit it at_place,
          λ w some. held_there n g w
              ((same_functions.words w).1 (held_here f unit it at_place w some)),
        )
