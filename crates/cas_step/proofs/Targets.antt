-- Expressions have values of their types in a sound thread, and targets are cells that may hold them.
use Rattle.std.proofs.Common.{arith, ◌≡◌, ℕ, ◌+◌, ◌<◌, List, [], ◌∷◌, map, Option, Some, None, refl, sym, ap, subst, ◌∙◌, IsTrue}
use Rattle.std.specs.Prelude.{⊤, slice_get}
use Rattle.cas_base.specs.Kind.{is_of_kind}
use Rattle.cas_base.specs.Ty.{words_of_ty}
use Rattle.cas_base.specs.Word.{narrowed}
use Rattle.cas_base.specs.declared.decl.Decl.{Decl}
use Rattle.cas_base.specs.declared.decl.Form.TheVariants.{Shared}
use Rattle.cas_base.specs.declared.kind.Kind.{Kind}
use Rattle.cas_base.specs.declared.kind.Ty.{Ty}
use Rattle.cas_base.specs.declared.kind.Ty.TheVariants.{Void, Int, Ptr, Array}
use Rattle.cas_base.proofs.KindLaws.{narrowed_is_of_kind}
use Rattle.cas_typed.specs.Modules.{decls_of}
use Rattle.cas_typed.specs.Resolved as t
use Rattle.cas_typed.specs.Resolved.{TypedExprTree, TypedTargetTree, to_local, to_global, to_element, to_behind, TypedStmtTree, TypedStmtOption, absent, present, TypedStmtList, TypedFunTree, TypedModuleTree}
use Rattle.cas_typed.specs.Sorts as so
use Rattle.cas_typed.specs.Sorts.{IsLocal, IsDeclared, IsValue, AreValues, IsCell, MayKeep, MayReturn, IsTest, AreSorted}
use Rattle.cas_step.specs.Asks.{Value, word, null, pointer, Asks, and_then, word_in, pointed}
use Rattle.cas_step.specs.Env.{Entity, function, outside, shared, table, lock, length_of, Env}
use Rattle.cas_step.specs.Evaluate.{EvalContext, Cell, of_object, of_global, only_place, element_place, value_of, values_of, target_of}
use Rattle.cas_step.specs.Well_formed.{kind_of, StandsFor, IsWellFormed, IsWellTypedStore}
use Rattle.cas_typed.specs.Literals.{HasWords, TargetHasWords, AllHaveWords}
use Rattle.cas_step.specs.Pointers.{cell_behind}
use Rattle.cas_step.specs.Sound.{Gets, types_of, IsObjectOf, PointsTo, IsOfType, cell_type, AreBlocks}
use Rattle.cas_step.specs.Answered.{Got, got, bad, got_stuck, value_at}
use Rattle.cas_step.specs.Step.{Object, Activation, Block, Config, eval_context_of, cells_at}
use Rattle.cas_step.proofs.Memory.{MayHold, value_there}
use Rattle.cas_step.proofs.Situation.{thread, standing, own, own_types, own_match, sees, stands_for}
use Rattle.cas_step.proofs.Values.{ThereIs, IsWord, OfSort, Aims, Sure, sure_then, word_sure, pointed_sure, cell_sure, only_sure, element_sure, value_sure}
use Rattle.cas_step.proofs.Within.{Any}

module _ (modules : List TypedModuleTree) (e : Env) (well_formed : IsWellFormed modules e) (a : Activation)
    (older : List Activation) (memory : List Block) (fresh : ℕ) (started : a.serial < fresh)
    (blocks : AreBlocks e (thread e a older memory fresh started) (a ∷ older) memory) (unit : TypedModuleTree)
    (unit_is : slice_get modules a.function.unit ≡ Some unit) (ws : List ℕ) (fits : IsWellTypedStore e ws) where
  abbrev pub c : Config
  c = record { activations = a ∷ older; memory = memory; fresh = fresh }

  abbrev vs : List Ty
  vs = types_of e a

  abbrev ds : List Decl
  ds = decls_of unit

  abbrev pub Certain : {A : Type 0} → (A → Type 0) → Asks Object A → Type 0
  Certain P x = Sure (PointsTo e c) vs ds (eval_context_of e (standing e a older memory fresh started ws)) ws memory
      (sees e a older memory fresh started blocks modules well_formed unit unit_is ws fits) P x

  pub certain_then : {A B : Type 0} (P : A → Type 0) (Q : B → Type 0) (x : Asks Object A) (more : A → Asks Object B) →
      Certain P x → ((v : A) → P v → Certain Q (more v)) → Certain Q (and_then x more)
  certain_then P Q x more h go = sure_then (PointsTo e c) vs ds
      (eval_context_of e (standing e a older memory fresh started ws)) ws memory
      (sees e a older memory fresh started blocks modules well_formed unit unit_is ws fits) P Q x more h go

  pub gets_map : {A : Type 0} (P Q : A → Type 0) (x : Got A) → Gets P x → ((v : A) → P v → Q v) → Gets Q x
  gets_map P Q (got rs v) h go = go v h
  gets_map P Q (bad rs why) h go = tt
  gets_map P Q (got_stuck rs) h go = absurd h

  abbrev sight : EvalContext Object
  sight = eval_context_of e (standing e a older memory fresh started ws)

  pub sort_certain : (x : TypedExprTree) (sort : so.Sort) → so.HasSort vs ds x sort → HasWords x →
      Certain (OfSort (PointsTo e c) sort) (value_of sight x)
  sort_certain x sort h w = value_sure (PointsTo e c) vs ds sight ws memory
      (sees e a older memory fresh started blocks modules well_formed unit unit_is ws fits) x sort h w

  word_certain : (v : Value Object) → OfSort (PointsTo e c) so.word v → Certain IsWord (word_in v)
  word_certain v h = word_sure (PointsTo e c) vs ds sight ws memory
      (sees e a older memory fresh started blocks modules well_formed unit unit_is ws fits) v h

  -- a pointer of the kind, as a value of its type
  pointer_typed : (k : Kind) (v : Value Object) → OfSort (PointsTo e c) (so.pointer k) v → IsOfType e c (Ptr k) v
  pointer_typed k (word n) h = absurd h
  pointer_typed k null h = tt
  pointer_typed k (pointer o p) h = h

  pub value_certain : (ty : Ty) (x : TypedExprTree) → IsValue vs ds ty x → HasWords x →
      Certain (IsOfType e c ty) (value_of sight x)
  value_certain (Int k) (t.narrow j b) h w =
      certain_then (OfSort (PointsTo e c) so.word) (IsOfType e c (Int k)) (value_of sight b) _
      (sort_certain b so.word h.1 w) (λ u l.
      certain_then IsWord (IsOfType e c (Int k)) (word_in u) _ (word_certain u l)
      (λ m i. subst (λ kind. IsTrue (is_of_kind (narrowed m j) kind)) h.0 (narrowed_is_of_kind m j i)))
  value_certain (Int k) _ h w = absurd h
  value_certain (Ptr k) x h w = gets_map (OfSort (PointsTo e c) (so.pointer k)) (IsOfType e c (Ptr k)) _
      (sort_certain x (so.pointer k) h w) (pointer_typed k)
  value_certain Void x h w = absurd h
  value_certain (Array k n) x h w = absurd h

  -- values of these types
  abbrev pub AreOfTypes : List Ty → List (Value Object) → Type 0
  AreOfTypes [] [] = ⊤
  AreOfTypes [] (v ∷ vals) = ⊥
  AreOfTypes (ty ∷ tys) [] = ⊥
  AreOfTypes (ty ∷ tys) (v ∷ vals) = IsOfType e c ty v × AreOfTypes tys vals

  pub values_certain : (tys : List Ty) (args : List TypedExprTree) → AreValues vs ds tys args → AllHaveWords args →
      Certain (AreOfTypes tys) (values_of sight args)
  values_certain [] [] h w = tt
  values_certain [] (x ∷ args) h w = absurd h
  values_certain (ty ∷ tys) [] h w = absurd h
  values_certain (ty ∷ tys) (x ∷ args) h w =
      certain_then (IsOfType e c ty) (AreOfTypes (ty ∷ tys)) (value_of sight x) _ (value_certain ty x h.0 w.0) (λ v l.
      certain_then (AreOfTypes tys) (AreOfTypes (ty ∷ tys)) (values_of sight args) _ (values_certain tys args h.1 w.1)
      (λ vals m. (l, m)))

  abbrev IsLess : ℕ → ℕ → Type 0
  IsLess len i = i < len

  abbrev IsBehind : Kind → Object × ℕ → Type 0
  IsBehind k d = PointsTo e c k d.0 d.1 × ThereIs (OfSort (PointsTo e c) so.word) (value_at (cells_at memory d.0) d.1)

  -- a word of a shared global, of this kind
  pub record IsWritable (g i : ℕ) (k : Kind) : Type 0 where
    pub first : ℕ
    pub len : ℕ
    pub guard : Option ℕ
    pub is_shared : e.entity a.function.unit g ≡ Some (shared first len guard)
    pub kind : slice_get e.kinds (first + i) ≡ Some (Some k)

  -- a cell that is there, and may hold values of this type
  abbrev pub CellFits : Ty → Cell Object → Type 0
  CellFits ty (of_object o p) = ThereIs Any (value_at (cells_at memory o) p)
      × ((v : Value Object) → IsOfType e c ty v → MayHold e c (a ∷ older) o v)
  CellFits ty (of_global g i) = (k : Kind) × (ty ≡ Int k) × IsWritable g i k

  -- an integer or a pointer
  abbrev IsScalar : Ty → Type 0
  IsScalar (Int k) = ⊤
  IsScalar (Ptr k) = ⊤
  IsScalar Void = ⊥
  IsScalar (Array k n) = ⊥

  pub value_scalar : (ty : Ty) (x : TypedExprTree) → IsValue vs ds ty x → IsScalar ty
  value_scalar (Int k) x h = tt
  value_scalar (Ptr k) x h = tt
  value_scalar Void x h = absurd h
  value_scalar (Array k n) x h = absurd h

  scalar_word : (ty : Ty) → IsScalar ty → 0 < words_of_ty ty
  scalar_word (Int k) h = omega arith
  scalar_word (Ptr k) h = omega arith
  scalar_word Void h = absurd h
  scalar_word (Array k n) h = absurd h

  scalar_cell : (ty : Ty) → IsScalar ty → cell_type ty ≡ ty
  scalar_cell (Int k) h = refl
  scalar_cell (Ptr k) h = refl
  scalar_cell Void h = absurd h
  scalar_cell (Array k n) h = absurd h

  object_cell : (ty : Ty) (k : Kind) → IsObjectOf ty k → cell_type ty ≡ Int k
  object_cell (Int j) k h = ap Int h
  object_cell (Array j n) k h = ap Int h
  object_cell Void k h = absurd h
  object_cell (Ptr j) k h = absurd h

  own_holds : (n : ℕ) (ty : Ty) → IsLocal vs n ty → IsScalar ty → (v : Value Object) → IsOfType e c ty v →
      MayHold e c (a ∷ older) (own e a older memory fresh started n) v
  own_holds n ty is scalar v h tys other these has =
      let same : vs ≡ tys = (let both : Some vs ≡ Some tys = sym (own_types e a older memory fresh started)
      ∙ these in cc both) in
      let it : Some ty ≡ Some other = sym is ∙ ap (λ ts. slice_get ts n) same ∙ has in
      let one : ty ≡ other = cc it in
      subst (λ x. IsOfType e c (cell_type x) v) one (subst (λ x. IsOfType e c x v) (sym (scalar_cell ty scalar)) h)

  behind_holds : (k : Kind) (o : Object) (p : ℕ) → PointsTo e c k o p → (v : Value Object) → IsOfType e c (Int k) v →
      MayHold e c (a ∷ older) o v
  behind_holds k o p points v h tys other these has =
      let (ty, slot, object, below) = points.in_reach tys these in
      let it : Some ty ≡ Some other = sym slot ∙ has in
      let one : ty ≡ other = cc it in
      subst (λ x. IsOfType e c (cell_type x) v) one (subst (λ x. IsOfType e c x v) (sym (object_cell ty k object)) h)

  any_there : {A : Type 0} (P : A → Type 0) (x : Option A) → ThereIs P x → ThereIs Any x
  any_there P None h = absurd h
  any_there P (Some v) h = tt

  own_cell : (n : ℕ) (ty : Ty) → IsLocal vs n ty → IsScalar ty →
      CellFits ty (of_object (own e a older memory fresh started n) 0)
  own_cell n ty is scalar = (
    any_there (IsOfType e c (cell_type ty)) (value_at (cells_at memory (own e a older memory fresh started n)) 0)
        (value_there e c ty (cells_at memory (own e a older memory fresh started n)) 0
        (own_match e a older memory fresh started blocks n ty is) (scalar_word ty scalar)),
    own_holds n ty is scalar,
  )

  writable_by : (g i : ℕ) (ty : Ty) (k : Kind) (guard : List ℕ) (it : Option Entity) → e.entity a.function.unit g ≡ it →
      StandsFor modules e (Shared ty guard) it → kind_of ty ≡ Some k → i < words_of_ty ty → IsWritable g i k
  writable_by g i ty k guard None is stands of less = absurd stands
  writable_by g i ty k guard (Some (function f)) is stands of less = absurd stands
  writable_by g i ty k guard (Some outside) is stands of less = absurd stands
  writable_by g i ty k guard (Some (table first len)) is stands of less = absurd stands
  writable_by g i ty k guard (Some (lock n)) is stands of less = absurd stands
  writable_by g i ty k guard (Some (shared first len by)) is stands of less =
      record { first = first; len = len; guard = by; is_shared = is; kind = stands.1 i less ∙ ap Some of }

  writable : (g i : ℕ) (ty : Ty) (k : Kind) (guard : List ℕ) → IsDeclared ds g (Shared ty guard) → kind_of ty ≡ Some k →
      i < words_of_ty ty → IsWritable g i k
  writable g i ty k guard declared of less = writable_by g i ty k guard (e.entity a.function.unit g) refl
      (stands_for modules e well_formed unit a.function.unit unit_is g (Shared ty guard) declared) of less

  pub target_certain : (target : TypedTargetTree) (ty : Ty) → IsCell vs ds target ty → IsScalar ty →
      TargetHasWords target → Certain (CellFits ty) (target_of sight target)
  target_certain (to_local n) ty h scalar w = own_cell n ty h scalar
  target_certain (to_global g at) (Int k) h scalar w =
      certain_then (IsLess 1) (CellFits (Int k)) (only_place (length_of (sight.entity g))) _
      (only_sure (PointsTo e c) vs ds sight ws memory
      (sees e a older memory fresh started blocks modules well_formed unit unit_is ws fits) g k
      (Shared (Int k) h.0, h.1, refl))
      (λ i less. (k, refl, writable g i (Int k) k h.0 h.1 refl less))
  target_certain (to_global g at) (Ptr k) h scalar w = absurd h
  target_certain (to_global g at) Void h scalar w = absurd h
  target_certain (to_global g at) (Array k n) h scalar w = absurd h
  target_certain (to_element g at sign x) (Int k) h scalar w =
      certain_then (OfSort (PointsTo e c) so.word) (CellFits (Int k)) (value_of sight x) _
      (sort_certain x so.word h.3 w) (λ v l.
      certain_then (IsLess h.1) (CellFits (Int k)) (element_place sight g sign v) _
      (element_sure (PointsTo e c) vs ds sight ws memory
      (sees e a older memory fresh started blocks modules well_formed unit unit_is ws fits) g k h.1 sign v
      (Shared (Array k h.1) h.0, h.2, refl) l)
      (λ i less. (k, refl, writable g i (Array k h.1) k h.0 h.2 refl less)))
  target_certain (to_element g at sign x) (Ptr k) h scalar w = absurd h
  target_certain (to_element g at sign x) Void h scalar w = absurd h
  target_certain (to_element g at sign x) (Array k n) h scalar w = absurd h
  target_certain (to_behind j p) (Int k) h scalar w =
      certain_then (OfSort (PointsTo e c) (so.pointer k)) (CellFits (Int k)) (value_of sight p) _
      (sort_certain p (so.pointer k) h.1 w) (λ u l.
      certain_then (Aims (PointsTo e c) k) (CellFits (Int k)) (pointed u) _
      (pointed_sure (PointsTo e c) vs ds sight ws memory
      (sees e a older memory fresh started blocks modules well_formed unit unit_is ws fits) k u l) (λ to i.
      certain_then (IsBehind k) (CellFits (Int k)) (cell_behind to) _
      (cell_sure (PointsTo e c) vs ds sight ws memory
      (sees e a older memory fresh started blocks modules well_formed unit unit_is ws fits) k to i) (λ d m. (
        any_there (OfSort (PointsTo e c) so.word) (value_at (cells_at memory d.0) d.1)
            m.1,
        behind_holds k d.0 d.1 m.0,
      ))))
  target_certain (to_behind j p) (Ptr k) h scalar w = absurd h
  target_certain (to_behind j p) Void h scalar w = absurd h
  target_certain (to_behind j p) (Array k n) h scalar w = absurd h
