-- What the first item of a sound thread does: there is sense in it, and it fits.
use Rattle.std.proofs.Common.{◌≡◌, inl, inr, ℕ, ◌<◌, Bool, true, false, List, [], ◌∷◌, map, Option, Some, None, refl, subst, IsTrue}
use Rattle.std.specs.Prelude.{⊤, slice_get}
use Rattle.cas_base.specs.Kind.{is_of_kind}
use Rattle.cas_base.specs.declared.decl.Form.TheVariants.{Lock, Function as AFunction}
use Rattle.cas_base.specs.declared.kind.Kind.{Kind}
use Rattle.cas_base.specs.declared.kind.Kind.TheVariants.{I8, U8, I16, U16, I32, U32}
use Rattle.cas_base.specs.declared.kind.Ty.{Ty}
use Rattle.cas_base.specs.declared.kind.Ty.TheVariants.{Void, Int, Ptr, Array}
use Rattle.cas_typed.specs.declared.tree.Destination.{Destination}
use Rattle.cas_typed.specs.Modules.{decls_of}
use Rattle.cas_typed.specs.Resolved as t
use Rattle.cas_typed.specs.Resolved.{TypedExprTree, TypedTargetTree, to_local, to_global, to_element, to_behind, TypedStmtTree, TypedStmtOption, absent, present, TypedStmtList, TypedFunTree, TypedModuleTree}
use Rattle.cas_typed.specs.Sorts.{IsDeclared, MayKeep, MayReturn, IsTest}
use Rattle.cas_typed.specs.Types.{no_value}
use Rattle.cas_step.specs.Asks.{Value, word, null, pointer, Asks, gives, and_then, word_in}
use Rattle.cas_step.specs.Env.{FunctionAt, Entity, function, outside, shared, table, lock, Env}
use Rattle.cas_step.specs.Evaluate.{EvalContext, Cell, of_object, of_global, either, value_of, values_of, test_of, target_of}
use Rattle.cas_step.specs.Well_formed.{IsAt, HasSignature, StandsFor, IsWellFormed, IsWellTypedStore}
use Rattle.cas_step.specs.Continuation.{ContItem, begin, begun, loop, next, begin_part, after_break, after_continue, fallen, Effect, continues, stores, writes, calls, returns, locks, unlocks, prints, into, jumps, chooses, returned, statement_effect, effect_of}
use Rattle.cas_typed.specs.Literals.{OptionHasWords}
use Rattle.cas_step.specs.Sound.{types_of, PointsTo, IsOfType, AreBlocks}
use Rattle.cas_step.specs.Stands.{StandsIn, of_block, where_true, where_false, MayLeave, MayDo}
use Rattle.cas_step.specs.Answered.{value_at}
use Rattle.cas_step.specs.Step.{Object, Activation, Block, Config, eval_context_of, cells_at}
use Rattle.cas_step.proofs.Memory.{MayHold}
use Rattle.cas_step.proofs.Situation.{thread, standing, sees, stands_for, body_sorted, body_words}
use Rattle.cas_step.proofs.Standing.{IsGood, stands_good, loop_test, for_test, all_may, part_may, begun_may, turn_may, for_may, after_stands, broken_may, continued_may}
use Rattle.cas_step.proofs.Values.{ThereIs, test_sure}
use Rattle.cas_step.proofs.Within.{Any}
use Rattle.cas_step.proofs.Targets.{Certain, certain_then, value_certain, values_certain, AreOfTypes, IsWritable, CellFits, value_scalar, target_certain}

-- what an effect needs so that the thread stays sound behind it
module _ (modules : List TypedModuleTree) (e : Env) (well_formed : IsWellFormed modules e) (a : Activation)
    (older : List Activation) (memory : List Block) (fresh : ℕ) (started : a.serial < fresh)
    (blocks : AreBlocks e (thread e a older memory fresh started) (a ∷ older) memory) (unit : TypedModuleTree)
    (unit_is : slice_get modules a.function.unit ≡ Some unit) (ws : List ℕ) (fits : IsWellTypedStore e ws) where
  abbrev now : Config
  now = record { activations = a ∷ older; memory = memory; fresh = fresh }

  abbrev entity : ℕ → Option Entity
  entity g = e.entity a.function.unit g

  abbrev body : TypedStmtList
  body = (e.function a.function).body

  -- the value is what a function of this type returns
  abbrev pub IsReturned : (ret : Ty) → Option (Value Object) → Type 0
  IsReturned (Int k) None = ⊥
  IsReturned (Int k) (Some v) = IsOfType e now (Int k) v
  IsReturned (Ptr k) None = ⊥
  IsReturned (Ptr k) (Some v) = IsOfType e now (Ptr k) v
  IsReturned Void v = ⊤
  IsReturned (Array k n) v = ⊤

  -- a function that is there, which takes these arguments and returns so
  pub record IsCalled (g : ℕ) (args : List (Value Object)) (kept : Option Destination) : Type 0 where
    pub f : FunctionAt
    pub gives : Ty
    pub tys : List Ty
    pub holds : List (List ℕ)
    pub declared : IsDeclared (decls_of unit) g (AFunction gives tys holds)
    pub unit_of : TypedModuleTree
    pub it : TypedFunTree
    pub is_function : entity g ≡ Some (function f)
    pub at_place : IsAt modules f unit_of it
    pub signature : HasSignature (e.function f) gives tys
    pub arguments : AreOfTypes modules e well_formed a older memory fresh started blocks unit unit_is ws fits tys args
    pub keeps : MayKeep (types_of e a) kept gives

  abbrev pub IsLockOf : ℕ → Type 0
  IsLockOf g = (n : ℕ) × (entity g ≡ Some (lock n))

  abbrev pub EffectFits : Effect Object → Type 0
  EffectFits (continues cont) = MayDo body cont
  EffectFits (stores o i v cont) = ThereIs Any (value_at (cells_at memory o) i) × MayHold e now (a ∷ older) o v
      × MayDo body cont
  EffectFits (writes g i n cont) = (k : Kind) × IsWritable modules e well_formed a older memory fresh started blocks
      unit unit_is ws fits g i k × IsTrue (is_of_kind n k) × MayDo body cont
  EffectFits (calls g args kept cont) = IsCalled g args kept × MayDo body cont
  EffectFits (returns v) = IsReturned (e.function a.function).ret v
  EffectFits (locks g cont) = IsLockOf g × MayDo body cont
  EffectFits (unlocks g cont) = IsLockOf g × MayDo body cont
  EffectFits (prints n cont) = MayDo body cont

  abbrev pub Surely : {A : Type 0} → (A → Type 0) → Asks Object A → Type 0
  Surely P x = Certain modules e well_formed a older memory fresh started blocks unit unit_is ws fits P x

  abbrev pub in_context : EvalContext Object
  in_context = eval_context_of e (standing e a older memory fresh started ws)

  surely_then : {A B : Type 0} (P : A → Type 0) (Q : B → Type 0) (x : Asks Object A) (more : A → Asks Object B) →
      Surely P x → ((v : A) → P v → Surely Q (more v)) → Surely Q (and_then x more)
  surely_then P Q x more h go = certain_then modules e well_formed a older memory fresh started blocks unit unit_is ws
      fits P Q x more h go

  into_word : (g i : ℕ) (k : Kind) (v : Value Object) (cont : List ContItem) →
      IsWritable modules e well_formed a older memory fresh started blocks unit unit_is ws fits g i k →
      IsOfType e now (Int k) v → MayDo body cont →
      Surely EffectFits (into (of_global g i) v cont)
  into_word g i k (word n) cont w l may = (k, w, l, may)
  into_word g i k null cont w l may = absurd l
  into_word g i k (pointer o p) cont w l may = absurd l

  into_certain : (ty : Ty) (cell : Cell Object) (v : Value Object) (cont : List ContItem) →
      CellFits modules e well_formed a older memory fresh started blocks unit unit_is ws fits ty cell →
      IsOfType e now ty v → MayDo body cont →
      Surely EffectFits (into cell v cont)
  into_certain ty (of_object o p) v cont h l may = (h.0, h.1 v l, may)
  into_certain ty (of_global g i) v cont h l may = into_word g i h.0 v cont h.2 (subst (λ x. IsOfType e now x v) h.1 l)
      may

  either_may : (is : Bool) (some others : List ContItem) → MayDo body some → MayDo body others →
      MayDo body (either some others is)
  either_may true some others h l = h
  either_may false some others h l = l

  chooses_certain : (x : Option TypedExprTree) (some others : List ContItem) → IsTest (types_of e a) (decls_of unit) x
      × OptionHasWords x → MayDo body some → MayDo body others → Surely EffectFits (chooses in_context x some others)
  chooses_certain None some others good h l = h
  chooses_certain (Some x) some others good h l = surely_then Any EffectFits (test_of in_context x) _
      (test_sure (PointsTo e now) (types_of e a) (decls_of unit) in_context ws memory
      (sees e a older memory fresh started blocks modules well_formed unit unit_is ws fits) x good.0 good.1)
      (λ is t. either_may is some others h l)

  none_returned : (ret : Ty) → no_value ret ≡ None → IsReturned ret None
  none_returned (Int k) is = absurd (cc is)
  none_returned (Ptr k) is = absurd (cc is)
  none_returned Void is = tt
  none_returned (Array k n) is = tt

  some_returned : (ret : Ty) (v : Value Object) → IsOfType e now ret v → IsReturned ret (Some v)
  some_returned (Int k) v h = h
  some_returned (Ptr k) v h = h
  some_returned Void v h = tt
  some_returned (Array k n) v h = tt

  zero_of_kind : (k : Kind) → IsTrue (is_of_kind 0 k)
  zero_of_kind I8 = refl
  zero_of_kind U8 = refl
  zero_of_kind I16 = refl
  zero_of_kind U16 = refl
  zero_of_kind I32 = refl
  zero_of_kind U32 = refl

  fallen_returned : (ret : Ty) → IsReturned ret (fallen ret)
  fallen_returned (Int k) = zero_of_kind k
  fallen_returned (Ptr k) = tt
  fallen_returned Void = tt
  fallen_returned (Array k n) = tt

  jumps_certain : (to : Option (List ContItem)) → ThereIs (MayDo body) to → Surely EffectFits (jumps to)
  jumps_certain None h = absurd h
  jumps_certain (Some cont) h = h

  leaves_by : (l : Bool) (cont : List ContItem) → l ≡ true → MayLeave l cont → MayLeave true cont
  leaves_by l cont is h = subst (λ b. MayLeave b cont) is h

  lock_there : (g : ℕ) → IsDeclared (decls_of unit) g Lock → IsLockOf g
  lock_there g declared =
      lock_by (entity g) refl (stands_for modules e well_formed unit a.function.unit unit_is g Lock declared)
    where
      lock_by : (x : Option Entity) → entity g ≡ x → StandsFor modules e Lock x → IsLockOf g
      lock_by None is h = absurd h
      lock_by (Some (function f)) is h = absurd h
      lock_by (Some outside) is h = absurd h
      lock_by (Some (shared first len by)) is h = absurd h
      lock_by (Some (table first len)) is h = absurd h
      lock_by (Some (lock n)) is h = (n, is)

  called_there : (g : ℕ) (args : List (Value Object)) (kept : Option Destination) (ret : Ty) (tys : List Ty)
      (holds : List (List ℕ)) → IsDeclared (decls_of unit) g (AFunction ret tys holds) →
      MayKeep (types_of e a) kept ret →
      AreOfTypes modules e well_formed a older memory fresh started blocks unit unit_is ws fits tys args →
      IsCalled g args kept
  called_there g args kept ret tys holds declared keeps typed =
      called_by (entity g) refl (stands_for modules e well_formed unit a.function.unit unit_is g
      (AFunction ret tys holds) declared)
    where
      called_by : (x : Option Entity) → entity g ≡ x → StandsFor modules e (AFunction ret tys holds) x →
          IsCalled g args kept
      called_by None is h = absurd h
      called_by (Some outside) is h = absurd h
      called_by (Some (shared first len by)) is h = absurd h
      called_by (Some (table first len)) is h = absurd h
      called_by (Some (lock n)) is h = absurd h
      called_by (Some (function f)) is h = record {
        f = f;
        gives = ret;
        tys = tys;
        holds = holds;
        declared = declared;
        unit_of = h.0;
        it = h.1;
        is_function = is;
        at_place = h.2;
        signature = h.3;
        arguments = typed;
        keeps = keeps;
      }

  module _ (it : TypedFunTree) (at_place : IsAt modules a.function unit it) where
    abbrev good_of : {l : Bool} {x : TypedStmtTree} → StandsIn body l x →
        IsGood (types_of e a) (decls_of unit) (e.function a.function).ret l x
    good_of s = stands_good (types_of e a) (decls_of unit) (e.function a.function).ret body
        (body_sorted modules e well_formed a.function unit it at_place)
        (body_words modules e well_formed a.function unit it at_place) s

    print_word : (v : Value Object) (cont : List ContItem) → IsOfType e now (Int I32) v → MayDo body cont →
        Surely EffectFits (and_then (word_in v) (λ n. gives (prints n cont)))
    print_word (word n) cont h may = may
    print_word null cont h may = absurd h
    print_word (pointer o p) cont h may = absurd h

    returned_certain : (x : Option TypedExprTree) → MayReturn (types_of e a) (decls_of unit)
        (e.function a.function).ret x → OptionHasWords x → Surely EffectFits (returned in_context x)
    returned_certain None h w = none_returned (e.function a.function).ret h
    returned_certain (Some x) h w = surely_then (IsOfType e now (e.function a.function).ret) EffectFits
        (value_of in_context x) _
        (value_certain modules e well_formed a older memory fresh started blocks unit unit_is ws fits
        (e.function a.function).ret x h w) (some_returned (e.function a.function).ret)

    statement_certain : (l : Bool) (x : TypedStmtTree) (cont : List ContItem) → StandsIn body l x → MayLeave l cont →
        MayDo body cont → Surely EffectFits (statement_effect in_context x cont)
    statement_certain l (t.skip p) cont s leave may = may
    statement_certain l (t.assign p target x) cont s leave may =
        let g = good_of s in
        surely_then (CellFits modules e well_formed a older memory fresh started blocks unit unit_is ws fits g.0.0)
        EffectFits (target_of in_context target) _
        (target_certain modules e well_formed a older memory fresh started blocks unit unit_is ws fits target g.0.0
        g.0.1 (value_scalar modules e well_formed a older memory fresh started blocks unit unit_is ws fits g.0.0 x
        g.0.2) g.1.0) (λ cell h.
        surely_then (IsOfType e now g.0.0) EffectFits (value_of in_context x) _
        (value_certain modules e well_formed a older memory fresh started blocks unit unit_is ws fits g.0.0 x g.0.2
        g.1.1) (λ v k. into_certain g.0.0 cell v cont h k may))
    statement_certain l (t.call p kept g at args) cont s leave may =
        let good = good_of s in
        surely_then (AreOfTypes modules e well_formed a older memory fresh started blocks unit unit_is ws fits good.0.1)
        EffectFits (values_of in_context args) _
        (values_certain modules e well_formed a older memory fresh started blocks unit unit_is ws fits good.0.1 args
        good.0.5 good.1)
        (λ vals h. (called_there g vals kept good.0.0 good.0.1 good.0.2 good.0.3 good.0.4 h, may))
    statement_certain l (t.block p bs) cont s leave may =
        all_may body l bs cont (λ b among. of_block l p bs b s among) leave may
    statement_certain l (t.if_ p x b otherwise) cont s leave may =
        let g = good_of s in
        chooses_certain (Some x) (begin b ∷ cont) (begin_part otherwise cont) (g.0.0, g.1.0)
        ((l, where_true l p x b otherwise s, leave), may)
        (part_may body l otherwise cont
        (λ d is. where_false l p x b d (subst (λ o. StandsIn body l (t.if_ p x b o)) is s)) leave may)
    statement_certain l (t.while_ p x b) cont s leave may =
        let g = good_of s in chooses_certain (Some x) (begin b ∷ begun p x b ∷ cont) cont (g.0.0, g.1.0)
        (begun_may body l p x b cont (inl s) may) may
    statement_certain l (t.do_ p b x) cont s leave may = begun_may body l p x b cont (inr s) may
    statement_certain l (t.for_ p i x u b) cont s leave may = for_may body l p i x u b cont s leave may
    statement_certain l (t.break_ p) cont s leave may = let g =
        good_of s in jumps_certain (after_break cont) (broken_may body cont may (leaves_by l cont g.0 leave).0)
    statement_certain l (t.continue_ p) cont s leave may = let g =
        good_of s in jumps_certain (after_continue cont) (continued_may body cont may (leaves_by l cont g.0 leave).1)
    statement_certain l (t.return_ p x) cont s leave may = let g = good_of s in returned_certain x g.0 g.1
    statement_certain l (t.lock p g) cont s leave may = (lock_there g (good_of s).0, may)
    statement_certain l (t.unlock p g) cont s leave may = (lock_there g (good_of s).0, may)
    statement_certain l (t.print p x) cont s leave may =
        let g = good_of s in
        surely_then (IsOfType e now (Int I32)) EffectFits (value_of in_context x) _
        (value_certain modules e well_formed a older memory fresh started blocks unit unit_is ws fits
        (Int I32) x g.0 g.1) (λ v h. print_word v cont h may)

    -- the first item does something that fits
    pub effect_certain : (cont : List ContItem) → MayDo body cont →
        Surely EffectFits (effect_of in_context (e.function a.function).ret cont)
    effect_certain [] may = fallen_returned (e.function a.function).ret
    effect_certain (begin x ∷ cont) may = statement_certain may.0.0 x cont may.0.1 may.0.2 may.1
    effect_certain (begun p x b ∷ cont) may = chooses_certain (Some x) (begin b ∷ begun p x b ∷ cont) cont
        (loop_test (types_of e a) (decls_of unit) (e.function a.function).ret body
        (body_sorted modules e well_formed a.function unit it at_place)
        (body_words modules e well_formed a.function unit it at_place) may.0.0 p x b may.0.1)
        (begun_may body may.0.0 p x b cont may.0.1 may.1) may.1
    effect_certain (loop p x u b ∷ cont) may = chooses_certain x (begin b ∷ next p u ∷ loop p x u b ∷ cont) cont
        (for_test (types_of e a) (decls_of unit) (e.function a.function).ret body
        (body_sorted modules e well_formed a.function unit it at_place)
        (body_words modules e well_formed a.function unit it at_place) may.0.0 p may.0.1 x u b may.0.2)
        (turn_may body p x u b cont may) may.1
    effect_certain (next p absent ∷ cont) may = may.1
    effect_certain (next p (present x) ∷ cont) may =
        let s = after_stands body p x cont may.0 may.1 in statement_certain s.0 x cont s.1 s.2 may.1
