-- Where a sound thread stands that hasn't ended: what evaluating meets there.
use Rattle.std.proofs.Common.{arith, ◌≡◌, inl, inr, ℕ, zero, suc, ◌+◌, ◌^◌, ◌<◌, ◌≤◌, false, List, [], ◌∷◌, map, Option, Some, None, refl, sym, ap, subst, ◌∙◌, if◌then◌else◌, IsTrue}
use Rattle.std.specs.Prelude.{◌⊎◌, slice_get, All}
use Rattle.std.specs.Option.{option_map}
use Rattle.std.proofs.lemmas.Bool.{eq-eqb}
use Rattle.std.proofs.lemmas.Bool.Decides.{nat_tests}
use Rattle.std.proofs.lemmas.Option.{slice_get-map, slice_get_within, get_or_from_slice_get}
use Rattle.cas_base.specs.Kind.{is_of_kind}
use Rattle.cas_base.specs.Ty.{words_of_ty}
use Rattle.cas_base.specs.declared.decl.Decl.{Decl}
use Rattle.cas_base.specs.declared.decl.Form.{Form}
use Rattle.cas_base.specs.declared.decl.Form.TheVariants.{Lock, Shared, Table, Function as AFunction}
use Rattle.cas_base.specs.declared.kind.Kind.{Kind}
use Rattle.cas_base.specs.declared.kind.Ty.{Ty}
use Rattle.cas_base.specs.declared.kind.Ty.TheVariants.{Void, Int, Ptr, Array}
use Rattle.cas_typed.specs.Modules.{decl_of, return_type, decls_of}
use Rattle.cas_typed.specs.Resolved.{TypedFunTree, TypedModuleTree}
use Rattle.cas_typed.specs.Sorts as so
use Rattle.cas_typed.specs.Sorts.{IsLocal, IsVariable, AreSorted, IsSortedFunction, IsSortedModule}
use Rattle.cas_typed.specs.Types.{variable_type}
use Rattle.cas_step.specs.Asks.{Value, word, null, pointer}
use Rattle.cas_step.specs.Env.{FunctionAt, Entity, function, outside, shared, table, lock, length_of, Env}
use Rattle.cas_step.specs.Well_formed.{IsAt, IsFunctionOf, kind_of, AreCells, StandsFor, IsWellFormed, IsWellTypedWord, AreWellTypedWords, IsWellTypedStore}
use Rattle.cas_typed.specs.Literals.{BodyHasWords}
use Rattle.cas_step.specs.Sound.{types_of, types_at, IsObjectOf, PointsTo, IsOfType, cell_type, AreBlocks}
use Rattle.cas_step.specs.Answered.{size_of, value_at, word_at}
use Rattle.cas_step.specs.Step.{Object, Activation, Block, Config, StepContext, eval_context_of, cells_at}
use Rattle.cas_step.proofs.Memory.{CellsMatch, type_at, object_match, value_there, reached, IsLive}
use Rattle.cas_step.proofs.Values.{ThereIs, IsWord, OfSort, Sees}

pub all_at : {X : Type 0} (P : X → Type 0) (xs : List X) (k : ℕ) (x : X) → slice_get xs k ≡ Some x → All P xs → P x
all_at P xs k x is all = subst P (get_or_from_slice_get xs k x x is) (all k x (slice_get_within xs k x is))

pub word_of_kind : (n : ℕ) (k : Kind) → IsTrue (is_of_kind n k) → n < 2 ^ 32
word_of_kind n k h = grind (arith, nat_tests, h)

pub there_map : {A : Type 0} (P Q : A → Type 0) (x : Option A) → ThereIs P x → ((a : A) → P a → Q a) → ThereIs Q x
there_map P Q None h go = absurd h
there_map P Q (Some a) h go = go a h

-- the types of a function's locals, what it returns and its body are well sorted

module _ (modules : List TypedModuleTree) (e : Env) (well_formed : IsWellFormed modules e) (f : FunctionAt)
    (unit : TypedModuleTree) (it : TypedFunTree) (at_place : IsAt modules f unit it) where
  abbrev pub decls : List Decl
  decls = decls_of unit

  is_function : IsFunctionOf unit it (e.function f)
  is_function = well_formed.functions f unit it at_place

  is_sorted : IsSortedFunction decls it
  is_sorted = all_at (IsSortedFunction decls) unit.functions f.place it at_place.function_is
      (all_at IsSortedModule modules f.unit unit at_place.unit_is well_formed.sorted)

  declared_so : is_sorted.0.form ≡ is_function.tree.decl.form
  declared_so =
      let here : Some is_sorted.0 ≡ Some is_function.tree.decl = sym is_sorted.1
      ∙ slice_get-map decl_of unit.module_tree.items it.item ∙ ap (option_map decl_of) is_function.item in
      let same : is_sorted.0 ≡ is_function.tree.decl = cc here in ap (λ d. d.form) same

  pub body_sorted : AreSorted (e.function f).locals decls (e.function f).ret false (e.function f).body
  body_sorted =
      subst (λ vs. AreSorted vs decls (e.function f).ret false (e.function f).body) (sym is_function.locals)
      (subst (λ ret. AreSorted (map (λ v. v.ty) it.locals) decls ret false (e.function f).body)
      (ap return_type declared_so ∙ sym is_function.ret)
      (subst (λ body. AreSorted (map (λ v. v.ty) it.locals) decls (return_type is_sorted.0.form) false body)
      (sym is_function.body) is_sorted.2))

  pub body_words : BodyHasWords (e.function f).body
  body_words = subst BodyHasWords (sym is_function.body) is_function.literals

-- words that fit

pub word_fits : (kinds : List (Option Kind)) (ws : List ℕ) (n : ℕ) (k : Option Kind) → AreWellTypedWords kinds ws →
    slice_get kinds n ≡ Some k → ThereIs (IsWellTypedWord k) (slice_get ws n)
word_fits [] [] n k h is = absurd (cc is)
word_fits [] (w ∷ ws) n k h is = absurd h
word_fits (j ∷ ks) [] n k h is = absurd h
word_fits (j ∷ ks) (w ∷ ws) zero k h is = let same : j ≡ k = cc is in subst (λ i. IsWellTypedWord i w) same h.0
word_fits (j ∷ ks) (w ∷ ws) (suc n) k h is = word_fits ks ws n k h.1 is

module _ (modules : List TypedModuleTree) (e : Env) (well_formed : IsWellFormed modules e) (unit : TypedModuleTree)
    (n : ℕ) (unit_is : slice_get modules n ≡ Some unit) where
  -- what a declaration of this form stands for
  pub stands_for : (g : ℕ) (form : Form) → so.IsDeclared (decls_of unit) g form →
      StandsFor modules e form (e.entity n g)
  stands_for g form (d, is, so) = subst (λ x. StandsFor modules e x (e.entity n g)) so
      (well_formed.entities n g unit d unit_is is)

  -- a variable has so many words, of a kind
  abbrev IsStretch : Ty → (ws : List ℕ) → Option Entity → Type 0
  IsStretch ty ws it = (length_of it ≡ Some (words_of_ty ty))
      × ((i : ℕ) → i < words_of_ty ty → ThereIs (IsWellTypedWord (kind_of ty)) (word_at (slice_get ws) it i))

  stretch_by : (form : Form) (ty : Ty) (ws : List ℕ) (it : Option Entity) → IsWellTypedStore e ws →
      variable_type form ≡ Some ty → StandsFor modules e form it → IsStretch ty ws it
  stretch_by Lock ty ws it fits is stands = absurd (cc is)
  stretch_by (AFunction ret params holds) ty ws it fits is stands = absurd (cc is)
  stretch_by (Shared of name) ty ws None fits is stands = absurd stands
  stretch_by (Shared of name) ty ws (Some (function f)) fits is stands = absurd stands
  stretch_by (Shared of name) ty ws (Some outside) fits is stands = absurd stands
  stretch_by (Shared of name) ty ws (Some (table first len)) fits is stands = absurd stands
  stretch_by (Shared of name) ty ws (Some (lock m)) fits is stands = absurd stands
  stretch_by (Shared of name) ty ws (Some (shared first len guard)) fits is stands =
      let same : of ≡ ty = cc is in (
        ap Some (stands.0 ∙ ap words_of_ty same),
        λ i less. word_fits e.kinds ws (first + i) (kind_of ty) fits
            (subst (AreCells e.kinds first) same stands.1 i less),
      )
  stretch_by (Table of) ty ws None fits is stands = absurd stands
  stretch_by (Table of) ty ws (Some (function f)) fits is stands = absurd stands
  stretch_by (Table of) ty ws (Some outside) fits is stands = absurd stands
  stretch_by (Table of) ty ws (Some (shared first len guard)) fits is stands = absurd stands
  stretch_by (Table of) ty ws (Some (lock m)) fits is stands = absurd stands
  stretch_by (Table of) ty ws (Some (table first len)) fits is stands =
      let same : of ≡ ty = cc is in (
        ap Some (stands.0 ∙ ap words_of_ty same),
        λ i less. word_fits e.kinds ws (first + i) (kind_of ty) fits
            (subst (AreCells e.kinds first) same stands.1 i less),
      )

  variable_stretch : (g : ℕ) (ty : Ty) (ws : List ℕ) → IsWellTypedStore e ws → IsVariable (decls_of unit) g ty →
      IsStretch ty ws (e.entity n g)
  variable_stretch g ty ws fits (form, declared, is) =
      stretch_by form ty ws (e.entity n g) fits is (stands_for g form declared)

  word_by : (o : Option Kind) (k : Kind) (w : ℕ) → o ≡ Some k → IsWellTypedWord o w → IsWord w
  word_by None k w is h = absurd (cc is)
  word_by (Some j) k w is h = word_of_kind w j h

  pub length_there : (g : ℕ) (ty : Ty) (ws : List ℕ) → IsWellTypedStore e ws → IsVariable (decls_of unit) g ty →
      length_of (e.entity n g) ≡ Some (words_of_ty ty)
  length_there g ty ws fits is = (variable_stretch g ty ws fits is).0

  pub word_there : (g : ℕ) (ty : Ty) (k : Kind) (i : ℕ) (ws : List ℕ) → IsWellTypedStore e ws →
      IsVariable (decls_of unit) g ty → kind_of ty ≡ Some k → i < words_of_ty ty →
      ThereIs IsWord (word_at (slice_get ws) (e.entity n g) i)
  word_there g ty k i ws fits is of less = there_map (IsWellTypedWord (kind_of ty)) IsWord
      (word_at (slice_get ws) (e.entity n g) i) ((variable_stretch g ty ws fits is).1 i less)
      (λ w h. word_by (kind_of ty) k w of h)

-- the locals

module _ (e : Env) (a : Activation) (older : List Activation) (memory : List Block) (fresh : ℕ)
    (begun : a.serial < fresh) where
  -- the thread
  abbrev pub thread : Config
  thread = record { activations = a ∷ older; memory = memory; fresh = fresh }

  -- where it stands
  abbrev pub standing : List ℕ → StepContext
  standing ws = record { config = thread; newest = a; older = older; words = ws }

  -- a local of the newest activation
  abbrev pub own : ℕ → Object
  own n = record { serial = a.serial; local = n }

  pub own_types : types_at e (a ∷ older) a.serial ≡ Some (types_of e a)
  own_types = ap (λ t. if t then Some (types_of e a) else types_at e older a.serial) (eq-eqb a.serial a.serial refl)

  module _ (blocks : AreBlocks e thread (a ∷ older) memory) where
    pub own_match : (n : ℕ) (ty : Ty) → IsLocal (types_of e a) n ty →
        CellsMatch e thread (Some ty) (cells_at memory (own n))
    own_match n ty is = subst (λ x. CellsMatch e thread x (cells_at memory (own n)))
        (ap (λ tys. type_at e thread tys n) own_types ∙ is) (object_match e thread (a ∷ older) memory blocks (own n))

    abbrev Points : Kind → Object → ℕ → Type 0
    Points = PointsTo e thread

    word_sort : (k : Kind) (v : Value Object) → IsOfType e thread (Int k) v → OfSort Points so.word v
    word_sort k (word n) h = word_of_kind n k h
    word_sort k null h = absurd h
    word_sort k (pointer o p) h = absurd h

    pointer_sort : (k : Kind) (v : Value Object) → IsOfType e thread (Ptr k) v → OfSort Points (so.pointer k) v
    pointer_sort k (word n) h = absurd h
    pointer_sort k null h = tt
    pointer_sort k (pointer o p) h = h

    cell_sort : (ty : Ty) (k : Kind) (v : Value Object) → IsObjectOf ty k → IsOfType e thread (cell_type ty) v →
        OfSort Points so.word v
    cell_sort (Int j) k v is h = word_sort j v h
    cell_sort (Array j n) k v is h = word_sort j v h
    cell_sort Void k v is h = absurd is
    cell_sort (Ptr j) k v is h = absurd is

    pub integer_there : (n : ℕ) (k : Kind) → IsLocal (types_of e a) n (Int k) →
        ThereIs (OfSort Points so.word) (value_at (cells_at memory (own n)) 0)
    integer_there n k is = there_map (IsOfType e thread (Int k)) (OfSort Points so.word)
        (value_at (cells_at memory (own n)) 0)
        (value_there e thread (Int k) (cells_at memory (own n)) 0 (own_match n (Int k) is) (omega arith)) (word_sort k)

    pub pointer_there : (n : ℕ) (k : Kind) → IsLocal (types_of e a) n (Ptr k) →
        ThereIs (OfSort Points (so.pointer k)) (value_at (cells_at memory (own n)) 0)
    pointer_there n k is = there_map (IsOfType e thread (Ptr k)) (OfSort Points (so.pointer k))
        (value_at (cells_at memory (own n)) 0)
        (value_there e thread (Ptr k) (cells_at memory (own n)) 0 (own_match n (Ptr k) is) (omega arith))
        (pointer_sort k)

    points_own : (n : ℕ) (k : Kind) (ty : Ty) → IsLocal (types_of e a) n ty → IsObjectOf ty k → Points k (own n) 0
    points_own n k ty is object = record {
      begun_before = begun;
      in_reach = λ tys these.
          let same : types_of e a ≡ tys = (let both : Some (types_of e a) ≡ Some tys = sym own_types ∙ these in cc both)
          in
          (ty, subst (λ ts. slice_get ts n ≡ Some ty) same is, object, omega arith);
    }

    pub own_there : (n : ℕ) (k : Kind) → IsLocal (types_of e a) n (Int k)
        ⊎ ((len : ℕ) × IsLocal (types_of e a) n (Array k len)) → Points k (own n) 0
    own_there n k (inl is) = points_own n k (Int k) is refl
    own_there n k (inr (len, is)) = points_own n k (Array k len) is refl

    -- an object to which a pointer points
    pub live_there : (k : Kind) (o : Object) (p m : ℕ) → Points k o p → size_of (cells_at memory o) ≡ Some m →
        IsLive e thread k o p m (types_at e (a ∷ older) o.serial) (cells_at memory o)
    live_there k o p m points size = reached e thread k o p m (types_at e (a ∷ older) o.serial) (cells_at memory o)
        refl points (object_match e thread (a ∷ older) memory blocks o) size

    pub load_there : (k : Kind) (o : Object) (p m : ℕ) → Points k o p → size_of (cells_at memory o) ≡ Some m → p < m →
        ThereIs (OfSort Points so.word) (value_at (cells_at memory o) p)
    load_there k o p m points size less =
        let it = live_there k o p m points size in
        there_map (IsOfType e thread (cell_type it.ty)) (OfSort Points so.word) (value_at (cells_at memory o) p)
        (value_there e thread it.ty (cells_at memory o) p it.matching (subst (λ n. p < n) it.size less))
        (λ v. cell_sort it.ty k v it.is_object)

    within_by : (k : Kind) (o : Object) (p m q : ℕ) → Points k o p → size_of (cells_at memory o) ≡ Some m → q ≤ m →
        (tys : List Ty) → types_at e (a ∷ older) o.serial ≡ Some tys →
        (ty : Ty) × (slice_get tys o.local ≡ Some ty) × IsObjectOf ty k × (q ≤ words_of_ty ty)
    within_by k o p m q points size at_most tys these =
        let it = reached e thread k o p m (Some tys) (cells_at memory o) these points
        (subst (λ x. CellsMatch e thread (type_at e thread x o.local) (cells_at memory o)) these
        (object_match e thread (a ∷ older) memory blocks o)) size in
        (it.ty, it.has_type, it.is_object, subst (λ n. q ≤ n) it.size at_most)

    pub moves_there : (k : Kind) (o : Object) (p m q : ℕ) → Points k o p → size_of (cells_at memory o) ≡ Some m →
        q ≤ m → Points k o q
    moves_there k o p m q points size at_most = record
        { begun_before = points.begun_before; in_reach = within_by k o p m q points size at_most }

    module _ (modules : List TypedModuleTree) (well_formed : IsWellFormed modules e) (unit : TypedModuleTree)
        (unit_is : slice_get modules a.function.unit ≡ Some unit) (ws : List ℕ) (fits : IsWellTypedStore e ws) where
      -- what evaluating meets
      pub sees : Sees Points (types_of e a) (decls_of unit) (eval_context_of e (standing ws)) ws memory
      sees = record {
        integers = integer_there;
        pointers = pointer_there;
        own = own_there;
        loads = load_there;
        moves = moves_there;
        lengths = λ g ty is. length_there modules e well_formed unit a.function.unit unit_is g ty ws fits is;
        words = λ g ty k i is of less. word_there modules e well_formed unit a.function.unit unit_is g ty k i ws fits is
            of less;
      }
